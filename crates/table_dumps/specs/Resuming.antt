-- What of a peer's units matters for what later ones do to it.
use Rattle.std.specs.Prelude.{◌≡◌, List, None}
use Rattle.peer_units.specs.Plain.{Unit as ReplayUnit}
use Rattle.adj_rib.specs.Steps.{is_up, is_established, steps_of}
use Rattle.adj_rib.specs.Tables.{table_of}

-- two beginnings leave the peer alike: up or not, its session established or not, and with the same table
pub record LeaveAlike (units others : List ReplayUnit) : Type 0 where
  pub up : is_up units ≡ is_up others
  pub established : is_established units ≡ is_established others
  pub table : table_of (steps_of units) ≡ table_of (steps_of others)

-- a unit but for its place
abbrev pub forget : ReplayUnit → ReplayUnit
forget u = record u { place = record { file = 0; offset = 0; entry = None } }
