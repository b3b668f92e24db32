-- The units of some of the peers.
use Rattle.std.specs.Prelude.{Bool, List}
use Rattle.std.specs.List.{filter}
use Rattle.peer_units.specs.declared.unit.PeerKey.{PeerKey}
use Rattle.peer_units.specs.Plain.{Unit as ReplayUnit}

-- the units of the peers that pass a test
abbrev pub units_where : (PeerKey → Bool) → List ReplayUnit → List ReplayUnit
units_where takes units = filter (λ u. takes u.peer) units
