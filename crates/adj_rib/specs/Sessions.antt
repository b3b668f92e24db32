-- What a session keeps, and the units that it stands for.
use Rattle.std.specs.Prelude.{◌≡◌, Bool, false, List}
use Rattle.bgp_prefix.specs.Keys.{RouteKey}
use Rattle.bgp_update.specs.declared.route.Route.{Route}
use Rattle.peer_units.specs.Plain.{Unit as ReplayUnit}
use Rattle.peer_units.specs.declared.unit.Damage.{Damage}
use Rattle.adj_rib.specs.declared.arrivals.Arrivals.{Arrivals}
use Rattle.adj_rib.specs.declared.churn.Churn.{Churn}
use Rattle.adj_rib.specs.Steps.{is_up, is_established, steps_of}
use Rattle.adj_rib.specs.Tables.{table_of}
use Rattle.peer_units.specs.Choices.{Choices}
use Rattle.adj_rib.specs.Selecting.{chosen_entries}
use Rattle.adj_rib.specs.Arrived.{arrivals_of}
use Rattle.adj_rib.specs.Churns.{churn_of, damaged_of}

-- the table as its entries in order
pub record SessionState : Type 0 where
  pub up : Bool
  pub established : Bool
  pub table : List (RouteKey × Route)
  pub churn : Churn
  pub arrivals : Arrivals
  pub faults : List Damage
  pub spent : Bool

-- what a session is that took these units, in this order
unfoldable pub session_of : List ReplayUnit → SessionState
session_of units = record {
  up = is_up units;
  established = is_established units;
  table = table_of (steps_of units);
  churn = churn_of units;
  arrivals = arrivals_of units;
  faults = damaged_of units;
  spent = false;
}

-- a session of which the chosen routes of chosen prefixes are left
abbrev pub chosen_session : Choices → SessionState → SessionState
chosen_session choices session = record session { table = chosen_entries choices session.table }

-- a session that stands for these units
abbrev pub IsSessionOf : SessionState → List ReplayUnit → Type 0
IsSessionOf session units = session ≡ session_of units
