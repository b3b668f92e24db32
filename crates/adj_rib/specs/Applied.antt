-- What one step, and one unit, does to what a session keeps: the rules one at a time, as the code follows them.
use Rattle.std.specs.Prelude.{ℕ, ◌+◌, Bool, true, not, ◌&&◌, List, [], ◌∷◌, ◌++◌, Option, Some, None, Result, Ok, Err, is_some, unwrap_or, if◌then◌else◌}
use Rattle.std.specs.FinMap as finite
use Rattle.bgp_prefix.specs.Keys.{key_cmp}
use Rattle.mrt_frame.specs.declared.fault.Fault.{Fault}
use Rattle.bgp_update.specs.declared.route.Route.{Route}
use Rattle.peer_units.specs.Plain.{Unit as ReplayUnit}
use Rattle.peer_units.specs.declared.unit.Damage.{Damage}
use Rattle.peer_units.specs.Plain.{Event}
use Rattle.peer_units.specs.declared.meaning.Event.TheVariants as event
use Rattle.peer_units.specs.declared.state_rule.StateRule.{StateRule}
use Rattle.peer_units.specs.States.{established_by, up_by}
use Rattle.peer_units.specs.Payloads.{is_recorded}
use Rattle.adj_rib.specs.declared.churn.Churn.{Churn}
use Rattle.adj_rib.specs.declared.outcome.Outcome.{Outcome}
use Rattle.adj_rib.specs.declared.outcome.Outcome.TheVariants.{Added, Changed, Same, Gone, Void, Reset, Cleared}
use Rattle.adj_rib.specs.Steps.{Step, break, clear, announce, withdraw}
use Rattle.adj_rib.specs.Churns.{announced_over, fault_of, is_outcome, is_routing, stopped}

-- one more where the flag says so
abbrev pub counted_if : Bool → ℕ → ℕ
counted_if flag n = if flag then stopped (n + 1) else n

-- the counts after one more outcome
unfoldable pub counted : Outcome → Churn → Churn
counted o c = record {
  added = counted_if (is_outcome Added o) c.added;
  changed = counted_if (is_outcome Changed o) c.changed;
  same = counted_if (is_outcome Same o) c.same;
  gone = counted_if (is_outcome Gone o) c.gone;
  void = counted_if (is_outcome Void o) c.void;
  resets = counted_if (is_outcome Reset o) c.resets;
  idle = c.idle;
  refused = c.refused;
  first = c.first;
  last = c.last;
}

abbrev pub RouteMap : Type 0
RouteMap = finite.FinMap key_cmp Route

abbrev pub outcome_on : RouteMap → Step → Outcome
outcome_on table break = Reset
outcome_on table clear = Cleared
outcome_on table (announce k route) = announced_over (finite.get table k) route
outcome_on table (withdraw k) = if is_some (finite.get table k) then Gone else Void

abbrev pub table_after : RouteMap → Step → RouteMap
table_after table break = finite.empty
table_after table clear = finite.empty
table_after table (announce k route) = finite.insert table k route
table_after table (withdraw k) = finite.remove table k

-- a table with its counts, after one more step
abbrev pub applied : RouteMap × Churn → Step → RouteMap × Churn
applied rib step = (table_after rib.0 step, counted (outcome_on rib.0 step) rib.1)

-- the times after one more unit
unfoldable pub timed : ℕ → Churn → Churn
timed time c = record c { first = Some (unwrap_or c.first time); last = Some time }

-- the times after one more unit, if it is recorded
abbrev pub timed_by : ReplayUnit → Churn → Churn
timed_by unit c = if is_recorded unit.payload then timed unit.time c else c

-- the counts of idle and of damaged units after one more, by its reading
unfoldable pub noted : Bool → Result Event Fault → Churn → Churn
noted up reading c = record c {
  idle = counted_if (is_routing reading && not up) c.idle;
  refused = counted_if (is_some (fault_of reading)) c.refused;
}

-- what a reading says by this, if it is a state change and says anything
abbrev pub said_by : (StateRule → ℕ → ℕ → Option Bool) → Result Event Fault → Option Bool
said_by says (Ok (event.State old new rule)) = says rule old new
said_by says (Ok (event.Change update)) = None
said_by says (Ok (event.Rib key route)) = None
said_by says (Ok event.Other) = None
said_by says (Ok event.Clear) = None
said_by says (Ok (event.Handled fault update)) = None
said_by says (Err fault) = None

abbrev pub up_after : Bool → Result Event Fault → Bool
up_after up reading = unwrap_or (said_by up_by reading) up

-- whether the session is established after a reading
abbrev pub established_after : Bool → Result Event Fault → Bool
established_after was reading = unwrap_or (said_by established_by reading) was

-- what a session keeps beside whether it is spent
pub record RibState : Type 0 where
  pub up : Bool
  pub established : Bool
  pub table : RouteMap
  pub churn : Churn
  pub faults : List Damage

-- the churn of no unit
abbrev pub no_churn : Churn
no_churn = record {
  added = 0;
  changed = 0;
  same = 0;
  gone = 0;
  void = 0;
  resets = 0;
  idle = 0;
  refused = 0;
  first = None;
  last = None;
}

-- before the first unit
abbrev pub START : RibState
START = record { up = true; established = true; table = finite.empty; churn = no_churn; faults = [] }

-- the faults after one more, if any
abbrev pub listed : List Damage → Option Damage → List Damage
listed faults None = faults
listed faults (Some damage) = faults ++ damage ∷ []

-- after a damaged unit about which nothing is done
unfoldable pub refused : RibState → Damage → RibState
refused k damage = record k { churn = noted k.up (Err damage.fault) k.churn; faults = k.faults ++ damage ∷ [] }
