-- A peer's table as units that leave it: a state change, and then an entry or an UPDATE for each route.
use Rattle.std.specs.Prelude.{◌≡◌, Bool, true, false, not, List, [], ◌∷◌, ◌++◌, Option, Some, None, Result, Ok, T, ⊤, if◌then◌else◌}
use Rattle.std.specs.List.{filter}
use Rattle.std.specs.FinMap.{is_sorted}
use Rattle.mrt_frame.specs.declared.fault.Fault.{Fault}
use Rattle.bgp_prefix.specs.Keys.{RouteKey, key_cmp}
use Rattle.bgp_update.specs.declared.next_hop.NextHop.{NextHop}
use Rattle.bgp_update.specs.declared.next_hop.NextHop.TheVariants.{V4, V6, V6Pair}
use Rattle.bgp_update.specs.declared.route.Route.{Route}
use Rattle.bgp_update.specs.Families.{FamilyOf}
use Rattle.peer_units.specs.declared.state_rule.StateRule.{StateRule}
use Rattle.peer_units.specs.declared.state_rule.StateRule.TheVariants.{Recorded, Established}
use Rattle.peer_units.specs.declared.unit.Payload.TheVariants.{State}
use Rattle.peer_units.specs.declared.meaning.Event.TheVariants as event
use Rattle.peer_units.specs.Plain.{Event, Unit as ReplayUnit}
use Rattle.peer_units.specs.Events.{event_in}
use Rattle.peer_units.specs.States.{ESTABLISHED, stays_up}
use Rattle.mrt_writing.specs.Heads.{state_after}
use Rattle.mrt_writing.specs.Updates.{reaching}

-- ---- which routes are entries

-- a next hop that a RIB entry can have where NEXT_HOP is of the family
abbrev pub is_ipv4_hop : Option NextHop → Bool
is_ipv4_hop None = true
is_ipv4_hop (Some (V4 addr)) = true
is_ipv4_hop (Some (V6 addr)) = false
is_ipv4_hop (Some (V6Pair addr link)) = false

-- the route is an entry; another one is an UPDATE
abbrev pub is_entry : FamilyOf → RouteKey × Route → Bool
is_entry family e = if family.own_fields then is_ipv4_hop e.1.next_hop else true

-- the routes in the order in which they are written: the entries, and then the UPDATEs
abbrev pub in_written_order : FamilyOf → List (RouteKey × Route) → List (RouteKey × Route)
in_written_order family table = filter (is_entry family) table ++ filter (λ e. not (is_entry family e)) table

-- ---- what the units are

-- whether a peer counts as up: its session, where state changes are taken by Established
abbrev pub is_as : StateRule → Bool → Bool → Bool
is_as Recorded up established = up
is_as Established up established = established

-- the unit says that the key has the route, as an entry or an UPDATE of its own
abbrev pub saying : RouteKey × Route → Bool → Result Event Fault
saying e true = Ok (event.Rib e.0 e.1)
saying e false = Ok (event.Change (reaching e.0 e.1))

abbrev pub Says : RouteKey × Route → ReplayUnit → Type 0
Says e unit = (entry : Bool) × (event_in unit.payload ≡ saying e entry)

-- one unit for each
abbrev pub SayAll : List (RouteKey × Route) → List ReplayUnit → Type 0
SayAll [] [] = ⊤
SayAll [] (u ∷ units) = ⊥
SayAll (e ∷ entries) [] = ⊥
SayAll (e ∷ entries) (u ∷ units) = Says e u × SayAll entries units

-- The units of a peer's table: a state change, and then one for each route. A peer that isn't up has no route where
-- that is as it is recorded.
pub record DumpsTable (family : FamilyOf) (rule : StateRule) (up : Bool) (table : List (RouteKey × Route))
    (units : List ReplayUnit) : Type 0 where
  pub state : ReplayUnit
  pub others : List ReplayUnit
  pub parts : units ≡ state ∷ others
  pub says : state.payload ≡ State ESTABLISHED (state_after up) rule
  pub each : SayAll (in_written_order family table) others
  pub sorted : T (is_sorted key_cmp table)
  pub down : stays_up rule (state_after up) ≡ false → table ≡ []
