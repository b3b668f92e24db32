-- What payloads mean, where their keys and the packed bytes of their routes are among others.
use Rattle.std.specs.Prelude.{◌≡◌, ⊤, ℕ, Bool, true, false, List, [], ◌∷◌, ◌++◌, map, Result, Ok, Err}
use Rattle.std.specs.List.{AllByRecursion}
use Rattle.mrt_frame.specs.declared.fault.Fault.{Fault}
use Rattle.bgp_prefix.specs.Keys.{RouteKey}
use Rattle.bgp_update.specs.Decoded.{IsRouteAt, IsUpdateAt, plain_update, route_at, update_at}
use Rattle.peer_units.specs.Events.{event_in}
use Rattle.peer_units.specs.Plain.{DecodedEvent, Event, EventRef, Unit as ReplayUnit}
use Rattle.peer_units.specs.declared.unit.Place.{Place}
use Rattle.peer_units.specs.declared.decoded_events.DecodedEvent.TheVariants as decoded
use Rattle.peer_units.specs.declared.event_ref.EventRef.TheVariants as refs
use Rattle.peer_units.specs.declared.meaning.Event.TheVariants as events

-- the event, or the fault
abbrev pub event_at : List RouteKey → List ℕ → DecodedEvent → Result Event Fault
event_at keys bytes decoded.Other = Ok events.Other
event_at keys bytes decoded.Clear = Ok events.Clear
event_at keys bytes (decoded.Damaged fault) = Err fault
event_at keys bytes (decoded.State rule from to) = Ok (events.State from to rule)
event_at keys bytes (decoded.Rib key route) = Ok (events.Rib key (route_at bytes route))
event_at keys bytes (decoded.Change spans) = Ok (events.Change (update_at keys bytes spans))
event_at keys bytes (decoded.Handled fault spans) = Ok (events.Handled fault (update_at keys bytes spans))

-- its keys and its routes are there
abbrev pub IsEventAt : List RouteKey → List ℕ → DecodedEvent → Type 0
IsEventAt keys bytes decoded.Other = ⊤
IsEventAt keys bytes decoded.Clear = ⊤
IsEventAt keys bytes (decoded.Damaged fault) = ⊤
IsEventAt keys bytes (decoded.State rule from to) = ⊤
IsEventAt keys bytes (decoded.Rib key route) = IsRouteAt bytes route
IsEventAt keys bytes (decoded.Change spans) = IsUpdateAt keys bytes spans
IsEventAt keys bytes (decoded.Handled fault spans) = IsUpdateAt keys bytes spans

abbrev pub events_at : List RouteKey → List ℕ → List DecodedEvent → List (Result Event Fault)
events_at keys bytes es = map (event_at keys bytes) es

abbrev pub AreEventsAt : List RouteKey → List ℕ → List DecodedEvent → Type 0
AreEventsAt keys bytes es = AllByRecursion (IsEventAt keys bytes) es

-- one more event is behind others, and what it has behind theirs
abbrev pub IsOneMore : List RouteKey → List ℕ → List DecodedEvent → List RouteKey → List ℕ → List DecodedEvent → Result Event Fault → Type 0
IsOneMore keys bytes es more_keys more_bytes more is = AreEventsAt keys bytes es →
    AreEventsAt more_keys more_bytes more × (events_at more_keys more_bytes more ≡ events_at keys bytes es ++ is ∷ [])

-- the same with keys and routes that are borrowed
abbrev pub event_of : EventRef → Result Event Fault
event_of (refs.State old new rule) = Ok (events.State old new rule)
event_of (refs.Change update) = Ok (events.Change (plain_update update))
event_of (refs.Rib key hashed) = Ok (events.Rib key hashed.route)
event_of refs.Other = Ok events.Other
event_of refs.Clear = Ok events.Clear
event_of (refs.Handled fault update) = Ok (events.Handled fault (plain_update update))
event_of (refs.Damaged fault) = Err fault

-- what a record has of the peer, and not that a RIB dump clears its table
abbrev pub is_recorded_event : Result Event Fault → Bool
is_recorded_event (Ok (events.State old new rule)) = true
is_recorded_event (Ok (events.Change update)) = true
is_recorded_event (Ok (events.Rib key route)) = true
is_recorded_event (Ok events.Other) = true
is_recorded_event (Ok events.Clear) = false
is_recorded_event (Ok (events.Handled fault update)) = true
is_recorded_event (Err fault) = true

-- it stands at this place, has this time and means this
pub record Means (unit : ReplayUnit) (place : Place) (time : ℕ) (event : Result Event Fault) : Type 0 where
  pub place_is : unit.place ≡ place
  pub time_is : unit.time ≡ time
  pub event_is : event_in unit.payload ≡ event
