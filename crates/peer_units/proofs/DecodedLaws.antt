-- Events that are decoded stay what they are when others are decoded behind them.
use Rattle.std.proofs.Common.{◌≡◌, ℕ, List, [], ◌∷◌, ◌++◌, Result, Ok, Err, OnOk, OnErr, refl, ap, ◌∙◌}
use Rattle.std.proofs.lemmas.List.{map-append}
use Rattle.mrt_frame.specs.declared.fault.Fault.{Fault}
use Rattle.bgp_prefix.specs.Keys.{RouteKey}
use Rattle.bgp_update.specs.Decoded.{IsGrown}
use Rattle.bgp_update.specs.Updates.{Update}
use Rattle.bgp_update.specs.declared.route.Route.{Route}
use Rattle.bgp_update.proofs.Spans.{IsRouteAt-grown, IsUpdateAt-grown, route_at-grown, update_at-grown}
use Rattle.peer_units.specs.Plain.{DecodedEvent, Event}
use Rattle.peer_units.specs.declared.decoded_events.DecodedEvent.TheVariants as decoded
use Rattle.peer_units.specs.declared.meaning.Event.TheVariants as events
use Rattle.peer_units.specs.DecodedEvents.{event_at, IsEventAt, IsOneMore, events_at, AreEventsAt}

event_at-grown : (keys more_keys : List RouteKey) (bytes more_bytes : List ℕ) (e : DecodedEvent) → IsGrown keys more_keys → IsGrown bytes more_bytes → IsEventAt keys bytes e → event_at more_keys more_bytes e ≡ event_at keys bytes e
event_at-grown keys more_keys bytes more_bytes decoded.Other k b h = refl
event_at-grown keys more_keys bytes more_bytes decoded.Clear k b h = refl
event_at-grown keys more_keys bytes more_bytes (decoded.Damaged fault) k b h = refl
event_at-grown keys more_keys bytes more_bytes (decoded.State rule from to) k b h = refl
event_at-grown keys more_keys bytes more_bytes (decoded.Rib key route) k b h = ap (λ (r : Route). Ok (events.Rib key r)) (route_at-grown bytes more_bytes route b h)
event_at-grown keys more_keys bytes more_bytes (decoded.Change spans) k b h = ap (λ (u : Update). Ok (events.Change u)) (update_at-grown keys more_keys bytes more_bytes spans k b h)
event_at-grown keys more_keys bytes more_bytes (decoded.Handled fault spans) k b h = ap (λ (u : Update). Ok (events.Handled fault u)) (update_at-grown keys more_keys bytes more_bytes spans k b h)

IsEventAt-grown : (keys more_keys : List RouteKey) (bytes more_bytes : List ℕ) (e : DecodedEvent) → IsGrown keys more_keys → IsGrown bytes more_bytes → IsEventAt keys bytes e → IsEventAt more_keys more_bytes e
IsEventAt-grown keys more_keys bytes more_bytes decoded.Other k b h = tt
IsEventAt-grown keys more_keys bytes more_bytes decoded.Clear k b h = tt
IsEventAt-grown keys more_keys bytes more_bytes (decoded.Damaged fault) k b h = tt
IsEventAt-grown keys more_keys bytes more_bytes (decoded.State rule from to) k b h = tt
IsEventAt-grown keys more_keys bytes more_bytes (decoded.Rib key route) k b h = IsRouteAt-grown bytes more_bytes route b h
IsEventAt-grown keys more_keys bytes more_bytes (decoded.Change spans) k b h = IsUpdateAt-grown keys more_keys bytes more_bytes spans k b h
IsEventAt-grown keys more_keys bytes more_bytes (decoded.Handled fault spans) k b h = IsUpdateAt-grown keys more_keys bytes more_bytes spans k b h

pub events_at-grown : (keys more_keys : List RouteKey) (bytes more_bytes : List ℕ) (es : List DecodedEvent) → IsGrown keys more_keys → IsGrown bytes more_bytes → AreEventsAt keys bytes es → events_at more_keys more_bytes es ≡ events_at keys bytes es
events_at-grown keys more_keys bytes more_bytes [] k b h = refl
events_at-grown keys more_keys bytes more_bytes (e ∷ es) k b h =
    λ i. event_at-grown keys more_keys bytes more_bytes e k b h.0 i ∷ events_at-grown keys more_keys bytes more_bytes es k b h.1 i

pub AreEventsAt-grown : (keys more_keys : List RouteKey) (bytes more_bytes : List ℕ) (es : List DecodedEvent) → IsGrown keys more_keys → IsGrown bytes more_bytes → AreEventsAt keys bytes es → AreEventsAt more_keys more_bytes es
AreEventsAt-grown keys more_keys bytes more_bytes [] k b h = tt
AreEventsAt-grown keys more_keys bytes more_bytes (e ∷ es) k b h = (IsEventAt-grown keys more_keys bytes more_bytes e k b h.0, AreEventsAt-grown keys more_keys bytes more_bytes es k b h.1)

pub AreEventsAt-push : (keys : List RouteKey) (bytes : List ℕ) (es : List DecodedEvent) (e : DecodedEvent) → AreEventsAt keys bytes es → IsEventAt keys bytes e → AreEventsAt keys bytes (es ++ e ∷ [])
AreEventsAt-push keys bytes [] e h own = (own, tt)
AreEventsAt-push keys bytes (x ∷ es) e h own = (h.0, AreEventsAt-push keys bytes es e h.1 own)

-- one more event, whose keys and routes came behind the others
pub events_more : (keys more_keys : List RouteKey) (bytes more_bytes : List ℕ) (es : List DecodedEvent) (e : DecodedEvent) (is : Result Event Fault) → IsGrown keys more_keys → IsGrown bytes more_bytes → AreEventsAt keys bytes es
    → event_at more_keys more_bytes e ≡ is → events_at more_keys more_bytes (es ++ e ∷ []) ≡ events_at keys bytes es ++ is ∷ []
events_more keys more_keys bytes more_bytes es e is k b h own =
    map-append (event_at more_keys more_bytes) es (e ∷ [])
    ∙ (λ i. events_at-grown keys more_keys bytes more_bytes es k b h i ++ own i ∷ [])

pub one_more : (keys more_keys : List RouteKey) (bytes more_bytes : List ℕ) (es more : List DecodedEvent) (e : DecodedEvent) (is : Result Event Fault) → IsGrown keys more_keys → IsGrown bytes more_bytes
    → event_at more_keys more_bytes e ≡ is → IsEventAt more_keys more_bytes e → more ≡ es ++ e ∷ [] → IsOneMore keys bytes es more_keys more_bytes more is
one_more keys more_keys bytes more_bytes es more e is k b own there added = λ before. (
  rw added (AreEventsAt-push more_keys more_bytes es e (AreEventsAt-grown keys more_keys bytes more_bytes es k b before) there),
  ap (events_at more_keys more_bytes) added ∙ events_more keys more_keys bytes more_bytes es e is k b before own,
)

-- one more event, or none is left
pub more_or_none : {X Y : Type 0} (r : Result X Y) (keys more_keys : List RouteKey) (bytes more_bytes : List ℕ) (es more : List DecodedEvent) (is : Result Event Fault) → AreEventsAt keys bytes es
    → OnOk r (IsOneMore keys bytes es more_keys more_bytes more is) → OnErr r (more ≡ []) → AreEventsAt more_keys more_bytes more
more_or_none (Ok x) keys more_keys bytes more_bytes es more is before kept none = (kept before).0
more_or_none (Err y) keys more_keys bytes more_bytes es more is before kept none = rw none tt
