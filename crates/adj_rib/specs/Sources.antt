-- Where the routes of a table come from (RFC 4271, 3.2 and 8).
use Rattle.std.specs.Prelude.{⊤, ◌≡◌, ◌⊎◌, List, ◌∷◌, ◌++◌, Ok, true}
use Rattle.std.specs.List.{Contains, AllByRecursion}
use Rattle.bgp_prefix.specs.Keys.{RouteKey}
use Rattle.bgp_update.specs.declared.route.Route.{Route}
use Rattle.bgp_update.specs.Hops.{by_hop}
use Rattle.bgp_update.specs.Updates.{Update}
use Rattle.peer_units.specs.Plain.{Payload}
use Rattle.peer_units.specs.declared.unit.Payload.TheVariants.{State, Message, Entry, Clear}
use Rattle.peer_units.specs.Plain.{Unit as ReplayUnit}
use Rattle.peer_units.specs.Plain.{Event}
use Rattle.peer_units.specs.declared.meaning.Event.TheVariants as event
use Rattle.peer_units.specs.States.{breaks}
use Rattle.adj_rib.specs.Steps.{is_up}
use Rattle.adj_rib.specs.Churns.{reading_of}

-- an update announces the key with the route: as a prefix of the message or by its MP_REACH_NLRI
abbrev pub IsAnnouncedBy : Update → RouteKey → Route → Type 0
IsAnnouncedBy u key route =
    (Contains u.announced key × (u.route ≡ route)) ⊎ (Contains u.reached key × (by_hop u.route u.reached_hop ≡ route))

-- an event announces the key with the route: by its update, or as a RIB entry
abbrev pub Announces : Event → RouteKey → Route → Type 0
Announces (event.Change update) key route = IsAnnouncedBy update key route
Announces (event.Rib other entered) key route = (other ≡ key) × (entered ≡ route)
Announces (event.State old new rule) key route = ⊥
Announces event.Other key route = ⊥
Announces event.Clear key route = ⊥
Announces (event.Handled fault update) key route = IsAnnouncedBy update key route

-- a state change that is a break by its rule, or a RIB dump's clear
abbrev pub EndsRoutes : Payload → Type 0
EndsRoutes (State from to rule) = breaks rule from to ≡ true
EndsRoutes (Message bytes width add_path rules) = ⊥
EndsRoutes (Entry rules key attrs) = ⊥
EndsRoutes Clear = ⊤

-- A unit that came while the peer was up announces the key with the route, and no unit after it ends routes.
pub record ComesFrom (units : List ReplayUnit) (key : RouteKey) (route : Route) : Type 0 where
  pub before : List ReplayUnit
  pub unit : ReplayUnit
  pub after : List ReplayUnit
  pub parts : units ≡ before ++ unit ∷ after
  pub up : is_up before ≡ true
  pub meaning : Event
  pub reading : reading_of unit ≡ Ok meaning
  pub announces : Announces meaning key route
  pub unbroken : AllByRecursion (λ u. EndsRoutes u.payload → ⊥) after
