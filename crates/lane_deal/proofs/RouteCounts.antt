-- The routes of all lanes.
use Rattle.std.proofs.Common.{◌≡◌, List, [], ◌∷◌, ◌++◌, length, map, refl, ap, arith}
use Rattle.std.specs.List.{flat_map}
use Rattle.bgp_prefix.specs.Keys.{RouteKey}
use Rattle.bgp_prefix.specs.declared.family.Family.{Ghosts as AddressGhosts}
use Rattle.bgp_prefix.specs.declared.map.PrefixMap.{Ghosts}
use Rattle.bgp_update.specs.declared.route.Route.{Route}
use Rattle.adj_rib.specs.declared.routes.RouteId.{RouteId}
use Rattle.peer_tables.specs.Seats.{seat_of}
use Rattle.peer_tables.specs.Tables.{seat_routes}
use Rattle.lane_deal.specs.Plain.{LaneSender, Worker}
use Rattle.lane_deal.specs.declared.seats.Seats.{Seats}
use Rattle.lane_deal.specs.Shown.{lane_states}

module _ {M A : Type 0} {g : Ghosts M RouteId A} {a : AddressGhosts A} where
  -- the routes of a worker's sessions
  abbrev pub worker_routes : Worker (Seats M A g a) → List (RouteKey × Route)
  worker_routes worker = seat_routes (map seat_of worker.sessions.seats.items)

  pub routes_of_lanes : (senders : List LaneSender) (workers : List (Worker (Seats M A g a))) → length workers ≡ length senders → flat_map (λ lane. seat_routes lane.seats) (lane_states senders workers) ≡ flat_map worker_routes workers
  routes_of_lanes [] [] same = refl
  routes_of_lanes [] (w ∷ ws) same = absurd (omega arith)
  routes_of_lanes (f ∷ fs) [] same = absurd (omega arith)
  routes_of_lanes (f ∷ fs) (w ∷ ws) same = ap (λ rest. worker_routes w ++ rest) (routes_of_lanes fs ws (omega arith))
