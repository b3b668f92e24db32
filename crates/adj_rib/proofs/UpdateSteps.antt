-- The steps of an UPDATE, part by part.
use Rattle.std.proofs.Common.{◌≡◌, not, ◌||◌, List, map, Option, Some, sym, ap, ◌∙◌}
use Rattle.std.specs.List.{filter}
use Rattle.bgp_prefix.specs.Keys.{RouteKey, among}
use Rattle.bgp_update.specs.declared.decoded.HashedRoute.{HashedRoute}
use Rattle.bgp_update.specs.declared.route.Route.{Route}
use Rattle.bgp_update.specs.Hops.{by_hop, IsByHop}
use Rattle.bgp_update.specs.Decoded.{hop_of}
use Rattle.adj_rib.specs.Steps.{announce, withdraw}

-- sets of the same keys leave the same others
pub same_others : (a b c d : List RouteKey) (keys : List RouteKey) → ((k : RouteKey) → among a k ≡ among b k) → ((k : RouteKey) → among c k ≡ among d k)
    → map withdraw (filter (λ key. not (among a key || among c key)) keys) ≡ map withdraw (filter (λ key. not (among b key || among d key)) keys)
same_others a b c d keys first second = λ i. map withdraw (filter (λ key. not (first key i || second key i)) keys)

-- each key of MP_REACH_NLRI has the route by its next hop
pub reached_by : (plain : Route) (o : Option HashedRoute) (hashed : HashedRoute) (keys : List RouteKey) → o ≡ Some hashed → IsByHop plain hashed.route → map (λ key. announce key hashed.route) keys ≡ map (λ key. announce key (by_hop plain (hop_of o))) keys
reached_by plain o hashed keys e by = ap (λ (r : Route). map (λ key. announce key r) keys) (by ∙ ap (λ (x : Option HashedRoute). by_hop plain (hop_of x)) (sym e))
