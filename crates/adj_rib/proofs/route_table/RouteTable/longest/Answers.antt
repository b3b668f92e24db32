use Rattle.std.proofs.Common.{subst}
use Rattle.std.specs.Option.{IfSome, IfNone}
use Rattle.bgp_prefix.specs.Maps.{IsLongestMatch, HasNoMatch}
use Rattle.adj_rib.specs.Applied.{RouteMap}
use Rattle.adj_rib.proofs.Listings.{if_longest, if_no_match}
use Rattle.adj_rib.proofs.route_table.RouteTable.longest.Goals as goal

pub returns-clause-found : goal.returns-clause-found
returns-clause-found g c =
    subst (λ (m : RouteMap). IfSome c.longest.result (IsLongestMatch m (g.F.Family.bits c.args.addr))) c.self.view_is
    (if_longest c.self.inside.routes (g.M.PrefixMap.contents c.self.inside.map) (g.F.Family.bits c.args.addr) c.longest.result c.longest.ensures.found)

pub returns-clause-none : goal.returns-clause-none
returns-clause-none g c =
    subst (λ (m : RouteMap). IfNone c.longest.result (HasNoMatch m (g.F.Family.bits c.args.addr))) c.self.view_is
    (if_no_match c.self.inside.routes (g.M.PrefixMap.contents c.self.inside.map) (g.F.Family.bits c.args.addr) c.longest.result c.longest.ensures.none)
