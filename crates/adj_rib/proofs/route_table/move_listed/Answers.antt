use Rattle.std.proofs.Common.{◌≡◌, ◌∙◌, sym, subst, take}
use Rattle.std.specs.List.{fold}
use Rattle.std.specs.Borrow.{Bor}
use Rattle.std.specs.FinMap as finite
use Rattle.bgp_prefix.specs.Keys.{RouteKey}
use Rattle.adj_rib.specs.declared.routes.RouteId.{RouteId}
use Rattle.adj_rib.specs.Applied.{RouteMap}
use Rattle.adj_rib.specs.MappedValues.{put_entry}
use Rattle.adj_rib.specs.Routes.{IsNamed, route_at, routes_now}
use Rattle.adj_rib.proofs.NamedRoutes.{AreNamed-empty, AreNamed-insert, AreNamed-grown, named_routes-empty, put_again}
use Rattle.adj_rib.proofs.Listings.{put_more}
use Rattle.adj_rib.proofs.route_table.move_listed.Goals as goal

pub route-requires : goal.route-requires
route-requires g c =
    subst (λ (e : RouteKey × Bor RouteId). IsNamed c.args.routes.now e.1.now.at) (sym c.entry-item.is)
    (c.requires c.loop-entry.entry-index c.entry-item.result c.loop-entry-test.true)

pub loop-entry-init : goal.loop-entry-init
loop-entry-init g c = record {
  all = AreNamed-empty c.new-kept.result (g.M.PrefixMap.contents c.new-moved.result) c.new-moved.ensures;
  same = named_routes-empty c.new-kept.result (g.M.PrefixMap.contents c.new-moved.result) c.new-moved.ensures;
}

pub loop-entry-preserved : goal.loop-entry-preserved
loop-entry-preserved g c =
    let so_far : RouteMap = fold put_entry finite.empty (routes_now c.args.routes.now (take c.loop-entry.entry-index c.args.listed.now)) in
    let route : route_at c.intern.new.self c.in_ok-new_id.new_id.at ≡ route_at c.args.routes.now c.entry-item.result.1.now.at = c.in_ok-new_id.ensures.names.is ∙ c.new.ensures ∙ c.route.ensures in
    record {
      all = AreNamed-insert c.intern.new.self (g.M.PrefixMap.contents c.loop-entry.moved) (g.M.PrefixMap.contents c.insert.new.self) c.entry-item.result.0 c.in_ok-new_id.new_id c.in_ok-insert.ensures.ok c.in_ok-new_id.ensures.names.named
          (AreNamed-grown c.loop-entry.kept c.intern.new.self (g.M.PrefixMap.contents c.loop-entry.moved) c.in_ok-new_id.ensures.grows c.loop-entry.invariant.all);
      same = put_again c.loop-entry.kept c.intern.new.self (g.M.PrefixMap.contents c.loop-entry.moved) (g.M.PrefixMap.contents c.insert.new.self) so_far c.entry-item.result.0 c.in_ok-new_id.new_id (route_at c.args.routes.now c.entry-item.result.1.now.at)
          c.in_ok-new_id.ensures.grows c.loop-entry.invariant.all c.loop-entry.invariant.same c.in_ok-insert.ensures.ok route
          ∙ sym (put_more c.args.routes.now c.args.listed.now c.loop-entry.entry-index c.entry-item.result c.loop-entry-test.true c.entry-item.is);
    }
