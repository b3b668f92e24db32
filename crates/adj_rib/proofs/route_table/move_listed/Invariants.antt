use Rattle.std.proofs.Common.{◌≡◌, take}
use Rattle.std.specs.List.{fold}
use Rattle.std.specs.FinMap as finite
use Rattle.adj_rib.specs.MappedValues.{put_entry}
use Rattle.adj_rib.specs.Routes.{AreNamed, named_routes, routes_now}
use Rattle.adj_rib.proofs.route_table.move_listed.Given as goal

abbrev pub invariant-loop-entry : goal.invariant-loop-entry
invariant-loop-entry g l = record {
  all : AreNamed l.kept (g.M.PrefixMap.contents l.moved);
  same : named_routes l.kept (g.M.PrefixMap.contents l.moved) ≡ fold put_entry finite.empty (routes_now l.routes (take l.entry-index l.listed));
}
