use Rattle.std.proofs.Common.{◌≡◌, take}
use Rattle.std.specs.List.{fold}
use Rattle.std.specs.FinMap as finite
use Rattle.adj_rib.specs.MappedValues.{put_entry}
use Rattle.adj_rib.specs.Routes.{AreFound, AreNamed, named_routes, routes_now}
use Rattle.adj_rib.specs.Selecting.{chosen_entries}
use Rattle.adj_rib.proofs.route_table.keep_listed.Given as goal

abbrev pub invariant-loop-entry : goal.invariant-loop-entry
invariant-loop-entry g l = record {
  found : AreFound l.chosen.routes l.routes l.found.items;
  all : AreNamed l.routes (g.M.PrefixMap.contents l.kept);
  chosen : named_routes l.routes (g.M.PrefixMap.contents l.kept) ≡ fold put_entry finite.empty (chosen_entries l.chosen (routes_now l.routes (take l.entry-index l.listed)));
}
