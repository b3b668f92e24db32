use Rattle.std.proofs.Common.{◌≡◌, map, take}
use Rattle.std.specs.List.{fold}
use Rattle.adj_rib.specs.Steps.{announce}
use Rattle.adj_rib.specs.Selecting.{selected_steps}
use Rattle.adj_rib.specs.Noting.{applied_noting}
use Rattle.adj_rib.specs.Routes.{AreNamed, named_routes, route_at}
use Rattle.adj_rib.proofs.route_table.put_chosen.Given as goal

abbrev pub invariant-loop-key : goal.invariant-loop-key
invariant-loop-key g l = record {
  ok : ((named_routes l.routes (g.M.PrefixMap.contents l.table), l.churn), g.N.Notes.kept l.notes) ≡ fold (applied_noting g.N.Notes.keep) ((named_routes l.routes (g.M.PrefixMap.contents l.initial.table), l.initial.churn), g.N.Notes.kept l.initial.notes) (selected_steps (g.C.Chooses.is_chosen l.chosen) (map (λ key. announce key (route_at l.routes l.id.at)) (take l.key-index l.keys)));
  all : AreNamed l.routes (g.M.PrefixMap.contents l.table);
}
