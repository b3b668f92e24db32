use Rattle.std.proofs.Common.{◌≡◌, ◌+◌, ◌++◌, take}
use Rattle.std.specs.Prelude.{vec_len, vec_capacity}
use Rattle.adj_rib.specs.Routes.{routes_now}
use Rattle.adj_rib.proofs.route_table.list_routes.Given as goal

abbrev pub invariant-loop-entry : goal.invariant-loop-entry
invariant-loop-entry g l = record {
  routes : l.all.items ≡ l.initial.all.items ++ routes_now l.routes (take l.entry-index l.listed);
  len : vec_len l.all ≡ vec_len l.initial.all + l.entry-index;
  capacity : vec_capacity l.all ≡ vec_capacity l.initial.all;
}
