use Rattle.std.proofs.Common.{sym, ◌∙◌}
use Rattle.adj_rib.proofs.TableLaws.{find-table_of, is_sorted-table_of}
use Rattle.adj_rib.proofs.HeldPairs.{Holds-from_route_at, route_at-from_Holds}
use Rattle.adj_rib.proofs.laws.table_has_what_holds.Goals as goal

pub returns : goal.returns
returns c = record {
  pairs = λ steps key route. (
    λ e. Holds-from_route_at key route steps (sym (find-table_of steps key) ∙ e),
    λ h. find-table_of steps key ∙ route_at-from_Holds key route steps h,
  );
  sorted = is_sorted-table_of;
}
