use Rattle.std.proofs.Common.{◌∙◌, ap, sym, subst, take, length, List, eqb-true, if◌then◌else◌}
use Rattle.std.proofs.lemmas.List.{nil_from_length}
use Rattle.std.specs.List.{fold}
use Rattle.std.specs.Borrow.{Bor}
use Rattle.std.specs.FinMap as finite
use Rattle.bgp_prefix.specs.Keys.{RouteKey}
use Rattle.route_choice.specs.Choices.{RouteChoice}
use Rattle.adj_rib.specs.declared.routes.RouteId.{RouteId}
use Rattle.adj_rib.specs.Applied.{RouteMap}
use Rattle.adj_rib.specs.MappedValues.{put_entry}
use Rattle.adj_rib.specs.Routes.{IsFound, IsNamed, route_at, routes_now}
use Rattle.adj_rib.specs.Selecting.{chosen_entries}
use Rattle.adj_rib.proofs.KeptRoutes.{chosen_more, kept_more, named_more}
use Rattle.adj_rib.proofs.NamedRoutes.{AreNamed-empty, named_routes-empty}
use Rattle.adj_rib.proofs.route_table.keep_listed.Goals as goal

pub returns-then-is_empty-clause-all : goal.returns-then-is_empty-clause-all
returns-then-is_empty-clause-all g c = AreNamed-empty c.args.routes.now (g.M.PrefixMap.contents c.new-kept.result) c.new-kept.ensures

pub returns-then-is_empty-clause-chosen : goal.returns-then-is_empty-clause-chosen
returns-then-is_empty-clause-chosen g c =
    named_routes-empty c.args.routes.now (g.M.PrefixMap.contents c.new-kept.result) c.new-kept.ensures
    ∙ ap (λ (l : List (RouteKey × Bor RouteId)). fold put_entry finite.empty (chosen_entries c.args.chosen.now (routes_now c.args.routes.now l))) (sym (nil_from_length c.args.listed.now (eqb-true (length c.args.listed.now) 0 (sym c.is_empty.ensures ∙ c.if-is_empty.true))))

pub loop-entry-init : goal.loop-entry-init
loop-entry-init g c = record {
  found = λ k d within. subst (IsFound c.args.chosen.now.routes c.args.routes.now) (sym (c.in_ok-found.ensures k d within))
      (subst (λ (r : RouteChoice). IsFound r c.args.routes.now c.find_chosen-first.result) c.routes.ensures c.find_chosen-first.ensures.found);
  all = AreNamed-empty c.args.routes.now (g.M.PrefixMap.contents c.new-kept.result) c.new-kept.ensures;
  chosen = named_routes-empty c.args.routes.now (g.M.PrefixMap.contents c.new-kept.result) c.new-kept.ensures;
}

pub is_entry_chosen-is_chosen-requires-clause-named : goal.is_entry_chosen-is_chosen-requires-clause-named
is_entry_chosen-is_chosen-requires-clause-named g c =
    subst (λ (e : RouteKey × Bor RouteId). IsNamed c.args.routes.now e.1.now.at) (sym c.entry-item.is)
    (c.requires c.loop-entry.entry-index c.entry-item.result c.loop-entry-test.true)

pub loop-entry-preserved : goal.loop-entry-preserved
loop-entry-preserved g c =
    let bytes = c.args.routes.now in
    let choices = c.args.chosen.now in
    let e = c.entry-item.result in
    let named : IsNamed bytes e.1.now.at = subst (λ (x : RouteKey × Bor RouteId). IsNamed bytes x.1.now.at) (sym c.entry-item.is) (c.requires c.loop-entry.entry-index e c.loop-entry-test.true) in
    let so_far : RouteMap = fold put_entry finite.empty (chosen_entries choices (routes_now bytes (take c.loop-entry.entry-index c.args.listed.now))) in
    record {
      found = c.is_entry_chosen-is_chosen.ensures.found;
      all = named_more bytes (g.M.PrefixMap.contents c.loop-entry.kept) (g.M.PrefixMap.contents c.keep_if.new.kept) c.is_entry_chosen-is_chosen.result e.0 e.1.now c.in_ok-keep_if.ensures named c.loop-entry.invariant.all;
      chosen = kept_more bytes (g.M.PrefixMap.contents c.loop-entry.kept) (g.M.PrefixMap.contents c.keep_if.new.kept) so_far c.is_entry_chosen-is_chosen.result e.0 e.1.now c.in_ok-keep_if.ensures c.loop-entry.invariant.chosen
          ∙ ap (λ b. if b then finite.insert so_far e.0 (route_at bytes e.1.now.at) else so_far) c.is_entry_chosen-is_chosen.ensures.chosen
          ∙ sym (chosen_more choices bytes c.args.listed.now c.loop-entry.entry-index e c.loop-entry-test.true c.entry-item.is);
    }
