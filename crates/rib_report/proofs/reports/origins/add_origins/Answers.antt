use Rattle.std.proofs.Common.{List, ◌∙◌, ap, [], ◌∷◌, ◌++◌, sym, append_assoc}
use Rattle.std.specs.List.{filter_map}
use Rattle.std.proofs.lemmas.List.{take_all}
use Rattle.bgp_prefix.specs.Keys.{RouteKey}
use Rattle.bgp_update.specs.declared.route.Route.{Route}
use Rattle.rib_report.specs.Reports.{origin_pair}
use Rattle.peer_tables.proofs.RowLaws.{kept_more}
use Rattle.rib_report.proofs.reports.origins.add_origins.Goals as goal

pub returns : goal.returns
returns g c =
    let entries = c.as_slice-entry-items.result.now in
    let seen = c.as_slice-entry-items.ensures.value ∙ c.in_ok-entries.ensures ∙ c.table.ensures in
    c.loop-entry.invariant ∙ ap (λ (l : List (RouteKey × Route)). c.args.pairs.now.items ++ filter_map origin_pair l) (take_all c.loop-entry.entry-index entries c.loop-entry-test.false ∙ seen)

pub loop-entry-preserved : goal.loop-entry-preserved
loop-entry-preserved g c =
    let entries = c.as_slice-entry-items.result.now in
    c.in_ok-add_origin.ensures ∙ ap (λ l. l ++ filter_map origin_pair (c.entry-item.result ∷ [])) c.loop-entry.invariant ∙ append_assoc c.args.pairs.now.items _ _
    ∙ ap (λ l. c.args.pairs.now.items ++ l) (sym (kept_more origin_pair entries c.loop-entry.entry-index c.entry-item.result c.loop-entry-test.true c.entry-item.is))
