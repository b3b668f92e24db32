use Rattle.std.proofs.Common.{◌≡◌, ℕ, List, [], ◌∷◌, ◌++◌, ◌∙◌, ap, sym, drop, map, subst}
use Rattle.std.specs.List.Sorted.{IsStrictlySortedBy}
use Rattle.bgp_prefix.specs.Prefixes.{IpPrefix}
use Rattle.rib_report.specs.Plain.{OriginRow}
use Rattle.rib_report.specs.Reports.{grouped_origins, pair_cmp}
use Rattle.rib_report.proofs.OriginLaws.{first_group, several_run, single_run}
use Rattle.rib_report.proofs.reports.origins.group_runs.Goals as goal

abbrev row_of : IpPrefix → List (IpPrefix × ℕ) → OriginRow
row_of p run = record { prefix = p; origins = map (λ e. e.1) run }

pub loop-rest-preserved-in_ok-push : goal.loop-rest-preserved-in_ok-push
loop-rest-preserved-in_ok-push g c =
    let rest = c.loop-rest.rest.now in
    let first = c.first-item.result in
    let n = c.run_length.result in
    let run = c.split_at.result.0.now in
    let later = c.split_at.result.1.now in
    let rows = c.loop-rest.rows.items in
    let group = first_group rest first n c.loop-rest.invariant.sorted c.in-len1-up.len_at_least c.first-item.is c.run_length.ensures.within c.run_length.ensures.same c.run_length.ensures.other in
    let groups : grouped_origins rest ≡ row_of first.0 run ∷ grouped_origins later =
    group.1 ∙ ap (λ l. row_of first.0 l ∷ grouped_origins (drop n rest)) (sym c.split_at.ensures.front) ∙ ap (λ l. row_of first.0 run ∷ grouped_origins l) (sym c.split_at.ensures.back) in
    let pushed : c.push.new.self.items ≡ rows ++ row_of first.0 run ∷ [] =
    c.in_ok-push.ensures.items ∙ ap (λ row. rows ++ row ∷ []) c.in_ok-row_of_run.ensures in
    record {
      sorted = subst (IsStrictlySortedBy pair_cmp) (sym c.split_at.ensures.back) group.2;
      rows = several_run rest run later first.0 rows c.push.new.self.items _ c.if-run-ge2.true groups pushed c.loop-rest.invariant.rows;
    }

pub loop-rest-preserved : goal.loop-rest-preserved
loop-rest-preserved g c =
    let rest = c.loop-rest.rest.now in
    let first = c.first-item.result in
    let n = c.run_length.result in
    let run = c.split_at.result.0.now in
    let later = c.split_at.result.1.now in
    let group = first_group rest first n c.loop-rest.invariant.sorted c.in-len1-up.len_at_least c.first-item.is c.run_length.ensures.within c.run_length.ensures.same c.run_length.ensures.other in
    let groups : grouped_origins rest ≡ row_of first.0 run ∷ grouped_origins later =
    group.1 ∙ ap (λ l. row_of first.0 l ∷ grouped_origins (drop n rest)) (sym c.split_at.ensures.front) ∙ ap (λ l. row_of first.0 run ∷ grouped_origins l) (sym c.split_at.ensures.back) in
    record {
      sorted = subst (IsStrictlySortedBy pair_cmp) (sym c.split_at.ensures.back) group.2;
      rows = single_run rest run later first.0 c.loop-rest.rows.items _ c.if-run-ge2.false groups c.loop-rest.invariant.rows;
    }
