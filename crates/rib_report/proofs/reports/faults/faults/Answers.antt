use Rattle.std.proofs.Common.{◌∙◌, ap, rules}
use Rattle.std.proofs.lemmas.List.Sorted.{answers_always}
use Rattle.peer_units.specs.declared.unit.Damage.{Damage}
use Rattle.rib_report.specs.Reports.{in_place_order}
use Rattle.rib_report.proofs.ListedLaws.{sorted_places}
use Rattle.rib_report.proofs.reports.faults.faults.Goals as goal

pub returns : goal.returns
returns g c =
    let up = c.in_ok-sort_by_key.ensures.sorted (λ (d : Damage). d.place) (answers_always _ _ _ (λ f a r h q. search rules)) in
    let stable = c.in_ok-sort_by_key.ensures.stable (λ (d : Damage). d.place) (answers_always _ _ _ (λ f a r h q. search rules)) in
    sorted_places c.in_ok-rows.rows.items c.sort_by_key.new.self.items up stable ∙ ap in_place_order c.in_ok-rows.ensures
