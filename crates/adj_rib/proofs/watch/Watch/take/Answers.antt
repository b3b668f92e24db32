use Rattle.std.proofs.Common.{◌≡◌, ◌∷◌, ◌++◌, ◌∙◌, [], ap, refl, rules, subst, sym}
use Rattle.std.specs.Borrow.{GName}
use Rattle.std.specs.List.{fold}
use Rattle.peer_units.specs.Choices.{Choices}
use Rattle.adj_rib.specs.Histories.{WatchesFor, chosen_notes, unit_notes, watch_of, with_outcomes}
use Rattle.adj_rib.specs.Noting.{keep_beside}
use Rattle.adj_rib.proofs.NotingLaws.{kept_beside}
use Rattle.adj_rib.proofs.WatchLaws.{seen_as, watch_notes, watch_stands}
use Rattle.adj_rib.proofs.watch.Watch.take.Goals as goal

pub returns-clause-stands : goal.returns-clause-stands
returns-clause-stands g c = λ before h.
    let taken = c.in_ok-take.ensures c.args.unit.now (record { place_is = refl; time_is = refl; event_is = sym c.requires }) in
    let same : Choices = record { prefixes = c.prefixes.result.now; routes = c.routes.result.now } in
    let is : same ≡ c.args.chosen.now = λ i. record { prefixes = c.prefixes.ensures i; routes = c.routes.ensures i } in
    let was : WatchesFor c.args.since same before c.args.self.now = subst (λ (x : Choices). WatchesFor c.args.since x before c.args.self.now) (sym is) h in
    (λ i. seen_as (c.count_within.ensures i) (with_outcomes (c.count_within.ensures i).churn (c.within-self-inside.ensures i)))
    ∙ watch_stands c.args.since same (keep_beside {X = GName} g.N.Notes.keep) before c.args.unit.now _ _ _ _ _ _ _ taken (c.self.view_is ∙ was)
    ∙ ap (λ (x : Choices). watch_of c.args.since x (before ++ c.args.unit.now ∷ [])) is

pub returns-clause-notes : goal.returns-clause-notes
returns-clause-notes g c = λ before h.
    let taken = c.in_ok-take.ensures c.args.unit.now (record { place_is = refl; time_is = refl; event_is = sym c.requires }) in
    let same : Choices = record { prefixes = c.prefixes.result.now; routes = c.routes.result.now } in
    let is : same ≡ c.args.chosen.now = λ i. record { prefixes = c.prefixes.ensures i; routes = c.routes.ensures i } in
    let was : WatchesFor c.args.since same before c.args.self.now = subst (λ (x : Choices). WatchesFor c.args.since x before c.args.self.now) (sym is) h in
    let kept = g.N.Notes.kept c.args.notes.now in
    let own = chosen_notes same (unit_notes before c.args.unit.now) in
    let told = watch_notes c.args.since same (keep_beside {X = GName} g.N.Notes.keep) before c.args.unit.now _ _ _ _ _ (c.chosen_notes-2-1.given, kept) _ taken (c.self.view_is ∙ was) ∙ kept_beside g.N.Notes.keep c.chosen_notes-2-1.given kept own in
    ap g.N.Notes.kept (search rules) ∙ ap (λ (s : GName × g.N.Notes.Kept). s.1) told
    ∙ ap (λ (x : Choices). fold g.N.Notes.keep kept (chosen_notes x (unit_notes before c.args.unit.now))) is
