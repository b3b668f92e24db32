use Rattle.std.proofs.Common.{◌≡◌, ◌++◌, drop, length, refl, sym, ap, ◌∙◌}
use Rattle.std.proofs.lemmas.List.{append-nil}
use Rattle.std.proofs.Math.Seq.{drop-length}
use Rattle.mrt_body.specs.ToCome.{UnitsState, index_pending}
use Rattle.mrt_body.proofs.units.Units.lend.Goals as goal

-- no unit waits before the entries
all_pend : (g : _) (c : goal.In-Some-lend g) → c.args.self.now.pending ≡ c.in-Some-lend.entries
all_pend g c =
    sym (ap (λ (u : UnitsState). u.pending) c.self.view_is)
    ∙ ap (λ w. w ++ index_pending c.self.inside.index) (c.in_default-lend.ensures.none refl)
    ∙ ap index_pending c.in-Some-index.is ∙ sym c.in-Some-lend.ensures

pub returns-in-Some-lend-clause-lends : goal.returns-in-Some-lend-clause-lends
returns-in-Some-lend-clause-lends g c =
    let all = all_pend g c in
    all ∙ sym (append-nil c.in-Some-lend.entries) ∙ ap (λ l. c.in-Some-lend.entries ++ l) (sym (drop-length c.in-Some-lend.entries))
    ∙ ap (λ l. c.in-Some-lend.entries ++ drop (length c.in-Some-lend.entries) l) (sym all)

pub returns-in-Some-lend-clause-none : goal.returns-in-Some-lend-clause-none
returns-in-Some-lend-clause-none g c = λ empty reading. all_pend g c ∙ empty

pub returns-in-Some-lend-clause-all : goal.returns-in-Some-lend-clause-all
returns-in-Some-lend-clause-all g c = λ units same. let all = all_pend g c in cc
