use Rattle.std.proofs.Common.{◌≡◌, ℕ, length, ap, sym, ◌∙◌, arith}
use Rattle.std.proofs.lemmas.Bool.Decides.{nat_tests}
use Rattle.bgp_update.specs.KeptAttributes.{value_kept}
use Rattle.bgp_update.proofs.KeptLaws.{no_kept_left}
use Rattle.bgp_update.proofs.kept_values.KeptValues.value.Goals as goal

pub returns-clause-value : goal.returns-clause-value
returns-clause-value c =
    let none : length c.loop-rest.rest.now ≡ 0 = grind (arith, nat_tests) in
    let code = c.code-code.result in
    sym (ap (value_kept code) (no_kept_left c.loop-rest.rest.now c.loop-rest.invariant.kept none)) ∙ c.loop-rest.invariant.same ∙ ap (λ (n : ℕ). value_kept n c.args.self.now) c.loop-rest.invariant.code
