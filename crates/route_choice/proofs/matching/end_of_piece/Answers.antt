use Rattle.std.proofs.Common.{◌∙◌, List, ℕ, get_or, subst, sym}
use Rattle.std.proofs.lemmas.List.{get_or_default}
use Rattle.route_choice.specs.declared.path_mask.PathStep.{PathStep}
use Rattle.route_choice.specs.declared.path_mask.PathStep.TheVariants.{Within}
use Rattle.route_choice.proofs.PieceLaws.{IsUnderWay, star_reached, one_taken}
use Rattle.route_choice.proofs.matching.end_of_piece.Goals as goal

pub returns-in-AnyNumber : goal.returns-in-AnyNumber
returns-in-AnyNumber c =
    let mask : List PathStep = c.args.mask.now in
    let i : ℕ = c.loop-i.i in
    let step : PathStep = get_or mask i (Within 0 0) in
    star_reached mask c.args.path.now c.loop-i.path i step c.loop-i.invariant c.loop-i-test.true (get_or_default mask i (Within 0 0) step c.loop-i-test.true) c.in-AnyNumber.is

pub loop-i-preserved : goal.loop-i-preserved
loop-i-preserved c =
    let mask : List PathStep = c.args.mask.now in
    let i : ℕ = c.loop-i.i in
    let step : PathStep = get_or mask i (Within 0 0) in
    one_taken mask c.args.path.now c.next.new.self i step c.in-Some.position
    (subst (λ (t : List (List ℕ)). IsUnderWay mask c.args.path.now t i) c.in-Some.ensures c.loop-i.invariant)
    c.loop-i-test.true (get_or_default mask i (Within 0 0) step c.loop-i-test.true) c.in_default.not-AnyNumber (sym c.takes.ensures ∙ c.if-not-takes.false)
