use Rattle.std.proofs.Common.{◌∙◌, ap, sym}
use Rattle.route_choice.specs.Masks.{mask_matches}
use Rattle.route_choice.proofs.MaskLaws.{passes_here}
use Rattle.route_choice.proofs.matching.matches_some_rest.Goals as goal

pub returns-in-Whole : goal.returns-in-Whole
returns-in-Whole c =
    let steps = c.starts.steps.now in
    sym (passes_here (mask_matches steps) c.starts.start (sym (ap (mask_matches steps) c.same-at.ensures) ∙ c.in-Whole.ensures)) ∙ c.starts.invariant.same
