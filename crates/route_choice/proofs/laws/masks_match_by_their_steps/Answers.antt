use Rattle.route_choice.proofs.MaskLaws.{by_steps, from_steps, matches_no_position}
use Rattle.route_choice.proofs.laws.masks_match_by_their_steps.Goals as goal

pub returns : goal.returns
returns c = record {
  steps = λ mask whole. (by_steps mask whole, λ h. from_steps h);
  empty = matches_no_position;
}
