use Rattle.std.proofs.Common.{◌≡◌, take}
use Rattle.route_choice.proofs.chosen_routes.copied_masks.Given as goal

abbrev pub invariant-loop-mask : goal.invariant-loop-mask
invariant-loop-mask l = l.copies.items ≡ take l.mask-index l.masks
