use Rattle.std.proofs.Common.{sym, ap, ◌∙◌}
use Rattle.std.specs.List.{list_any}
use Rattle.std.proofs.lemmas.List.Sorted.{list_any-IsPermutation}
use Rattle.bgp_prefix.specs.Keys.{key_eq}
use Rattle.bgp_prefix.proofs.key_set.KeySet.from_slice.Goals as goal

pub returns : goal.returns
returns g c = λ k. sym (list_any-IsPermutation (key_eq k) _ _ c.sort_unstable.ensures.permutation) ∙ ap (list_any (key_eq k)) c.in_ok-sorted.ensures.items
