use Rattle.std.proofs.Common.{ap, sym, subst, ◌∙◌}
use Rattle.std.specs.List.Sorted.{IsSorted}
use Rattle.bgp_prefix.specs.Keys.{key_cmp, among}
use Rattle.bgp_prefix.proofs.KeySearches.{found_is_among}
use Rattle.bgp_prefix.proofs.key_set.KeySet.contains.Goals as goal

pub returns : goal.returns
returns g c =
    let list = c.deref.ensures.value in
    c.is_ok.ensures.value
    ∙ found_is_among _ _ _ (subst (IsSorted key_cmp) (sym list) c.self.invariant) c.binary_search.ensures.bound c.binary_search.ensures.position
    ∙ ap (λ keys. among keys c.args.key.now) (list ∙ c.self.view_is)
