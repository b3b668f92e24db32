use Rattle.std.proofs.Common.{rules, ◌∙◌}
use Rattle.std.proofs.lemmas.Fn.{always_returns_same}
use Rattle.std.specs.Ordering.{nat_cmp, is_le}
use Rattle.bgp_prefix.specs.Prefixes.{prefix_cmp}
use Rattle.prefix_maps.proofs.JumpLaws.{first_up_to, le_is}
use Rattle.prefix_maps.proofs.flat.Flat.count_up_to.Goals as goal

pub returns-clause-end : goal.returns-clause-end
returns-clause-end g c =
    let list = c.deref.ensures.value ∙ c.self.view_is in
    let sorted = rw c.self.view_is at c.self.invariant.sorted in
    let last = c.args.last.now in
    let answers = always_returns_same _ _ _ (λ a r f' called. (search (rules, le_is (nat_cmp a.0.now.0.prefix.addr last.addr) (nat_cmp a.0.now.0.prefix.len last.len)), search rules)) in
    rw list at (c.partition_point.ensures.partitioned (λ e. is_le (prefix_cmp e.0.prefix last)) answers (rw list (first_up_to c.args.self.now last sorted)))
