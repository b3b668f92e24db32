use Rattle.std.proofs.Common.{rules, ◌∙◌, ◌+◌}
use Rattle.std.proofs.lemmas.Fn.{always_returns_same}
use Rattle.bgp_prefix.specs.Prefixes.{leading_bits}
use Rattle.prefix_maps.proofs.SplitLaws.{low_first, low_end_is, is_low, by_bit}
use Rattle.prefix_maps.proofs.flat.Flat.low_end.Goals as goal

pub returns-clause-end : goal.returns-clause-end
returns-clause-end g c =
    let es = c.args.self.now in
    let at = c.args.at.now in
    let list = c.deref.ensures.value ∙ c.self.view_is in
    let sorted = rw c.self.view_is at c.self.invariant.sorted in
    let known = rw c.self.view_is at c.self.invariant.known in
    let answers = always_returns_same _ _ _ (λ a r f' called. (by_bit r (leading_bits (at.len + 1) a.0.now.0.prefix.addr) (leading_bits at.len a.0.now.0.prefix.addr) (search rules), search rules)) in
    low_end_is es at sorted known c.requires c.partition_point.result (search rules) (rw list at (c.partition_point.ensures.partitioned (is_low es at sorted known c.requires) answers (rw list (low_first es at sorted known c.requires))))
