use Rattle.std.proofs.Common.{rules, ◌∙◌}
use Rattle.std.proofs.lemmas.Fn.{always_returns_same}
use Rattle.bgp_prefix.specs.Prefixes.{prefix_eq}
use Rattle.prefix_maps.proofs.SplitLaws.{own_in_front}
use Rattle.prefix_maps.proofs.flat.Flat.own_end.Goals as goal

pub returns-clause-end : goal.returns-clause-end
returns-clause-end g c =
    let list = c.deref.ensures.value ∙ c.self.view_is in
    let sorted = rw c.self.view_is at c.self.invariant.sorted in
    let known = rw c.self.view_is at c.self.invariant.known in
    let answers = always_returns_same _ _ _ (λ a r f' called. (search rules, search rules)) in
    rw list at (c.partition_point.ensures.partitioned (λ e. prefix_eq e.0.prefix c.args.at.now) answers (rw list (own_in_front c.args.self.now c.args.at.now sorted known c.requires)))
