use Rattle.std.proofs.Common.{rules, ◌∙◌, leb}
use Rattle.std.proofs.lemmas.Fn.{always_returns_same}
use Rattle.std.proofs.lemmas.List.Sorted.{IsPartitionedBy-leb}
use Rattle.prefix_maps.proofs.SplitLaws.{rise}
use Rattle.std.proofs.lemmas.Bool.{leb-true, leb-false}
use Rattle.prefix_maps.proofs.flat.Flat.count_up_to_address.Goals as goal

pub returns-clause-end : goal.returns-clause-end
returns-clause-end g c =
    let list = c.deref.ensures.value ∙ c.self.view_is in
    let sorted = rw c.self.view_is at c.self.invariant.sorted in
    let answers = always_returns_same _ _ _ (λ a r f' called. (search rules, search rules)) in
    let parts = rw list at (c.partition_point.ensures.partitioned (λ e. leb e.0.prefix.addr (g.F.Family.bits c.args.addr)) answers (rw list (IsPartitionedBy-leb (λ e. e.0.prefix.addr) c.args.self.now (g.F.Family.bits c.args.addr) (λ i j d le lt. (rise c.args.self.now i j d sorted le lt).low)))) in
    (λ k d low high. leb-true _ _ (parts.0 k d low high), λ k d low high. leb-false _ _ (parts.1 k d low high))
