use Rattle.std.proofs.Common.{◌≡◌, ℕ, arith, ◌+◌, ◌<◌, ◌^◌, ◌∷◌, [], ◌++◌, List, Option, length, sym, subst, ap, ◌∙◌}
use Rattle.std.specs.BinaryHeap.{heap_items}
use Rattle.bgp_prefix.specs.Prefixes.{IpPrefix}
use Rattle.checkpoint_writing.specs.Merging.{Entries, IsMerge, PushesHead, MergeState, first_prefix}
use Rattle.checkpoint_writing.proofs.MergeLaws.{merge_more, state}
use Rattle.checkpoint_writing.proofs.merge.Merge.add.Goals as goal

pub returns-clause-merge : goal.returns-clause-merge
returns-clause-merge g c =
    let lists : List Entries = c.self.inside.cursors.items in
    let merge = subst IsMerge (sym c.self.view_is) c.requires.merge in
    let few = subst (λ (m : MergeState). length m.lists + 1 < 256 ^ 2) (sym c.self.view_is) c.requires.few in
    let entries : c.new-cursor.result ≡ c.args.entries.items = c.new-cursor.ensures in
    let first : c.prefix.result ≡ first_prefix c.args.entries.items = c.prefix.ensures ∙ ap first_prefix entries in
    let len : c.len.result ≡ length c.self.inside.cursors.items = omega (arith, c.len.ensures, c.self.inside.cursors.ok.0) in
    let pushed = subst (λ (p : Option IpPrefix). PushesHead p c.len.result (heap_items c.self.inside.heads) (heap_items c.push_head.new.heads)) first c.in_ok-push_head.ensures in
    subst (λ (ls : List Entries). IsMerge (state ls (heap_items c.push_head.new.heads)))
    (ap (λ (es : Entries). lists ++ es ∷ []) (sym entries) ∙ sym c.in_ok-push.ensures.items)
    (merge_more lists c.args.entries.items (heap_items c.self.inside.heads) (heap_items c.push_head.new.heads) merge c.requires.sorted few
    (subst (λ (n : ℕ). PushesHead (first_prefix c.args.entries.items) n (heap_items c.self.inside.heads) (heap_items c.push_head.new.heads)) len pushed))
