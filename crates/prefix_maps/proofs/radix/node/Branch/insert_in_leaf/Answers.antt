use Rattle.std.proofs.Common.{◌≡◌, None, sym, ap, ◌∙◌, subst, IfSome}
use Rattle.std.specs.FinMap.{find, put}
use Rattle.std.proofs.lemmas.Option.{IfSome_then}
use Rattle.bgp_prefix.specs.Keys.{key_cmp}
use Rattle.prefix_maps.specs.Tries.{IsTrie, IsInserted}
use Rattle.prefix_maps.specs.declared.radix.node.Branch.TheVariants.{Leaf}
use Rattle.prefix_maps.proofs.Outcomes.{some_then, none_from}
use Rattle.prefix_maps.proofs.InsertLaws.{inserted_in_leaf, inserted_split}
use Rattle.prefix_maps.proofs.RemoveLaws.{put_without}
use Rattle.prefix_maps.proofs.radix.node.Branch.insert_in_leaf.Goals as goal
use Rattle.prefix_maps.proofs.radix.node.Branch.insert_in_leaf.Goals.{then-is_some-via-then-is_some, then-is_some-via-else-is_some+then-len-le-LEAF_ROUTES}

pub returns-then-is_some-clause-ok : goal.returns-then-is_some-clause-ok
returns-then-is_some-clause-ok g c =
    let key = c.args.key.now in
    let l = c.in-Leaf.leaf in
    let trie = subst IsTrie c.in-Leaf.is c.requires.trie in
    let done : IfSome c.args.slot.now (IsInserted c.args.self.now (Leaf c.exchange.new.held) key) = rw c.in-Leaf.is (IfSome_then _ {P = λ v. c.exchange.new.held ≡ put key_cmp key v l} c.in_ok-exchange.ensures.ok (λ v is. inserted_in_leaf key v l _ trie c.requires.known is)) in
    elim c.then-is_some.branch [ then-is_some-via-then-is_some w ↦ rw w.self-is done | then-is_some-via-else-is_some+then-len-le-LEAF_ROUTES w ↦ rw w.self-is done ]

pub returns-in-Ok-None-clause-ok : goal.returns-in-Ok-None-clause-ok
returns-in-Ok-None-clause-ok g c =
    let key = c.args.key.now in
    let l = c.in-Leaf.leaf in
    let trie = subst IsTrie c.in-Leaf.is c.requires.trie in
    rw (c.in-Leaf.is, rw c.in-Ok-None.field-0-is at c.in-Ok-None.ensures.whole) (IfSome_then _ {P = λ v. c.exchange.new.held ≡ put key_cmp key v l} c.in_ok-exchange.ensures.ok (λ v is. inserted_in_leaf key v l _ trie c.requires.known is))

pub returns-in-Ok-Some-clause-ok : goal.returns-in-Ok-Some-clause-ok
returns-in-Ok-Some-clause-ok g c =
    let key = c.args.key.now in
    let l = c.in-Leaf.leaf in
    let trie = subst IsTrie c.in-Leaf.is c.requires.trie in
    rw (c.in-Leaf.is, rw c.in-Ok-Some.field-0-is at c.set.ensures) (IfSome_then _ {P = λ v. c.exchange.new.held ≡ put key_cmp key v l} c.in_ok-exchange.ensures.ok (λ v is. inserted_split key v l _ c.in-Ok-Some.fork trie c.requires.known is (rw c.in-Ok-Some.field-0-is at c.in-Ok-Some.ensures.fork)))

pub returns-in-Err-clause-err : goal.returns-in-Err-clause-err
returns-in-Err-clause-err g c =
    let key = c.args.key.now in
    let l = c.in-Leaf.leaf in
    let trie = subst IsTrie c.in-Leaf.is c.requires.trie in
    let absent : find key_cmp key l ≡ None = sym c.in_ok-exchange.ensures.before ∙ none_from c.exchange.new.slot (sym c.if-is_some.ensures) in
    let left = rw c.in-Err.ensures.err at c.remove_into.ensures.removed in
    let same : c.remove_into.new.held ≡ l = some_then {P = λ v. c.exchange.new.held ≡ put key_cmp key v l} c.args.slot.now c.requires.given c.in_ok-exchange.ensures.ok (λ v is. rw is at left ∙ put_without key l v trie.0.sorted absent) in
    ap Leaf same ∙ sym c.in-Leaf.is
