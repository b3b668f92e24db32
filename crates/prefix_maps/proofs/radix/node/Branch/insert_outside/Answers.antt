use Rattle.std.proofs.Common.{◌≡◌, ◌≢◌, [], ◌∷◌, arith}
use Rattle.std.proofs.lemmas.Option.{IfSome_then}
use Rattle.prefix_maps.proofs.InsertLaws.{inserted_box, inserted_above, inserted_between, IsSharedLen}
use Rattle.prefix_maps.proofs.radix.node.Branch.insert_outside.Goals as goal

pub returns-then-shared-len-clause-ok : goal.returns-then-shared-len-clause-ok
returns-then-shared-len-clause-ok g c =
    let a = c.args in
    let s = c.shared_len-shared.ensures in
    let shared : IsSharedLen a.at.now a.key.now.prefix c.shared_len-shared.result = record { in_p = s.in_p; in_q = s.in_q; shared = s.shared; longest = s.longest } in
    let len : a.key.now.prefix.len ≡ c.shared_len-shared.result = omega (arith, c.len.ensures.len, c.if-shared-len.true) in
    let bit = rw c.addr.ensures.addr at c.bit_after-is_high.ensures in
    let fork = rw (c.deref_mut.ensures.value, c.in_ok-fork.ensures, c.replace.ensures.value) at c.set_child.ensures in
    rw c.set.ensures (IfSome_then _ {P = λ value. c.in_ok-here.here ≡ (a.key.now, value) ∷ []} c.in_ok-here.ensures.one (λ value is. inserted_box _ _ _ _ _ (rw is at fork) (inserted_above a.self.now a.at.now a.key.now value c.requires.trie c.requires.root s.known_p c.requires.known c.requires.apart _ shared len _ bit)))

pub returns-clause-ok : goal.returns-clause-ok
returns-clause-ok g c =
    let a = c.args in
    let s = c.shared_len-shared.ensures in
    let shared : IsSharedLen a.at.now a.key.now.prefix c.shared_len-shared.result = record { in_p = s.in_p; in_q = s.in_q; shared = s.shared; longest = s.longest } in
    let longer : a.key.now.prefix.len ≢ c.shared_len-shared.result = λ same. c.if-shared-len.false (omega (arith, c.len.ensures.len, same)) in
    let bit = rw c.addr-2.ensures.addr at c.bit_after-is_high-2.ensures in
    let new = rw (c.deref_mut-2.ensures.value, c.in_ok-fork-2.ensures, c.new-2.ensures) at c.set_child-2.ensures in
    let fork = rw (c.deref_mut-3.ensures.value, new, c.replace-2.ensures.value) at c.set_child-3.ensures in
    rw c.set-2.ensures (IfSome_then _ {P = λ value. c.in_ok-new.new ≡ (a.key.now, value) ∷ []} c.in_ok-new.ensures.one (λ value is. inserted_box _ _ _ _ _ (rw is at fork) (inserted_between a.self.now a.at.now a.key.now value c.requires.trie c.requires.root s.known_p c.requires.known c.requires.apart _ shared _ c.shortened.ensures.prefix longer _ bit)))
