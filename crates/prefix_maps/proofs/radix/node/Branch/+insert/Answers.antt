use Rattle.std.proofs.Common.{◌≡◌, List, refl, sym, ap, ◌∙◌, subst, IfSome}
use Rattle.std.specs.FinMap.{put}
use Rattle.std.proofs.lemmas.Option.{IfSome_then}
use Rattle.prefix_maps.proofs.Outcomes.{ok_then, ok_when}
use Rattle.bgp_prefix.specs.Keys.{key_cmp}
use Rattle.prefix_maps.specs.Tries.{IsTrie, IsInserted}
use Rattle.prefix_maps.proofs.TrieLaws.{find_here, find_in_low, find_in_high}
use Rattle.prefix_maps.proofs.InsertLaws.{inserted_in_fork, inserted_low, inserted_high}
use Rattle.prefix_maps.proofs.ForkLaws.{found_outside}
use Rattle.prefix_maps.proofs.radix.node.Branch.+insert.Goals as goal

pub returns-in-Here-clause-before : goal.returns-in-Here-clause-before
returns-in-Here-clause-before g t c =
    rw (c.in-Fork.is, find_here c.in-Fork.fork.value (subst IsTrie c.in-Fork.is c.requires.trie) c.args.key.now (rw c.deref.ensures at c.in-Here.ensures))
    (rw c.deref_mut.ensures.value at c.exchange.ensures.before)

pub returns-in-Here-clause-ok : goal.returns-in-Here-clause-ok
returns-in-Here-clause-ok g t c =
    let key = c.args.key.now in
    let f = c.in-Fork.fork.value in
    let trie = subst IsTrie c.in-Fork.is c.requires.trie in
    let direction = rw c.deref.ensures at c.in-Here.ensures in
    let call = c.exchange in
    let value = c.deref_mut.ensures.value in
    rw (c.in-Fork.is, value) (ok_then {P = IfSome c.args.slot.now (λ v. call.new.held ≡ put key_cmp key v f.here)} _ (rw value at call.ensures.ok) (λ given. IfSome_then _ {P = λ v. call.new.held ≡ put key_cmp key v f.here} given (λ v is. inserted_in_fork key v _ _ trie direction (ap (λ (here : List (_ × _)). record f { here = here }) is))))

pub returns-in-Low-clause-before : goal.returns-in-Low-clause-before
returns-in-Low-clause-before g t c =
    rw (c.in-Fork.is, find_in_low c.in-Fork.fork.value (subst IsTrie c.in-Fork.is c.requires.trie) c.args.key.now (rw c.deref.ensures at c.in-Low.ensures))
    (rw c.deref_mut-in-Low.ensures.value at c.insert.ensures.before)

pub returns-in-Low-clause-ok : goal.returns-in-Low-clause-ok
returns-in-Low-clause-ok g t c =
    let key = c.args.key.now in
    let f = c.in-Fork.fork.value in
    let trie = subst IsTrie c.in-Fork.is c.requires.trie in
    let direction = rw c.deref.ensures at c.in-Low.ensures in
    let call = c.insert in
    let value = c.deref_mut-in-Low.ensures.value in
    rw (c.in-Fork.is, value) (ok_then {P = IfSome c.args.slot.now (IsInserted f.low call.new.self key)} _ (rw value at call.ensures.ok) (λ given. IfSome_then c.args.slot.now {P = IsInserted f.low call.new.self key} given (λ v is. inserted_low key v c.in-Fork.fork _ call.new.self trie direction refl is)))

pub returns-in-High-clause-before : goal.returns-in-High-clause-before
returns-in-High-clause-before g t c =
    rw (c.in-Fork.is, find_in_high c.in-Fork.fork.value (subst IsTrie c.in-Fork.is c.requires.trie) c.args.key.now (rw c.deref.ensures at c.in-High.ensures))
    (rw c.deref_mut-in-High.ensures.value at c.insert-in-High.ensures.before)

pub returns-in-High-clause-ok : goal.returns-in-High-clause-ok
returns-in-High-clause-ok g t c =
    let key = c.args.key.now in
    let f = c.in-Fork.fork.value in
    let trie = subst IsTrie c.in-Fork.is c.requires.trie in
    let direction = rw c.deref.ensures at c.in-High.ensures in
    let call = c.insert-in-High in
    let value = c.deref_mut-in-High.ensures.value in
    rw (c.in-Fork.is, value) (ok_then {P = IfSome c.args.slot.now (IsInserted f.high call.new.self key)} _ (rw value at call.ensures.ok) (λ given. IfSome_then c.args.slot.now {P = IsInserted f.high call.new.self key} given (λ v is. inserted_high key v c.in-Fork.fork _ call.new.self trie direction refl is)))

pub returns-in-Outside-clause-before : goal.returns-in-Outside-clause-before
returns-in-Outside-clause-before g t c =
    ok_when _ (c.insert_outside.ensures.taken ∙ sym (found_outside _ c.in-Fork.fork c.in-Fork.is c.requires.trie c.args.key.now (rw c.deref.ensures at c.in-Outside.ensures)))
