use Rattle.std.proofs.Common.{◌<◌, [], ◌∷◌, ◌++◌, ◌∙◌, length, ap, subst, sym, arith, length-append}
use Rattle.std.specs.List.{AllByRecursion}
use Rattle.rtrb.specs.Ring.{sent as sent_lists}
use Rattle.unit_rings.specs.UnitLists.{AreLastLengths, list_length, total}
use Rattle.unit_rings.proofs.UnitLists.{last_pushed, slot_for, some_push, total-push}
use Rattle.unit_rings.proofs.unit_producer.UnitProducer+Prefix+F+Rules+F.push_list.Goals as goal

pub push_reserved-requires : goal.push_reserved-requires
push_reserved-requires g c =
    let self = c.args.self.now in
    let none = ap length c.requires.open_list in
    (slot_for self.lengths.items self.free _ self.capacity _ self.some self.slots.0 (let r = self.room in omega arith) c.requires.list.0 c.requires.room, c.requires.list)

-- no length was added
pub invariant_of-self : goal.invariant_of-self
invariant_of-self g c =
    let self = c.args.self.now in
    let same = c.in_err-push_back.ensures.items in
    record {
      slots = ((let s = self.slots.0 in let e = ap length same in omega arith), self.slots.1);
      waiting = subst (λ l. AreLastLengths l (sent_lists self.lists)) (sym same) self.waiting;
      some = subst (AllByRecursion (λ n. 0 < n)) (sym same) self.some;
      room = (let r = self.room in let e = ap total same in omega arith);
      small = self.small;
    }

pub invariant_of-self-2 : goal.invariant_of-self-2
invariant_of-self-2 g c =
    let self = c.args.self.now in
    let list = c.args.list in
    let ls = self.lengths.items in
    let n = c.len-length.result in
    let pushed = c.in_ok-push_back.ensures.items in
    let ring = c.push_reserved.ensures in
    record {
      slots = ((let s = self.slots.0 in let e = ap length pushed in let k = length-append ls (n ∷ []) in let f = ring.sent.1 in omega arith), ring.ring.1 ∙ self.slots.1);
      waiting =
          subst (λ l. AreLastLengths l (sent_lists c.push_reserved.new.self)) (sym (pushed ∙ ap (λ k. ls ++ k ∷ []) c.len-length.ensures))
          (subst (AreLastLengths (ls ++ list_length list ∷ [])) (sym ring.sent.0) (last_pushed ls (sent_lists self.lists) list self.waiting));
      some = subst (AllByRecursion (λ n. 0 < n)) (sym pushed) (some_push ls n (let some = c.requires.list.0 in let e = c.len-length.ensures in omega arith) self.some);
      room = (let r = self.room in let e = ap total pushed in let t = total-push ls n in omega arith);
      small = self.small;
    }
