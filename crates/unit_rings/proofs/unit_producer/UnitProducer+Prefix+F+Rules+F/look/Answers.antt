use Rattle.std.proofs.Common.{◌-◌, ◌<◌, ◌∙◌, length, ap, subst, sym, arith, length-drop}
use Rattle.std.specs.List.{AllByRecursion}
use Rattle.rtrb.specs.Ring.{sent as sent_lists}
use Rattle.unit_rings.specs.UnitLists.{AreLastLengths}
use Rattle.unit_rings.proofs.UnitLists.{all_drop, last_dropped}
use Rattle.unit_rings.proofs.unit_producer.UnitProducer+Prefix+F+Rules+F.look.Goals as goal

pub invariant_of-self : goal.invariant_of-self
invariant_of-self g c =
    let self = c.args.self.now in
    let ls = self.lengths.items in
    let left = c.take_sum.ensures.left in
    record {
      slots = ((let e = ap length left in let k = length-drop (c.len.result - (self.capacity - c.slots.result)) ls in let s = self.slots.0 in let most = c.slots.new.self.counts in let more = c.slots.ensures.looked.2 in omega arith), c.slots.ensures.looked.0.1 ∙ self.slots.1);
      waiting = subst (λ l. AreLastLengths l (sent_lists c.slots.new.self)) (sym left) (last_dropped _ ls (sent_lists c.slots.new.self) (omega arith) (subst (AreLastLengths ls) (sym c.slots.ensures.looked.1) self.waiting));
      some = subst (AllByRecursion (λ n. 0 < n)) (sym left) (all_drop (λ n. 0 < n) _ ls self.some);
      room = (let t = c.take_sum.ensures.sum in let r = self.room in omega arith);
      small = self.small;
    }
