use Rattle.std.proofs.Common.{◌≡◌, ◌-◌, ◌<◌, ◌++◌, ◌∙◌, length, drop, ap, subst, sym, append_assoc, arith, length-append, length-drop}
use Rattle.std.specs.List.{AllByRecursion}
use Rattle.rtrb.specs.Ring.{sent as sent_lists, received as received_lists, ConsumerLooked}
use Rattle.unit_rings.specs.UnitLists.{units_of, units_of_lists, AreLastLengths, total}
use Rattle.unit_rings.specs.UnitRings.{ListConsumer, known_lists, known_items}
use Rattle.unit_rings.proofs.UnitLists.{all_drop, last_dropped, units_appended, waiting_total}
use Rattle.unit_rings.proofs.unit_producer.UnitProducer+Prefix+F+Rules+F.compare.Goals as goal

pub invariant_of-self : goal.invariant_of-self
invariant_of-self g c =
    let self = c.args.self.now in
    let ls = self.lengths.items in
    let left = c.take_sum.ensures.left in
    let first = c.slots_beside.ensures in
    let last = c.slots_beside-2.ensures in
    let most = c.slots_beside.new.self.counts in
    record {
      slots = ((let e = ap length left in let k = length-drop (c.len.result - (self.capacity - c.slots_beside.result)) ls in let s = self.slots.0 in let more = last.producer.2 in omega arith), last.producer.0.1 ∙ (first.looked.0.1 ∙ self.slots.1));
      waiting = subst (λ l. AreLastLengths l (sent_lists c.slots_beside-2.new.producer)) (sym left) (last_dropped _ ls (sent_lists c.slots_beside-2.new.producer) (omega arith) (subst (AreLastLengths ls) (sym (last.producer.1 ∙ first.looked.1)) self.waiting));
      some = subst (AllByRecursion (λ n. 0 < n)) (sym left) (all_drop (λ n. 0 < n) _ ls self.some);
      room = (let t = c.take_sum.ensures.sum in let r = self.room in omega arith);
      small = self.small;
    }

looked_twice : (a b c : ListConsumer) → ConsumerLooked a b → ConsumerLooked b c → ConsumerLooked a c
looked_twice a b c p q = (
  ((q.0.0.0 ∙ p.0.0.0, q.0.0.1 ∙ p.0.0.1, q.0.0.2 ∙ p.0.0.2, q.0.0.3 ∙ p.0.0.3), q.0.1 ∙ p.0.1),
  q.1 ∙ p.1,
  (p.2.0 ++ q.2.0, sym (append_assoc (known_lists a) p.2.0 q.2.0) ∙ ap (λ l. l ++ q.2.0) p.2.1 ∙ q.2.1),
)

pub returns-clause-consumer : goal.returns-clause-consumer
returns-clause-consumer g c = looked_twice c.args.consumer.now c.slots_beside.new.consumer c.slots_beside-2.new.self c.slots_beside.ensures.consumer c.slots_beside-2.ensures.looked

pub returns-clause-fifo : goal.returns-clause-fifo
returns-clause-fifo g c =
    let consumer = c.slots_beside-2.new.self in
    ap (λ l. l ++ units_of c.args.self.now.open_list) (sym (units_appended (received_lists consumer) (known_lists consumer)) ∙ ap units_of_lists c.slots_beside-2.ensures.fifo)

pub returns-clause-exact : goal.returns-clause-exact
returns-clause-exact g c =
    let self = c.args.self.now in
    let ls = self.lengths.items in
    let left = c.take_sum.ensures.left in
    let first = c.slots_beside.ensures in
    let last = c.slots_beside-2.ensures in
    let consumer = c.slots_beside-2.new.self in
    let sent = sent_lists c.slots_beside-2.new.producer in
    let popped = c.len.result - (self.capacity - c.slots_beside.result) in
    let kept : AreLastLengths (drop popped ls) sent = last_dropped popped ls sent (omega arith) (subst (AreLastLengths ls) (sym (last.producer.1 ∙ first.looked.1)) self.waiting) in
    let a = ap length last.fifo in
    let b = length-append (received_lists consumer) (known_lists consumer) in
    let d = ap length last.looked.1 in
    let e = ap length last.producer.1 in
    let k = length-drop popped ls in
    let most = c.slots_beside.new.self.counts in
    let s = self.slots.0 in
    let waits : length (known_items consumer) ≡ total (drop popped ls) = waiting_total (drop popped ls) sent (received_lists consumer) (known_lists consumer) kept last.fifo (let all = first.all_free in omega arith) in
    let both = length-append (known_items consumer) (units_of self.open_list) in
    let t = c.take_sum.ensures.sum in
    let r = self.room in
    let same = ap total left in
    omega arith
