use Rattle.std.proofs.Common.{◌<◌, length, ap, subst, sym, arith}
use Rattle.std.specs.List.{AllByRecursion}
use Rattle.unit_rings.specs.UnitLists.{AreSmall, total}
use Rattle.unit_rings.proofs.UnitLists.{last_none}
use Rattle.unit_rings.proofs.unit_producer.UnitProducer+Prefix+F+Rules+F.new.Goals as goal

pub invariant_of-producer : goal.invariant_of-producer
invariant_of-producer g c =
    let none = c.new-2.ensures.items in
    let ring = c.in_ok-lists.ensures.producer in
    record {
      slots = ((let e = ap length none in let f = ring.1 in omega arith), ring.2);
      waiting = last_none _ _ none ring.0;
      some = subst (AllByRecursion (λ n. 0 < n)) (sym none) tt;
      room = (let e = ap total none in let f = ap length c.new.ensures in omega arith);
      small = subst AreSmall (sym c.new.ensures) tt;
    }
