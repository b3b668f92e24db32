use Rattle.std.proofs.Common.{◌∙◌, length, ap, subst, sym, arith}
use Rattle.unit_rings.specs.UnitLists.{units_of, AreSmall}
use Rattle.unit_rings.proofs.unit_producer.UnitProducer+Prefix+F+Rules+F.take_open_list.Goals as goal

pub invariant_of-self : goal.invariant_of-self
invariant_of-self g c =
    let self = c.args.self.now in
    let none = ap units_of c.replace.ensures.after ∙ c.new.ensures in
    record {
      slots = self.slots;
      waiting = self.waiting;
      some = self.some;
      room = (let r = self.room in let e = ap length none in let n = c.len.ensures in omega arith);
      small = subst AreSmall (sym none) tt;
    }
