use Rattle.std.proofs.Common.{map, sym, ap, ◌∙◌, ◌++◌, ◌∷◌, [], subst, arith}
use Rattle.lane_deal.specs.Seating.{AreIndexed}
use Rattle.lane_deal.proofs.SeatIndexes.{indexed_kept, indexed_more}
use Rattle.lane_deal.proofs.seats.Seats.add.Goals as goal

pub invariant_of-self : goal.invariant_of-self
invariant_of-self g c = record {
  indexed = λ is. indexed_kept c.args.self.now.positions.items c.remember.new.positions.items c.args.self.now.seats.items c.args.number (c.args.self.now.indexed is) c.requires c.remember.ensures.others;
}

pub invariant_of-self-in-Break-branch-2 : goal.invariant_of-self-in-Break-branch-2
invariant_of-self-in-Break-branch-2 g c = record {
  indexed = λ is.
      subst (λ l. AreIndexed c.remember.new.positions.items (map (λ s. s.number) l)) (sym c.reserve.ensures.items)
      (indexed_kept c.args.self.now.positions.items c.remember.new.positions.items c.args.self.now.seats.items c.args.number (c.args.self.now.indexed is) c.requires c.remember.ensures.others);
}

pub invariant_of-self-2 : goal.invariant_of-self-2
invariant_of-self-2 g c = record {
  indexed = λ is.
      indexed_more c.remember.new.positions.items c.args.self.now.seats.items c.push_reserved.new.self.items (record { number = c.args.number; key = c.args.key; session = c.new.result }) c.len-at.result
      (indexed_kept c.args.self.now.positions.items c.remember.new.positions.items c.args.self.now.seats.items c.args.number (c.args.self.now.indexed is) c.requires c.remember.ensures.others)
      c.in_ok-remember.ensures.own (omega arith)
      (c.push_reserved.ensures.items ∙ ap (λ l. l ++ record { number = c.args.number; key = c.args.key; session = c.new.result } ∷ []) c.in_ok-reserve.ensures.items);
}
