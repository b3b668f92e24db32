use Rattle.std.proofs.Common.{◌≡◌, ◌+◌, ◌++◌, [], length, refl, sym, ap, ◌∙◌, append_assoc, arith, length-append}
use Rattle.std.proofs.lemmas.List.{append-nil}
use Rattle.unit_rings.specs.UnitLists.{units_of, units_of_lists}
use Rattle.unit_rings.specs.UnitRings.{sent, received, known_items, known_free, ring_capacity}
use Rattle.lane_deal.proofs.lane.renew.Goals as goal

pub move_lists-requires-clause-room : goal.move_lists-requires-clause-room
move_lists-requires-clause-room g c =
    let exact = c.compare.ensures.exact in
    let both = length-append (known_items c.compare.new.consumer) (units_of c.compare.new.self.open_list) in
    let size = c.compare.ensures.producer.0.1 in
    let made = c.in_ok-producer.ensures.producer in
    let given = c.requires.capacity in
    omega arith

pub move_open_list-requires-clause-room : goal.move_open_list-requires-clause-room
move_open_list-requires-clause-room g c =
    let exact = c.compare.ensures.exact in
    let both = length-append (known_items c.compare.new.consumer) (units_of c.compare.new.self.open_list) in
    let size = c.compare.ensures.producer.0.1 in
    let made = c.in_ok-producer.ensures.producer in
    let given = c.requires.capacity in
    let moved = c.in_ok-move_lists.ensures.free in
    omega arith

pub returns : goal.returns
returns g c =
    let seen = c.compare.ensures in
    let made = c.in_ok-producer.ensures in
    let last = c.compare-2.ensures in
    let known = known_items c.compare.new.consumer in
    let open_list = units_of c.compare.new.self.open_list in
    let producer = c.compare-2.new.self in
    let consumer = c.compare-2.new.consumer in
    let now_sent : sent producer ≡ known ++ open_list =
    last.producer.1 ∙ (c.in_ok-move_open_list.ensures.sent ∙ ap (λ s. s ++ open_list) (c.in_ok-move_lists.ensures.sent ∙ ap (λ s. s ++ known) made.producer.0)) in
    let none_received : received consumer ≡ [] = ap units_of_lists last.consumer.1 ∙ made.consumer.0 in
    let none_open : units_of producer.open_list ≡ [] = last.open_list ∙ c.move_open_list.ensures.open_list in
    let all_known : known_items consumer ++ units_of producer.open_list ≡ sent producer = ap (λ r. (r ++ known_items consumer) ++ units_of producer.open_list) (sym none_received) ∙ last.fifo in
    let whole : received c.args.worker.now.consumer ++ (known ++ open_list) ≡ sent c.args.sender.now.producer = sym (append_assoc (received c.args.worker.now.consumer) known open_list) ∙ (ap (λ r. (r ++ known) ++ open_list) (sym (ap units_of_lists seen.consumer.1)) ∙ (seen.fifo ∙ seen.producer.1)) in
    let fits : ring_capacity producer ≡ c.args.capacity = last.producer.0.1 ∙ (c.move_open_list.ensures.ring.1 ∙ (c.move_lists.ensures.ring.1 ∙ made.producer.2)) in
    let free : known_free producer + length (sent producer) ≡ c.args.capacity = ap (λ l. known_free producer + length l) (sym all_known) ∙ (last.exact ∙ fits) in
    record {
      fifo = ap (λ w. received c.args.worker.now.consumer ++ w) now_sent ∙ whole;
      sessions = refl;
      taken = refl;
      pair = (
        last.consumer.0.0.0 ∙ (made.pair.0 ∙ (sym c.move_lists.ensures.ring.0.0 ∙ (sym c.move_open_list.ensures.ring.0.0 ∙ sym last.producer.0.0.0))),
        last.consumer.0.0.1 ∙ (made.pair.1 ∙ (sym c.move_lists.ensures.ring.0.1 ∙ (sym c.move_open_list.ensures.ring.0.1 ∙ sym last.producer.0.0.1))),
        last.consumer.0.0.2 ∙ (made.pair.2 ∙ (sym c.move_lists.ensures.ring.0.2 ∙ (sym c.move_open_list.ensures.ring.0.2 ∙ sym last.producer.0.0.2))),
        last.consumer.0.0.3 ∙ (made.pair.3 ∙ (sym c.move_lists.ensures.ring.0.3 ∙ (sym c.move_open_list.ensures.ring.0.3 ∙ sym last.producer.0.0.3))),
      );
      received = none_received;
      known = sym (append-nil (known_items consumer)) ∙ (ap (λ l. known_items consumer ++ l) (sym none_open) ∙ all_known);
      room = omega arith;
      free = free;
      fits = fits;
    }
