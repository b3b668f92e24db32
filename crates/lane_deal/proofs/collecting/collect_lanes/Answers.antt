use Rattle.std.proofs.Common.{◌≡◌, ◌++◌, take, drop, length, ap, ◌∙◌, arith}
use Rattle.peer_tables.specs.Seats.{seat_of}
use Rattle.lane_deal.proofs.HandingIn.{handed_in, given_back, items_now}
use Rattle.lane_deal.proofs.collecting.collect_lanes.Goals as goal

pub collect-requires : goal.collect-requires
collect-requires g c =
    let first = rw (c.deref_mut.ensures.value, c.deref_mut-2.ensures.value) at c.exchange_all.ensures in
    let count : length c.in-Ok.lists.items ≡ length c.args.lanes.items = omega arith in
    let lists = items_now c.in-Ok.lists.len c.exchange_all.new.lists c.in-Ok.lists.items (omega (arith, first.seconds_count)) in
    let is = handed_in _ _ _ seat_of _ _ _ _ count first in
    rw (c.from_vec.ensures, lists, is) c.requires

pub returns-in-Ok-collect-clause-only : goal.returns-in-Ok-collect-clause-only
returns-in-Ok-collect-clause-only g c =
    let first = rw (c.deref_mut.ensures.value, c.deref_mut-2.ensures.value) at c.exchange_all.ensures in
    let count : length c.in-Ok.lists.items ≡ length c.args.lanes.items = omega arith in
    let lists = items_now c.in-Ok.lists.len c.exchange_all.new.lists c.in-Ok.lists.items (omega (arith, first.seconds_count)) in
    let is = handed_in _ _ _ seat_of _ _ _ _ count first in
    λ seats p q.
    let only = c.in-Ok-collect.ensures.only seats (rw (c.from_vec.ensures, lists, is) p) q in
    only ∙ ap (λ r. record { seats = seats; refused = r }) c.from_vec-2.ensures

pub returns-in-Err-clause-back : goal.returns-in-Err-clause-back
returns-in-Err-clause-back g c =
    let size : length c.args.lanes.items ≡ c.args.lanes.len = omega arith in
    let first = rw (c.deref_mut.ensures.value, c.deref_mut-2.ensures.value) at c.exchange_all.ensures in
    let count : length c.in-Ok.lists.items ≡ length c.args.lanes.items = omega arith in
    let lists = items_now c.in-Ok.lists.len c.exchange_all.new.lists c.in-Ok.lists.items (omega (arith, first.seconds_count)) in
    let lanes = items_now c.args.lanes.len c.exchange_all.new.lanes c.args.lanes.items (first.firsts_count ∙ size) in
    let back_lanes : c.in-Err.back.lanes ≡ c.from_vec.result = ap (λ r. r.lanes) c.in-Err.ensures.err in
    let back_refused : c.in-Err.back.refused ≡ c.from_vec-2.result = ap (λ r. r.refused) c.in-Err.ensures.err in
    let listed : c.deref_mut-in-Err-2.result.now ≡ c.exchange_all.new.lists = c.deref_mut-in-Err-2.ensures.value ∙ c.into_vec-lists.ensures ∙ back_lanes ∙ c.from_vec.ensures ∙ lists in
    let second = rw (c.deref_mut-in-Err.ensures.value, lanes, listed) at c.exchange_all-in-Err.ensures in
    let last = items_now c.args.lanes.len c.exchange_all-in-Err.new.lanes (take c.args.lanes.len (c.exchange_all.new.lanes ++ drop (length c.exchange_all.new.lanes) c.args.lanes.items)) (second.firsts_count ∙ first.firsts_count ∙ size) in
    (rw last (given_back _ _ _ g.met.L.HoldsSeats.is_back _ _ _ _ _ _ count first second), c.into_vec.ensures ∙ back_refused ∙ c.from_vec-2.ensures)
