-- How many units wait after rounds, and what a blocked one filled.
use Rattle.std.proofs.Common.{◌≡◌, ℕ, zero, suc, ◌+◌, ◌<◌, ◌≤◌, eqb, List, [], ◌∷◌, Some, refl, sym, ap, ◌∙◌, subst, arith, length, length-append}
use Rattle.std.specs.Prelude.{slice_get}
use Rattle.std.specs.List.{filter_map, count_by, sum_by, position_or_len}
use Rattle.std.proofs.lemmas.List.Sums.{sum_by-cons, length-filter, count_by-le-length}
use Rattle.std.proofs.lemmas.List.Sorted.{length_permutation}
use Rattle.peer_units.specs.Plain.{Found, Unit as ReplayUnit}
use Rattle.mrt_body.specs.Units.{unit_of}
use Rattle.peer_tables.specs.Peers.{peer_eq}
use Rattle.peer_tables.proofs.PeerPositions.{some_is}
use Rattle.lane_deal.specs.Replayers.{LaneState, ReplayerState}
use Rattle.lane_deal.specs.Rounds.{lane_in, share_of, PlaysRound, IsBlocked}
use Rattle.unit_rings.proofs.Lists.{all_of}
use Rattle.lane_deal.proofs.Classes.{of_class, by_class, by_class-IsPermutation}

-- ---- how many units wait

abbrev pub waiting_at : LaneState → ℕ
waiting_at lane = length lane.ring.sent

abbrev pub waiting_in : ReplayerState → ℕ
waiting_in r = sum_by waiting_at r.lanes

-- one lane's units are among all that wait
one_waits : (lanes : List LaneState) (lane : ℕ) (state : LaneState) → slice_get lanes lane ≡ Some state → waiting_at state ≤ sum_by waiting_at lanes
one_waits [] lane state e = cc
one_waits (x ∷ lanes) zero state e = omega (arith, sum_by-cons waiting_at x lanes, ap waiting_at (some_is x state e))
one_waits (x ∷ lanes) (suc lane) state e = omega (arith, sum_by-cons waiting_at x lanes, one_waits lanes lane state e)

pub none_waits : (lanes : List LaneState) → ((lane : ℕ) (state : LaneState) → slice_get lanes lane ≡ Some state → state.ring.sent ≡ []) → sum_by waiting_at lanes ≡ 0
none_waits [] h = refl
none_waits (x ∷ lanes) h = omega (arith, sum_by-cons waiting_at x lanes, ap length (h 0 x refl), none_waits lanes (λ lane state e. h (suc lane) state e))

-- where no lane's ring has more than the lane's own of some units, no more wait than these
no_more_wait : (class : ReplayUnit → ℕ) (units : List ReplayUnit) (lanes : List LaneState) (first : ℕ)
    → ((lane : ℕ) (state : LaneState) → slice_get lanes lane ≡ Some state → waiting_at state ≤ length (of_class class units (first + lane)))
    → sum_by waiting_at lanes ≤ length (by_class class units first (length lanes))
no_more_wait class units [] first h = omega arith
no_more_wait class units (x ∷ lanes) first h =
    let here : waiting_at x ≤ length (of_class class units first) = subst (λ n. waiting_at x ≤ length (of_class class units n)) {x = first + 0} {y = first} (omega arith) (h 0 x refl) in
    let others = no_more_wait class units lanes (first + 1) (λ lane state e.
    subst (λ n. waiting_at state ≤ length (of_class class units n)) {x = first + suc lane} {y = (first + 1) + lane} (omega arith) (h (suc lane) state e)) in
    let both : sum_by waiting_at (x ∷ lanes) ≤ length (by_class class units first (suc (length lanes))) =
    omega (arith, sum_by-cons waiting_at x lanes, here, others, length-append (of_class class units first) (by_class class units (first + 1) (length lanes))) in
    subst (λ n. sum_by waiting_at (x ∷ lanes) ≤ length (by_class class units first n)) {x = suc (length lanes)} {y = length (x ∷ lanes)} (omega arith) both

module _ (dealing : ℕ → ℕ → ℕ) where
  abbrev pub AreBelow : ReplayerState → Type 0
  AreBelow r = (number : ℕ) → dealing number (length r.lanes) < length r.lanes

  -- what waits after a round was dealt in it
  pub waits_after : (capacity batch : ℕ) (old new : ReplayerState) (coming left done : List Found) → AreBelow new → PlaysRound dealing capacity batch old new coming left done → waiting_in new ≤ length (filter_map unit_of done)
  waits_after capacity batch old new coming left done below p =
      let units = filter_map unit_of done in
      let class : ReplayUnit → ℕ = lane_in dealing new in
      let within = no_more_wait class units new.lanes 0 (λ lane state e.
      let share : share_of dealing new lane units ≡ length (of_class class units (0 + lane)) = ap (λ n. count_by (λ u. eqb (class u) n) units) {x = lane} {y = 0 + lane} (omega arith) ∙ sym (length-filter (λ u. eqb (class u) (0 + lane)) units) in
      omega (arith, p.taken lane state e, share)) in
      let all = length_permutation units (by_class class units 0 (length new.lanes)) (by_class-IsPermutation class units (length new.lanes) (all_of units (λ u. below (position_or_len (peer_eq u.peer) new.peers)))) in
      omega (arith, within, all)

  -- a blocked round filled a ring
  pub fills : (capacity : ℕ) (old new : ReplayerState) (dealt : List ReplayUnit) → IsBlocked dealing capacity old new dealt → capacity ≤ waiting_in old + length dealt
  fills capacity old new dealt h =
      let lane = lane_in dealing new h.0 in
      omega (arith, h.4, one_waits old.lanes lane h.1 h.3, count_by-le-length (λ unit. eqb (lane_in dealing new unit) lane) dealt)
