-- Tables that stand for units and refusals are one value, whatever the lanes.
use Rattle.std.proofs.Common.{◌≡◌, ℕ, zero, suc, ◌+◌, ◌<◌, List, [], ◌∷◌, Some, refl, sym, ap, ◌∙◌, subst, arith, get_or, length, map}
use Rattle.std.specs.List.{AllByRecursion, Contains, enumerate_from, slice_get}
use Rattle.std.specs.List.Sorted.{IsPermutation, IsStrictlyIncreasing}
use Rattle.std.proofs.lemmas.List.{get_or-map, length-map}
use Rattle.std.proofs.lemmas.List.Elements.{All-contains, Contains-get_or}
use Rattle.std.proofs.lemmas.List.FromFn.{length-enumerate_from, get_or-enumerate_from}
use Rattle.std.proofs.lemmas.List.Sorted.{All-permutation, Contains-permutation, IsPermutation-map, IsPermutation-trans}
use Rattle.std.proofs.lemmas.Map.Keys.{sorted_from_strictly_increasing}
use Rattle.std.proofs.lemmas.Option.{slice_get-get_or, slice_get_within}
use Rattle.peer_units.specs.declared.unit.Damage.{Damage}
use Rattle.peer_units.specs.declared.unit.PeerKey.{PeerKey}
use Rattle.peer_units.specs.Plain.{Unit as ReplayUnit}
use Rattle.adj_rib.specs.Sessions.{session_of}
use Rattle.peer_tables.specs.Peers.{peers_of, units_of_peer}
use Rattle.peer_tables.specs.Tables.{Seat, TablesState, IsCollected, tables_of}
use Rattle.peer_tables.specs.Standing.{IsSeatOf, AreSeatsOf, AreTablesOf, numbers_of}
use Rattle.peer_tables.proofs.SeatOrder.{Rises, rises_from, one_rising, collected_only}

abbrev number_of : Seat → ℕ
number_of s = s.number

module _ (units : List ReplayUnit) where
  -- the seat of a peer under a number
  abbrev pub peer_seat : ℕ × PeerKey → Seat
  peer_seat e = record { number = e.0; key = e.1; session = session_of (units_of_peer units e.1) }

  abbrev pub seats_from : ℕ → List PeerKey → List Seat
  seats_from n peers = map peer_seat (enumerate_from n peers)

  abbrev peers : List PeerKey
  peers = peers_of units

  abbrev seats : List Seat
  seats = seats_from 0 peers

  above_numbered : (k n : ℕ) (qs : List PeerKey) → k < n → AllByRecursion (λ s. k < s.number) (seats_from n qs)
  above_numbered k n [] h = tt
  above_numbered k n (q ∷ qs) h = (h, above_numbered k (n + 1) qs (omega arith))

  rises_numbered : (n : ℕ) (qs : List PeerKey) → Rises number_of (seats_from n qs)
  rises_numbered n [] = tt
  rises_numbered n (q ∷ qs) = (above_numbered n (n + 1) qs (omega arith), rises_numbered (n + 1) qs)

  number_at : (n : ℕ) (qs : List PeerKey) (k : ℕ) (d : ℕ) → k < length qs → get_or (numbers_of (seats_from n qs)) k d ≡ n + k
  number_at n [] k d h = absurd (omega arith)
  number_at n (q ∷ qs) zero d h = omega arith
  number_at n (q ∷ qs) (suc k) d h =
      let before = number_at (n + 1) qs k d (omega arith) in
      omega (arith, before)

  length_seats : (n : ℕ) (qs : List PeerKey) → length (seats_from n qs) ≡ length qs
  length_seats n qs = length-map (enumerate_from n qs) peer_seat ∙ length-enumerate_from n qs

  length_numbers : (n : ℕ) (qs : List PeerKey) → length (numbers_of (seats_from n qs)) ≡ length qs
  length_numbers n qs = length-map (seats_from n qs) number_of ∙ length_seats n qs

  seat_at : (qs : List PeerKey) (k : ℕ) (q : PeerKey) (d : Seat) → k < length qs → get_or (seats_from 0 qs) k d ≡ peer_seat (k, get_or qs k q)
  seat_at qs k q d below =
      let inside : k < length (enumerate_from 0 qs) = omega (arith, length-enumerate_from 0 qs, below) in
      let number : 0 + k ≡ k = omega arith in
      get_or-map peer_seat (enumerate_from 0 qs) k (0, q) d inside ∙ ap peer_seat (get_or-enumerate_from 0 qs k (0, q) below) ∙ ap (λ n. peer_seat (n, get_or qs k q)) number

  seat_from : (z : Seat) (k : ℕ) → k < length peers → get_or seats k z ≡ z → IsSeatOf units z
  seat_from z k below at =
      let is : peer_seat (k, get_or peers k z.key) ≡ z = sym (seat_at peers k z.key z below) ∙ at in
      record {
        numbered = ap (λ s. slice_get peers s.number) (sym is) ∙ slice_get-get_or peers k z.key below ∙ ap (λ s. Some s.key) is;
        stands = subst (λ s. s.session ≡ session_of (units_of_peer units s.key)) is refl;
      }

  pub seat_from_contained : (z : Seat) → Contains seats z → IsSeatOf units z
  seat_from_contained z m = seat_from z m.0 (omega (arith, length_seats 0 peers, m.1)) m.2

  same_Some_key : (p q : PeerKey) → Some p ≡ Some q → p ≡ q
  same_Some_key p q e = cc

  pub contained_from_seat : (z : Seat) → IsSeatOf units z → Contains seats z
  contained_from_seat z s =
      let below : z.number < length peers = slice_get_within peers z.number z.key s.numbered in
      let key : get_or peers z.number z.key ≡ z.key = same_Some_key _ _ (sym (slice_get-get_or peers z.number z.key below) ∙ s.numbered) in
      let at : get_or seats z.number z ≡ peer_seat (z.number, z.key) = seat_at peers z.number z.key z below ∙ ap (λ q. peer_seat (z.number, q)) key in
      let is : peer_seat (z.number, z.key) ≡ z = λ i. record { number = z.number; key = z.key; session = sym s.stands i } in
      (z.number, omega (arith, length_seats 0 peers, below), at ∙ is)

  one_seat : (y z : Seat) → IsSeatOf units y → IsSeatOf units z → y.number ≡ z.number → y ≡ z
  one_seat y z a b e =
      let key : y.key ≡ z.key = same_Some_key _ _ (sym a.numbered ∙ ap (slice_get peers) e ∙ b.numbered) in
      let session = a.stands ∙ ap (λ q. session_of (units_of_peer units q)) key ∙ sym b.stands in
      λ i. record { number = e i; key = key i; session = session i }

  -- a peer's seat stands among the seats of all peers
  seat_among : (xs : List Seat) → AreSeatsOf units xs → (z : Seat) → IsSeatOf units z → Contains xs z
  seat_among xs a z s =
      let m = a.every_peer z.number (slice_get_within peers z.number z.key s.numbered) in
      let below : m.0 < length xs = omega (arith, length-map xs number_of, m.1) in
      let y : Seat = get_or xs m.0 z in
      let has : Contains xs y = Contains-get_or xs m.0 z below in
      let number : y.number ≡ z.number = sym (get_or-map number_of xs m.0 z z.number below) ∙ m.2 in
      subst (Contains xs) (one_seat y z (All-contains (IsSeatOf units) xs y a.each has) s number) has

  seats_are : (tables : TablesState) (refused : List Damage) → AreTablesOf tables units refused → tables.seats ≡ seats
  seats_are tables refused h = one_rising number_of tables.seats seats
      (rises_from number_of tables.seats (sorted_from_strictly_increasing (numbers_of tables.seats) h.ascending))
      (rises_numbered 0 peers)
      (λ z m. contained_from_seat z (All-contains (IsSeatOf units) tables.seats z h.seats.each m))
      (λ z m. seat_among tables.seats h.seats z (seat_from_contained z m))

  increasing : IsStrictlyIncreasing (numbers_of seats)
  increasing k below =
      let short : k + 1 < length peers = omega (arith, length_numbers 0 peers, below) in
      omega (arith, number_at 0 peers k 0 (omega (arith, short)), number_at 0 peers (k + 1) 0 short)

  all_seats : AreSeatsOf units seats
  all_seats = record {
    each = λ k d below. seat_from_contained (get_or seats k d) (Contains-get_or seats k d below);
    every_peer = λ number below. (number, omega (arith, length_numbers 0 peers, below), number_at 0 peers number number below ∙ omega arith);
  }

-- tables that stand for units and refusals are those of the units and refusals
pub AreTablesOf-only : (tables : TablesState) (units : List ReplayUnit) (refused : List Damage) → AreTablesOf tables units refused → tables ≡ tables_of units refused
unfolding tables_of
AreTablesOf-only tables units refused h =
    let seats = seats_are units tables refused h in
    let kept = h.refused_kept in
    λ i. record { seats = seats i; refused = kept i }

-- and these do stand for them
pub AreTablesOf-tables_of : (units : List ReplayUnit) (refused : List Damage) → AreTablesOf (tables_of units refused) units refused
unfolding tables_of
AreTablesOf-tables_of units refused = record { seats = all_seats units; ascending = increasing units; refused_kept = refl }

-- what is collected of the seats of all peers
pub AreTablesOf-collected : (seats : List Seat) (refused : List Damage) (tables : TablesState) (units : List ReplayUnit) → IsCollected seats refused tables → AreSeatsOf units seats
    → AreTablesOf tables units refused
AreTablesOf-collected seats refused tables units collected a = record {
  seats = record {
    each = All-permutation (IsSeatOf units) seats tables.seats collected.same a.each;
    every_peer = λ number below. Contains-permutation (numbers_of seats) (numbers_of tables.seats) number (IsPermutation-map number_of seats tables.seats collected.same) (a.every_peer number below);
  };
  ascending = collected.ascending;
  refused_kept = collected.refused_kept;
}

-- the same seats, in other lanes or in another order
pub collected_alike : (seats others : List Seat) (refused : List Damage) (one other : TablesState) → IsPermutation seats others → IsCollected seats refused one → IsCollected others refused other
    → one ≡ other
collected_alike seats others refused one other same collected again =
    let kept = sym again.refused_kept in
    collected_only seats other.seats refused one collected (IsPermutation-trans seats others other.seats same again.same) again.ascending
    ∙ (λ i. record { seats = other.seats; refused = kept i })
