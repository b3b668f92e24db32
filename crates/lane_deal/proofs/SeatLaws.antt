-- The sessions of all lanes are those of all peers.
use Rattle.std.proofs.Common.{◌≡◌, ℕ, ◌<◌, Bool, true, false, cond, eqb, List, [], ◌∷◌, ◌++◌, refl, sym, ap, ◌∙◌, subst, map}
use Rattle.std.proofs.lemmas.List.{map-append}
use Rattle.std.proofs.lemmas.Simd.{map-map}
use Rattle.std.specs.List.{filter, flat_map, range_with_len, enumerate_from}
use Rattle.std.specs.List.Sorted.{IsPermutation, IsStrictlyIncreasing}
use Rattle.std.proofs.lemmas.List.Sorted.{IsPermutation-map, IsPermutation-sym}
use Rattle.peer_units.specs.declared.unit.Damage.{Damage}
use Rattle.peer_units.specs.declared.unit.PeerKey.{PeerKey}
use Rattle.peer_units.specs.Plain.{Unit as ReplayUnit}
use Rattle.adj_rib.specs.Sessions.{session_of}
use Rattle.peer_tables.specs.Peers.{peers_of, units_of_peer}
use Rattle.peer_tables.specs.Tables.{Seat, tables_of}
use Rattle.lane_deal.specs.Lanes.{number_of_peer, lane_units, seats_of_lane}
use Rattle.unit_rings.proofs.Lists.{all_of}
use Rattle.lane_deal.proofs.Classes.{of_class, by_class, by_class-IsPermutation}
use Rattle.lane_deal.proofs.Peers.{units_of_chosen, peers_of_chosen}
use Rattle.lane_deal.proofs.Numbering.{numbered_peers, positions_rise}

abbrev seat_numbered : List ReplayUnit → ℕ → PeerKey → Seat
seat_numbered units number q = record { number = number; key = q; session = session_of (units_of_peer units q) }

pub map_filtered : {X Y : Type 0} (f g : X → Y) (p : X → Bool) (xs : List X) → ((x : X) → p x ≡ true → f x ≡ g x) → map f (filter p xs) ≡ map g (filter p xs)
map_filtered f g p [] h = refl
map_filtered f g p (x ∷ xs) h =
    elim (p x) as (λ b. p x ≡ b → map f (cond b (x ∷ filter p xs) (filter p xs)) ≡ map g (cond b (x ∷ filter p xs) (filter p xs))) [
      | true ↦ λ e. ap (λ y. y ∷ map f (filter p xs)) (h x e) ∙ ap (λ l. g x ∷ l) (map_filtered f g p xs h)
      | false ↦ λ e. map_filtered f g p xs h
    ] refl

pub flat_map_alike : {X Y : Type 0} (f g : X → List Y) (xs : List X) → ((x : X) → f x ≡ g x) → flat_map f xs ≡ flat_map g xs
flat_map_alike f g [] h = refl
flat_map_alike f g (x ∷ xs) h = ap (λ l. l ++ flat_map f xs) (h x) ∙ ap (λ l. g x ++ l) (flat_map_alike f g xs h)

pub map_of_lists : {X Y Z : Type 0} (g : Y → Z) (h : X → List Y) (xs : List X) → flat_map (λ x. map g (h x)) xs ≡ map g (flat_map h xs)
map_of_lists g h [] = refl
map_of_lists g h (x ∷ xs) = ap (λ l. map g (h x) ++ l) (map_of_lists g h xs) ∙ sym (map-append g (h x) (flat_map h xs))

module _ (lane_of : ℕ → ℕ) (units : List ReplayUnit) where
  abbrev lane_of_peer : PeerKey → ℕ
  lane_of_peer q = lane_of (number_of_peer units q)

  -- the session of a peer that stands for its units among all
  abbrev own_seat : PeerKey → Seat
  own_seat q = seat_numbered units (number_of_peer units q) q

  seats_are : (lane : ℕ) → seats_of_lane units (lane_units lane_of units lane) ≡ map own_seat (of_class lane_of_peer (peers_of units) lane)
  seats_are lane =
      let chosen : PeerKey → Bool = λ q. eqb (lane_of_peer q) lane in
      ap (map (λ q. seat_numbered (lane_units lane_of units lane) (number_of_peer units q) q)) (peers_of_chosen chosen units)
      ∙ map_filtered (λ q. seat_numbered (lane_units lane_of units lane) (number_of_peer units q) q) own_seat chosen (peers_of units)
      (λ q e. ap (λ l. record { number = number_of_peer units q; key = q; session = session_of l }) (units_of_chosen chosen units q e))

  -- the lanes' sessions together are those of all peers
  pub seats_of_lanes : (workers : ℕ) (refused : List Damage) → ((number : ℕ) → lane_of number < workers)
      → IsPermutation (flat_map (λ lane. seats_of_lane units (lane_units lane_of units lane)) (range_with_len 0 workers)) (tables_of units refused).seats
  unfolding tables_of
  seats_of_lanes workers refused below =
      let gathered : flat_map (λ lane. seats_of_lane units (lane_units lane_of units lane)) (range_with_len 0 workers) ≡ map own_seat (by_class lane_of_peer (peers_of units) 0 workers) =
      flat_map_alike (λ lane. seats_of_lane units (lane_units lane_of units lane)) (λ lane. map own_seat (of_class lane_of_peer (peers_of units) lane)) (range_with_len 0 workers) seats_are
      ∙ map_of_lists own_seat (of_class lane_of_peer (peers_of units)) (range_with_len 0 workers) in
      let shared = IsPermutation-map own_seat _ _ (by_class-IsPermutation lane_of_peer (peers_of units) workers (all_of (peers_of units) (λ q. below (number_of_peer units q)))) in
      let with_numbers : map own_seat (peers_of units) ≡ (tables_of units refused).seats = numbered_peers (seat_numbered units) units in
      subst (λ l. IsPermutation l (tables_of units refused).seats) (sym gathered) (subst (IsPermutation (map own_seat (by_class lane_of_peer (peers_of units) 0 workers))) with_numbers (IsPermutation-sym _ _ shared))

-- the numbers of all peers rise
pub numbers_rise : (units : List ReplayUnit) (refused : List Damage) → IsStrictlyIncreasing (map (λ s. s.number) (tables_of units refused).seats)
unfolding tables_of
numbers_rise units refused = subst IsStrictlyIncreasing (sym (map-map (λ (s : Seat). s.number) (λ e. seat_numbered units e.0 e.1) (enumerate_from 0 (peers_of units)))) (positions_rise (peers_of units))
