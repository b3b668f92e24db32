-- The tables of what lanes took.
use Rattle.std.proofs.Common.{◌≡◌, ℕ, ◌<◌, ◌≤◌, ◌||◌, if◌then◌else◌, true, false, eqb, List, [], ◌∷◌, ◌++◌, length, map, get_or, nat_eq, Some, refl, sym, ap, ◌∙◌, subst, append_assoc, arith}
use Rattle.std.specs.Prelude.{slice_get}
use Rattle.std.specs.List.{filter, flat_map, range_with_len, AllByRecursion, IsDistinct}
use Rattle.std.specs.List.Sorted.{IsPermutation, IsStrictlyIncreasing}
use Rattle.std.proofs.lemmas.Bool.{eqb-true, eq-eqb}
use Rattle.std.proofs.lemmas.Cmp.{nat_eq_equiv}
use Rattle.std.proofs.lemmas.List.{append-nil, length-map}
use Rattle.std.proofs.Math.ListN.{get_or-map}
use Rattle.std.proofs.lemmas.List.Elements.{filter-append}
use Rattle.std.proofs.lemmas.List.Folds.{flat_map-map}
use Rattle.std.proofs.lemmas.List.FromFn.{length-range_with_len, get_or-range_with_len}
use Rattle.std.proofs.lemmas.List.Sorted.{IsPermutation-map, IsPermutation-sym}
use Rattle.std.proofs.lemmas.Map.Keys.{IsDistinct-IsPermutation}
use Rattle.std.proofs.lemmas.Simd.{map-map}
use Rattle.peer_units.specs.declared.unit.PeerKey.{PeerKey}
use Rattle.peer_units.specs.Plain.{Unit as ReplayUnit}
use Rattle.adj_rib.specs.Sessions.{session_of}
use Rattle.peer_tables.specs.Peers.{peer_eq, peers_of, units_of_peer}
use Rattle.peer_tables.specs.Seats.{seat_of}
use Rattle.peer_tables.specs.Tables.{Seat, TablesState, tables_of}
use Rattle.bgp_prefix.specs.declared.family.Family.{Ghosts as AddressGhosts}
use Rattle.bgp_prefix.specs.declared.map.PrefixMap.{Ghosts}
use Rattle.adj_rib.specs.declared.routes.RouteId.{RouteId}
use Rattle.unit_rings.specs.Plain.{PeerUnit}
use Rattle.lane_schedules.specs.declared.schedule.OneLane.{OneLane}
use Rattle.lane_deal.specs.Lanes.{number_of_peer, lane_of_unit, seats_of_lane}
use Rattle.peer_tables.specs.Numbers.{number_in}
use Rattle.lane_deal.specs.Numbers.{with_number, with_numbers, without_numbers}
use Rattle.lane_schedules.specs.OneLanes.{OneLaneState, one_lane_state, seats_of_lanes}
use Rattle.lane_schedules.specs.Schedules.{LanesState, IsShared}
use Rattle.lane_deal.specs.Seating.{seats_by, HoldsUnits}
use Rattle.lane_schedules.specs.ShownLanes.{LaneShows, LanesShow}
use Rattle.lane_schedules.specs.TakenTables.{units_taken, seats_taken, tables_taken}
use Rattle.lane_deal.proofs.Bridges.{units_numbered}
use Rattle.unit_rings.proofs.Lists.{all_filtered, all_mapped, all_more, all_of, all_pass, front_of, kept_pass, map_alike, none_pass}
use Rattle.lane_deal.proofs.Classes.{of_class, by_class, by_class-IsPermutation}
use Rattle.lane_schedules.proofs.ClassLists.{any_alike, filters_swapped, of_lists, in_lists}
use Rattle.lane_deal.proofs.HandingIn.{flat_each}
use Rattle.lane_deal.proofs.Numbering.{numbered_peers, numbers_of_positions, range_rises}
use Rattle.peer_tables.proofs.PeerPositions.{listed_gets, some_is}
use Rattle.peer_tables.proofs.ShareLaws.{same_peer}
use Rattle.lane_deal.proofs.Peers.{is_seen, new_peers, peers_of-append, listed_peer, seen_after, units_of_chosen, peers_of_chosen}
use Rattle.lane_deal.proofs.Rising.{rise_filtered, distinct}
use Rattle.lane_schedules.proofs.ScheduleLaws.{lane_units-front}
use Rattle.lane_deal.proofs.SeatLaws.{map_filtered, flat_map_alike, map_of_lists}
use Rattle.lane_deal.proofs.SeatLists.{seen_more}
use Rattle.lane_deal.proofs.SettledLaws.{all_peers}

-- ---- the peers of a front

unseen_before : (xs mid : List ReplayUnit) (q : PeerKey) → is_seen (xs ++ mid) q ≡ false → is_seen xs q ≡ false
unseen_before xs mid q e =
    elim (is_seen xs q) as (λ b. is_seen xs q ≡ b → b ≡ false) [ true ↦ λ seen. sym (seen_more xs mid q seen) ∙ e | false ↦ λ _. refl ] refl

new_unseen : (xs mid ys : List ReplayUnit) → AllByRecursion (λ q. is_seen xs q ≡ false) (new_peers (xs ++ mid) ys)
new_unseen xs mid [] = tt
new_unseen xs mid (y ∷ ys) =
    let later = subst (λ l. AllByRecursion (λ q. is_seen xs q ≡ false) (new_peers l ys)) (sym (append_assoc xs mid (y ∷ []))) (new_unseen xs (mid ++ y ∷ []) ys) in
    elim (is_seen (xs ++ mid) y.peer) as (λ b. is_seen (xs ++ mid) y.peer ≡ b → AllByRecursion (λ q. is_seen xs q ≡ false) ((if b then [] else y.peer ∷ []) ++ new_peers ((xs ++ mid) ++ y ∷ []) ys)) [
      | true ↦ λ _. later
      | false ↦ λ e. (unseen_before xs mid y.peer e, later)
    ] refl

-- of the peers of more units, those of the first ones are the first
front_peers : (xs ys : List ReplayUnit) → filter (is_seen xs) (peers_of (xs ++ ys)) ≡ peers_of xs
front_peers xs ys =
    let seen = all_pass (is_seen xs) (peers_of xs) (all_peers (λ q. is_seen xs q ≡ true) xs (seen_after [] xs)) in
    let new = none_pass (is_seen xs) (new_peers xs ys) (subst (λ l. AllByRecursion (λ q. is_seen xs q ≡ false) (new_peers l ys)) (append-nil xs) (new_unseen xs [] ys)) in
    ap (filter (is_seen xs)) (peers_of-append xs ys) ∙ filter-append (is_seen xs) (peers_of xs) (new_peers xs ys) ∙ ap (λ l. l ++ filter (is_seen xs) (new_peers xs ys)) seen
    ∙ ap (λ l. peers_of xs ++ l) new ∙ append-nil (peers_of xs)

-- what holds of the units' peers holds of each peer of these
seen_holds : (P : PeerKey → Type 0) (xs : List ReplayUnit) (q : PeerKey) → AllByRecursion (λ u. P u.peer) xs → is_seen xs q ≡ true → P q
seen_holds P [] q h seen = absurd (cc)
seen_holds P (x ∷ xs) q h seen =
    elim (peer_eq x.peer q) as (λ b. peer_eq x.peer q ≡ b → (b || is_seen xs q) ≡ true → P q) [
      | true ↦ λ same _. subst P (same_peer x.peer q same) h.0
      | false ↦ λ _ later. seen_holds P xs q h.1 later
    ] refl seen

-- ---- what lanes took

module _ (lane_of : ℕ → ℕ) (all : List ReplayUnit) (s : LanesState) (shared : IsShared lane_of all s) where
  abbrev class : ReplayUnit → ℕ
  class = lane_of_unit lane_of all

  abbrev lane_of_peer : PeerKey → ℕ
  lane_of_peer q = lane_of (number_of_peer all q)

  abbrev behind : ℕ → List ReplayUnit
  behind lane = s.ring lane ++ of_class class s.undealt lane

  both : (lane : ℕ) → s.taken lane ++ s.ring lane ≡ of_class class shared.dealt lane
  both lane =
      shared.lanes lane ∙ sym (lane_units-front lane_of shared.dealt s.undealt lane) ∙ ap (λ l. filter (λ u. eqb (lane_of_unit lane_of l u) lane) shared.dealt) shared.whole

  -- what a lane took is a front of its units
  front : (lane : ℕ) → s.taken lane ++ behind lane ≡ of_class class all lane
  front lane =
      sym (append_assoc (s.taken lane) (s.ring lane) (of_class class s.undealt lane)) ∙ ap (λ l. l ++ of_class class s.undealt lane) (both lane)
      ∙ sym (filter-append (λ u. eqb (class u) lane) shared.dealt s.undealt) ∙ ap (λ l. of_class class l lane) shared.whole

  own : (lane : ℕ) → AllByRecursion (λ u. class u ≡ lane) (s.taken lane)
  own lane =
      front_of (λ u. class u ≡ lane) (s.taken lane) (s.ring lane)
      (subst (AllByRecursion (λ u. class u ≡ lane)) (sym (both lane)) (kept_pass (λ u. class u ≡ lane) (λ u. eqb (class u) lane) shared.dealt (λ u e. eqb-true (class u) lane e)))

  own_peers : (lane : ℕ) → peers_of (s.taken lane) ≡ filter (is_seen (s.taken lane)) (of_class lane_of_peer (peers_of all) lane)
  own_peers lane =
      sym (front_peers (s.taken lane) (behind lane)) ∙ ap (λ l. filter (is_seen (s.taken lane)) (peers_of l)) (front lane)
      ∙ ap (filter (is_seen (s.taken lane))) (peers_of_chosen (λ q. eqb (lane_of_peer q) lane) all)

  taken_seen : (lane : ℕ) (q : PeerKey) → is_seen (s.taken lane) q ≡ true → is_seen all q ≡ true
  taken_seen lane q seen =
      let P : ReplayUnit → Type 0 = λ u. is_seen all u.peer ≡ true in
      let each = subst (AllByRecursion P) (sym (front lane)) (all_filtered P (λ u. eqb (class u) lane) all (seen_after [] all)) in
      seen_holds (λ r. is_seen all r ≡ true) (s.taken lane) q (front_of P (s.taken lane) (behind lane) each) seen

  module _ (count : ℕ) (past : (lane : ℕ) → count ≤ lane → s.taken lane ≡ []) where
    abbrev taken : List ReplayUnit
    taken = units_taken s count

    abbrev peers : List PeerKey
    peers = filter (is_seen taken) (peers_of all)

    abbrev own_seat : PeerKey → Seat
    own_seat q = record { number = number_of_peer all q; key = q; session = session_of (units_of_peer taken q) }

    own_units : (lane : ℕ) (q : PeerKey) → eqb (lane_of_peer q) lane ≡ true → units_of_peer (s.taken lane) q ≡ units_of_peer taken q
    own_units lane q e = ap (λ l. units_of_peer l q) (sym (of_lists class s.taken own count past lane)) ∙ units_of_chosen (λ r. eqb (lane_of_peer r) lane) taken q e

    peers_at : (lane : ℕ) → peers_of (s.taken lane) ≡ of_class lane_of_peer peers lane
    peers_at lane =
        own_peers lane
        ∙ filters_swapped (λ q. eqb (lane_of_peer q) lane) (is_seen (s.taken lane)) (is_seen taken) (peers_of all) (λ q e. any_alike (λ u. peer_eq u.peer q) (s.taken lane) taken (own_units lane q e))

    seats_at : (lane : ℕ) → seats_of_lane all (s.taken lane) ≡ map own_seat (of_class lane_of_peer peers lane)
    seats_at lane =
        let seat : PeerKey → Seat = λ q. record { number = number_of_peer all q; key = q; session = session_of (units_of_peer (s.taken lane) q) } in
        ap (map seat) (peers_at lane)
        ∙ map_filtered seat own_seat (λ q. eqb (lane_of_peer q) lane) peers (λ q e. ap (λ l. record { number = number_of_peer all q; key = q; session = session_of l }) (own_units lane q e))

    below : AllByRecursion (λ q. lane_of_peer q < count) peers
    below = kept_pass (λ q. lane_of_peer q < count) (is_seen taken) (peers_of all) (λ q e. seen_holds (λ r. lane_of_peer r < count) taken q (in_lists class s.taken own count) e)

    -- the lanes' sessions together are those of all peers of which units were taken
    all_seats : IsPermutation (flat_map (λ lane. seats_of_lane all (s.taken lane)) (range_with_len 0 count)) (seats_taken all taken)
    all_seats =
        let gathered : flat_map (λ lane. seats_of_lane all (s.taken lane)) (range_with_len 0 count) ≡ map own_seat (by_class lane_of_peer peers 0 count) =
        flat_map_alike (λ lane. seats_of_lane all (s.taken lane)) (λ lane. map own_seat (of_class lane_of_peer peers lane)) (range_with_len 0 count) seats_at
        ∙ map_of_lists own_seat (of_class lane_of_peer peers) (range_with_len 0 count) in
        subst (λ l. IsPermutation l (seats_taken all taken)) (sym gathered) (IsPermutation-sym _ _ (IsPermutation-map own_seat _ _ (by_class-IsPermutation lane_of_peer peers count below)))

    numbers_rise : IsStrictlyIncreasing (map (λ x. x.number) (seats_taken all taken))
    numbers_rise =
        let positions : map (λ q. number_of_peer all q) (peers_of all) ≡ range_with_len 0 (length (peers_of all)) = numbered_peers (λ n _. n) all ∙ numbers_of_positions 0 (peers_of all) in
        subst IsStrictlyIncreasing (sym (map-map (λ (x : Seat). x.number) own_seat peers)) (rise_filtered (λ q. number_of_peer all q) (is_seen taken) (peers_of all) (subst IsStrictlyIncreasing (sym positions) (range_rises 0 (length (peers_of all)))))

    module _ (none : s.undealt ≡ []) (idle : (lane : ℕ) → s.ring lane ≡ []) where
      all_taken : (lane : ℕ) → s.taken lane ≡ of_class class all lane
      all_taken lane =
          let nothing : behind lane ≡ [] = ap (λ l. l ++ of_class class s.undealt lane) (idle lane) ∙ ap (λ l. of_class class l lane) none in
          sym (append-nil (s.taken lane)) ∙ ap (λ l. s.taken lane ++ l) (sym nothing) ∙ front lane

      whole_units : (q : PeerKey) → units_of_peer taken q ≡ units_of_peer all q
      whole_units q =
          let lane = lane_of_peer q in
          let same = eq-eqb lane lane refl in
          sym (own_units lane q same) ∙ ap (λ l. units_of_peer l q) (all_taken lane) ∙ units_of_chosen (λ r. eqb (lane_of_peer r) lane) all q same

      whole_peers : peers ≡ peers_of all
      whole_peers =
          all_pass (is_seen taken) (peers_of all)
          (all_peers (λ q. is_seen taken q ≡ true) all (all_more all (λ u e. any_alike (λ v. peer_eq v.peer u.peer) taken all (whole_units u.peer) ∙ e) (seen_after [] all)))

      -- where all is taken, they are the tables of all units
      whole_tables : tables_taken all s count ≡ tables_of all []
      unfolding tables_of
      whole_tables =
          let seat : ℕ → PeerKey → Seat = λ n q. record { number = n; key = q; session = session_of (units_of_peer all q) } in
          ap (λ l. record { seats = l; refused = [] }) (
          ap (map own_seat) whole_peers
          ∙ map_alike own_seat (λ q. seat (number_of_peer all q) q) (peers_of all) (all_of (peers_of all) (λ q. ap (λ l. record { number = number_of_peer all q; key = q; session = session_of l }) (whole_units q)))
          ∙ numbered_peers seat all
          )

-- ---- lanes on one thread

module _ {M A : Type 0} {g : Ghosts M RouteId A} {a : AddressGhosts A} where
  lane_seats : (all waiting taken : List ReplayUnit) (x : OneLane M A g a) → LaneShows all x waiting taken → ((q : PeerKey) → is_seen taken q ≡ true → is_seen all q ≡ true) → map seat_of x.seats.seats.items ≡ seats_of_lane all taken
  lane_seats all waiting taken x p seen =
      let keys = peers_of all in
      let same : without_numbers (with_numbers keys taken) ≡ taken = units_numbered keys taken in
      let listed : (q : PeerKey) → is_seen (without_numbers (with_numbers keys taken)) q ≡ true → slice_get keys (number_in keys q) ≡ Some q =
      λ q e. listed_gets keys q (listed_peer all q (seen q (ap (λ l. is_seen l q) (sym same) ∙ e))) in
      sym (p.seats (number_of_peer all) (record { each = all_mapped (with_number keys) (λ i. number_in keys i.unit.peer ≡ i.number) taken (all_of taken (λ u. refl)); apart = λ a b seen_a seen_b e. some_is a b (sym (listed a seen_a) ∙ ap (slice_get keys) e ∙ listed b seen_b) }))
      ∙ ap (seats_by (number_of_peer all)) same

  module _ (lane_of : ℕ → ℕ) (all : List ReplayUnit) (s : LanesState) (shared : IsShared lane_of all s) (undealt : List PeerUnit) (ls : List (OneLane M A g a)) (p : LanesShow all undealt ls s) where
    abbrev count : ℕ
    count = length ls

    no_more : (lane : ℕ) → count ≤ lane → s.taken lane ≡ []
    no_more lane l = (p.past lane l).1

    seats_shown : seats_of_lanes ls ≡ flat_map (λ lane. seats_of_lane all (s.taken lane)) (range_with_len 0 count)
    seats_shown =
        flat_each (λ x. map seat_of x.seats.seats.items) (λ lane. seats_of_lane all (s.taken lane)) ls (range_with_len 0 count) (sym (length-range_with_len 0 count))
        (λ k d e l.
        let at : get_or (range_with_len 0 count) k e ≡ k = get_or-range_with_len 0 count k e l ∙ omega arith in
        lane_seats all (s.ring k) (s.taken k) (get_or ls k d) (p.each k d l) (taken_seen lane_of all s shared k) ∙ ap (λ n. seats_of_lane all (s.taken n)) (sym at))

    handed_in : IsPermutation (seats_of_lanes ls) (seats_taken all (units_taken s count))
    handed_in = subst (λ l. IsPermutation l (seats_taken all (units_taken s count))) (sym seats_shown) (all_seats lane_of all s shared count no_more)

    rise : IsStrictlyIncreasing (map (λ x. x.number) (seats_taken all (units_taken s count)))
    rise = numbers_rise lane_of all s shared count no_more

    -- no number stands twice
    pub taken_apart : IsDistinct nat_eq (map (λ x. x.number) (seats_of_lanes ls))
    taken_apart = IsDistinct-IsPermutation nat_eq nat_eq_equiv.symm _ _ (IsPermutation-map (λ (x : Seat). x.number) _ _ (IsPermutation-sym _ _ handed_in)) (distinct _ rise)

    module _ (tables : TablesState) (only : (seats : List Seat) → IsPermutation (seats_of_lanes ls) seats → IsStrictlyIncreasing (map (λ x. x.number) seats) → tables ≡ record { seats = seats; refused = [] }) where
      pub tables_are_taken : tables ≡ tables_taken all s count
      tables_are_taken = only (seats_taken all (units_taken s count)) handed_in rise

      pub tables_are_whole : s.undealt ≡ [] → ((lane : ℕ) → s.ring lane ≡ []) → tables ≡ tables_of all []
      tables_are_whole none idle = tables_are_taken ∙ whole_tables lane_of all s shared count no_more none idle

  -- ---- lanes that were given back

  module _ (ls ls' : List (OneLane M A g a)) (same : map one_lane_state ls' ≡ map one_lane_state ls) where
    count_same : length ls' ≡ length ls
    count_same = sym (length-map ls' one_lane_state) ∙ ap length same ∙ length-map ls one_lane_state

    lane_same : (lane : ℕ) (d : OneLane M A g a) → one_lane_state (get_or ls' lane d) ≡ one_lane_state (get_or ls lane d)
    lane_same lane d = sym (get_or-map one_lane_state ls' lane d) ∙ ap (λ l. get_or l lane (one_lane_state d)) same ∙ get_or-map one_lane_state ls lane d

    pub apart_still : IsDistinct nat_eq (map (λ x. x.number) (seats_of_lanes ls)) → IsDistinct nat_eq (map (λ x. x.number) (seats_of_lanes ls'))
    apart_still h =
        let is : seats_of_lanes ls' ≡ seats_of_lanes ls =
        sym (flat_map-map (λ (x : OneLaneState M A). map seat_of x.seats) one_lane_state ls') ∙ ap (flat_map (λ x. map seat_of x.seats)) same
        ∙ flat_map-map (λ (x : OneLaneState M A). map seat_of x.seats) one_lane_state ls in
        subst (λ l. IsDistinct nat_eq (map (λ (x : Seat). x.number) l)) (sym is) h

    pub shown_still : (all : List ReplayUnit) (undealt : List PeerUnit) (s : LanesState) → LanesShow all undealt ls s → LanesShow all undealt ls' s
    shown_still all undealt s p =
        record {
          rest = p.rest;
          each = λ lane d l.
              let old = p.each lane d (let n = count_same in omega arith) in
              let is = lane_same lane d in
              record {
                ring = ap (λ x. x.ring) is ∙ old.ring;
                seats = subst (λ x. HoldsUnits (map seat_of x) (with_numbers (peers_of all) (s.taken lane))) (sym (ap (λ x. x.seats) is)) old.seats;
                took = ap (λ x. x.took) is ∙ old.took;
              };
          past = λ lane l. p.past lane (let n = count_same in omega arith);
        }
