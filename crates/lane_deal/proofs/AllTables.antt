-- The tables of what a settled replayer was dealt.
use Rattle.std.proofs.Common.{◌≡◌, ℕ, ◌+◌, ◌<◌, ◌≤◌, Bool, false, List, [], ◌∷◌, ◌++◌, length, map, get_or, nat_eq, refl, sym, ap, ◌∙◌, subst, arith}
use Rattle.std.proofs.Math.ListN.{get_or-map}
use Rattle.std.proofs.Math.Logic.{∥∥₁_elim}
use Rattle.std.specs.List.{flat_map, IsDistinct}
use Rattle.std.specs.List.Sorted.{IsPermutation, IsStrictlyIncreasing}
use Rattle.std.proofs.lemmas.List.Sorted.{IsPermutation-map, IsPermutation-sym}
use Rattle.std.proofs.lemmas.Map.Keys.{IsDistinct-IsPermutation, IsDistinct-prop}
use Rattle.std.proofs.lemmas.Cmp.{nat_eq_equiv}
use Rattle.unit_rings.specs.UnitRings.{sent, known_free, received, known_items, ring_capacity, IsPair}
use Rattle.peer_units.specs.declared.unit.Damage.{Damage}
use Rattle.peer_units.specs.Plain.{Unit as ReplayUnit}
use Rattle.peer_tables.specs.Seats.{seat_of}
use Rattle.peer_tables.specs.Tables.{Seat, TablesState, tables_of}
use Rattle.bgp_prefix.specs.declared.family.Family.{Ghosts as AddressGhosts}
use Rattle.bgp_prefix.specs.declared.map.PrefixMap.{Ghosts}
use Rattle.adj_rib.specs.declared.routes.RouteId.{RouteId}
use Rattle.lane_deal.specs.Dealers.{Dealer}
use Rattle.lane_deal.specs.Plain.{LaneSender, Worker}
use Rattle.lane_deal.specs.declared.seats.Seats.{Seats}
use Rattle.lane_deal.specs.Collecting.{WorkerState, worker_state, seats_of_workers}
use Rattle.lane_deal.specs.LaneRings.{AreReady}
use Rattle.lane_deal.specs.Replayers.{LaneState, ReplayerState, ReplayerStandsFor, StandsForSome}
use Rattle.lane_deal.specs.Rounds.{IsSettled}
use Rattle.lane_deal.specs.Shown.{lane_state, lane_states, state_at}
use Rattle.lane_deal.proofs.Rising.{distinct}
use Rattle.lane_deal.proofs.SeatLaws.{numbers_rise}
use Rattle.lane_deal.proofs.SettledLaws.{settled_seats}
use Rattle.lane_deal.proofs.Bridges.{length-lane_states}

-- ---- numbers

pub settled_differ : (dealing : ℕ → ℕ → ℕ) (capacity : ℕ) (units : List ReplayUnit) (refused : List Damage) (r : ReplayerState) → ((number : ℕ) → dealing number (length r.lanes) < length r.lanes)
    → ReplayerStandsFor dealing capacity units refused r → IsSettled r → IsDistinct nat_eq (map (λ s. s.number) (flat_map (λ lane. lane.seats) r.lanes))
settled_differ dealing capacity units refused r below stands settled =
    IsDistinct-IsPermutation nat_eq nat_eq_equiv.symm _ _ (IsPermutation-map (λ (s : Seat). s.number) _ _ (IsPermutation-sym _ _ (settled_seats dealing capacity units refused r below stands settled))) (distinct _ (numbers_rise units refused))

pub tables_same : (units : List ReplayUnit) (refused : List Damage) → record { seats = (tables_of units refused).seats; refused = refused } ≡ tables_of units refused
unfolding tables_of
tables_same units refused = refl

-- ---- workers

shown_by : {M A : Type 0} → LaneSender → WorkerState M A → LaneState
shown_by f w = record {
  ring = record { sent = sent f.producer; free = known_free f.producer; received = received w.consumer; known = known_items w.consumer };
  seats = map seat_of w.seats;
  took = w.taken;
}

module _ {M A : Type 0} {g : Ghosts M RouteId A} {a : AddressGhosts A} where
  pub seats_shown : (fs : List LaneSender) (ws : List (Worker (Seats M A g a))) → length ws ≡ length fs → flat_map (λ lane. lane.seats) (lane_states fs ws) ≡ seats_of_workers ws
  seats_shown [] [] e = refl
  seats_shown [] (w ∷ ws) e = absurd (omega arith)
  seats_shown (f ∷ fs) [] e = refl
  seats_shown (f ∷ fs) (w ∷ ws) e = ap (λ l. map seat_of w.sessions.seats.items ++ l) (seats_shown fs ws (omega arith))

  -- workers that were given back show the same
  pub lanes_back : (fs : List LaneSender) (ws ws' : List (Worker (Seats M A g a))) → map worker_state ws' ≡ map worker_state ws → lane_states fs ws' ≡ lane_states fs ws
  unfolding shown_by
  lanes_back [] ws ws' e = refl
  lanes_back (f ∷ fs) [] [] e = refl
  lanes_back (f ∷ fs) [] (w' ∷ ws') e = absurd (cc)
  lanes_back (f ∷ fs) (w ∷ ws) [] e = absurd (cc)
  lanes_back (f ∷ fs) (w ∷ ws) (w' ∷ ws') e =
      let first : worker_state w' ≡ worker_state w = cc in
      let others : map worker_state ws' ≡ map worker_state ws = cc in
      ap (λ s. s ∷ lane_states fs ws') (ap (shown_by f) first) ∙ ap (λ l. lane_state f w ∷ l) (lanes_back fs ws ws' others)

  count_back : (ws ws' : List (Worker (Seats M A g a))) → map worker_state ws' ≡ map worker_state ws → length ws' ≡ length ws
  count_back [] [] e = refl
  count_back [] (w' ∷ ws') e = absurd (cc)
  count_back (w ∷ ws) [] e = absurd (cc)
  count_back (w ∷ ws) (w' ∷ ws') e = (let n = count_back ws ws' (cc) in omega arith)

  pub ready_back : (capacity : ℕ) (fs : List LaneSender) (ws ws' : List (Worker (Seats M A g a))) → map worker_state ws' ≡ map worker_state ws → AreReady capacity fs ws → AreReady capacity fs ws'
  ready_back capacity fs ws ws' e h = (
    count_back ws ws' e ∙ h.0,
    λ lane d x l.
        let same : worker_state (get_or ws' lane x) ≡ worker_state (get_or ws lane x) =
        sym (get_or-map worker_state ws' lane x) ∙ ap (λ ss. get_or ss lane (worker_state x)) e ∙ get_or-map worker_state ws lane x in
        subst (λ c. IsPair (get_or fs lane d).producer c × (ring_capacity (get_or fs lane d).producer ≡ capacity) × (received c ≡ []) × (known_items c ≡ sent (get_or fs lane d).producer)
        × (length (sent (get_or fs lane d).producer) ≤ capacity) × (known_free (get_or fs lane d).producer + length (sent (get_or fs lane d).producer) ≡ capacity))
        (sym (ap (λ s. s.consumer) same)) (h.1 lane d x l),
  )

  -- a replayer that was given back shows the same
  pub state_back : {D : Type 0} (d : Dealer D) (fs : List LaneSender) (ws ws' : List (Worker (Seats M A g a))) (refused : List Damage) (spent : Bool) → refused ≡ d.refused.items → map worker_state ws' ≡ map worker_state ws
      → record { lanes = lane_states fs ws'; peers = d.peers; blocked_unit = d.blocked_unit; refused = refused; dealt = d.dealt; spent = spent } ≡ state_at d fs ws spent
  state_back d fs ws ws' refused spent r e =
      ap (λ l. record { lanes = l; peers = d.peers; blocked_unit = d.blocked_unit; refused = refused; dealt = d.dealt; spent = spent }) (lanes_back fs ws ws' e)
      ∙ ap (λ l. record { lanes = lane_states fs ws; peers = d.peers; blocked_unit = d.blocked_unit; refused = l; dealt = d.dealt; spent = spent }) r

  module _ {D : Type 0} (dealing : ℕ → ℕ → ℕ) (capacity : ℕ) (d : Dealer D) (fs : List LaneSender) (ws : List (Worker (Seats M A g a))) (lanes : length ws ≡ length fs) (below : (n : ℕ) → dealing n (length fs) < length fs) where
    below_shown : (spent : Bool) (n : ℕ) → dealing n (length (state_at d fs ws spent).lanes) < length (state_at d fs ws spent).lanes
    below_shown spent = subst (λ m. (n : ℕ) → dealing n m < m) (sym (length-lane_states fs ws lanes)) below

    -- no number stands twice
    pub numbers_differ : (spent : Bool) → ∥ StandsForSome dealing capacity (state_at d fs ws false) ∥₁ → IsSettled (state_at d fs ws spent) → IsDistinct nat_eq (map (λ s. s.number) (seats_of_workers ws))
    numbers_differ spent some settled =
        ∥∥₁_elim some (IsDistinct-prop nat_eq _)
        (λ h. subst (λ l. IsDistinct nat_eq (map (λ (s : Seat). s.number) l)) (seats_shown fs ws lanes) (settled_differ dealing capacity h.units h.refused (state_at d fs ws false) (below_shown false) h.stands settled))

    -- the tables of what was dealt
    pub tables_dealt : (spent : Bool) (units : List ReplayUnit) (refused : List Damage) (tables : TablesState) → IsSettled (state_at d fs ws spent) → ReplayerStandsFor dealing capacity units refused (state_at d fs ws spent)
        → ((seats : List Seat) → IsPermutation (seats_of_workers ws) seats → IsStrictlyIncreasing (map (λ s. s.number) seats) → tables ≡ record { seats = seats; refused = d.refused.items }) → tables ≡ tables_of units refused
    tables_dealt spent units refused tables settled stands only =
        let seats = (tables_of units refused).seats in
        let all = subst (λ l. IsPermutation l seats) (seats_shown fs ws lanes) (settled_seats dealing capacity units refused (state_at d fs ws spent) (below_shown spent) stands settled) in
        only seats all (numbers_rise units refused) ∙ ap (λ r. record { seats = seats; refused = r }) stands.refused_kept ∙ tables_same units refused
