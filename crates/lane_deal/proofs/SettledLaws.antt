-- The sessions of a settled replayer are those of the tables.
use Rattle.std.proofs.Common.{◌≡◌, ℕ, suc, ◌+◌, ◌<◌, eqb, true, false, if◌then◌else◌, List, [], ◌∷◌, ◌++◌, Some, refl, sym, ap, ◌∙◌, subst, arith, length}
use Rattle.std.proofs.lemmas.List.{append-nil}
use Rattle.std.specs.Prelude.{slice_get, option_to_list}
use Rattle.std.specs.List.{flat_map, range_with_len, AllByRecursion}
use Rattle.std.specs.List.Sorted.{IsPermutation}
use Rattle.std.proofs.lemmas.List.Sorted.{IsPermutation-refl, IsPermutation-trans, IsPermutation-sym, IsPermutation-append_left, IsPermutation-append_right}
use Rattle.peer_units.specs.declared.unit.Damage.{Damage}
use Rattle.peer_units.specs.declared.unit.PeerKey.{PeerKey}
use Rattle.peer_units.specs.Plain.{Unit as ReplayUnit}
use Rattle.adj_rib.specs.Sessions.{session_of}
use Rattle.peer_tables.specs.Peers.{peers_of, units_of_peer}
use Rattle.peer_tables.specs.Tables.{Seat, tables_of}
use Rattle.lane_deal.specs.Lanes.{number_of_peer, lane_units, seats_of_lane}
use Rattle.lane_deal.specs.Numbers.{with_numbers}
use Rattle.lane_deal.specs.Replayers.{LaneState, ReplayerState, LaneStandsFor, ReplayerStandsFor}
use Rattle.lane_deal.specs.Rounds.{IsSettled}
use Rattle.unit_rings.proofs.Lists.{all_filtered, all_more, map_alike}
use Rattle.lane_deal.proofs.Peers.{is_seen, new_peers, numbers_stay, peers_of_chosen}
use Rattle.lane_deal.proofs.SeatLaws.{seats_of_lanes}

-- ---- numbers of peers among more units

all_new : (P : PeerKey → Type 0) (before xs : List ReplayUnit) → AllByRecursion (λ u. P u.peer) xs → AllByRecursion P (new_peers before xs)
all_new P before [] h = tt
all_new P before (x ∷ xs) h =
    let later = all_new P (before ++ x ∷ []) xs h.1 in
    elim (is_seen before x.peer) as (λ b. AllByRecursion P ((if b then [] else x.peer ∷ []) ++ new_peers (before ++ x ∷ []) xs)) [ true ↦ later | false ↦ (h.0, later) ]

pub all_peers : (P : PeerKey → Type 0) (units : List ReplayUnit) → AllByRecursion (λ u. P u.peer) units → AllByRecursion P (peers_of units)
unfolding peers_of
all_peers P units h = all_new P [] units h

-- a lane's seats, numbered among more units
seats_stay : (lane_of : ℕ → ℕ) (units more : List ReplayUnit) (lane : ℕ) → seats_of_lane (units ++ more) (lane_units lane_of units lane) ≡ seats_of_lane units (lane_units lane_of units lane)
seats_stay lane_of units more lane =
    let own = lane_units lane_of units lane in
    let same : AllByRecursion (λ q. number_of_peer (units ++ more) q ≡ number_of_peer units q) (peers_of own) =
    subst (AllByRecursion (λ q. number_of_peer (units ++ more) q ≡ number_of_peer units q)) (sym (peers_of_chosen (λ q. eqb (lane_of (number_of_peer units q)) lane) units))
    (all_filtered _ (λ q. eqb (lane_of (number_of_peer units q)) lane) (peers_of units) (all_peers _ units (numbers_stay units more))) in
    map_alike (λ q. record { number = number_of_peer (units ++ more) q; key = q; session = session_of (units_of_peer own q) }) (λ q. record { number = number_of_peer units q; key = q; session = session_of (units_of_peer own q) }) (peers_of own)
    (all_more (peers_of own) (λ q e. ap (λ n. record { number = n; key = q; session = session_of (units_of_peer own q) }) e) same)

-- ---- all lanes

seats_together : (seats : ℕ → List Seat) (lanes : List LaneState) (first : ℕ) → ((lane : ℕ) (state : LaneState) → slice_get lanes lane ≡ Some state → IsPermutation (seats (first + lane)) state.seats)
    → IsPermutation (flat_map seats (range_with_len first (length lanes))) (flat_map (λ state. state.seats) lanes)
seats_together seats [] first h = IsPermutation-refl []
seats_together seats (x ∷ lanes) first h =
    let here = subst (λ n. IsPermutation (seats n) x.seats) {x = first + 0} {y = first} (omega arith) (h 0 x refl) in
    let others = seats_together seats lanes (first + 1) (λ lane state e. subst (λ n. IsPermutation (seats n) state.seats) {x = first + suc lane} {y = (first + 1) + lane} (omega arith) (h (suc lane) state e)) in
    let rest = flat_map seats (range_with_len (first + 1) (length lanes)) in
    let both = IsPermutation-trans (seats first ++ rest) (x.seats ++ rest) (x.seats ++ flat_map (λ state. state.seats) lanes)
    (IsPermutation-append_left rest (seats first) x.seats here) (IsPermutation-append_right x.seats rest (flat_map (λ state. state.seats) lanes) others) in
    subst (λ n. IsPermutation (flat_map seats (range_with_len first n)) (x.seats ++ flat_map (λ state. state.seats) lanes)) {x = suc (length lanes)} {y = length (x ∷ lanes)} (omega arith) both

none_numbered : (keys : List PeerKey) (units : List ReplayUnit) → with_numbers keys units ≡ [] → units ≡ []
none_numbered keys [] e = refl
none_numbered keys (u ∷ units) e = absurd (cc)

-- where nothing waits, a lane's sessions stand for all that it was dealt
settled_lane : (capacity : ℕ) (all own : List ReplayUnit) (state : LaneState) → LaneStandsFor capacity all own state → state.ring.sent ≡ [] → IsPermutation (seats_of_lane all own) state.seats
settled_lane capacity all own state stands empty =
    let none : stands.waiting ≡ [] = none_numbered (peers_of all) stands.waiting (sym stands.ring.sent ∙ empty) in
    let whole : stands.taken ≡ own = sym (append-nil stands.taken) ∙ ap (λ l. stands.taken ++ l) (sym none) ∙ stands.whole in
    subst (IsPermutation (seats_of_lane all own)) (ap (seats_of_lane all) (sym whole) ∙ stands.seats) (IsPermutation-refl (seats_of_lane all own))

pub settled_seats : (dealing : ℕ → ℕ → ℕ) (capacity : ℕ) (units : List ReplayUnit) (refused : List Damage) (r : ReplayerState) → ((number : ℕ) → dealing number (length r.lanes) < length r.lanes)
    → ReplayerStandsFor dealing capacity units refused r → IsSettled r → IsPermutation (flat_map (λ lane. lane.seats) r.lanes) (tables_of units refused).seats
settled_seats dealing capacity units refused r below stands settled =
    let lane_of : ℕ → ℕ = λ number. dealing number (length r.lanes) in
    let more = option_to_list r.blocked_unit in
    let seats : ℕ → List Seat = λ lane. seats_of_lane units (lane_units lane_of units lane) in
    let each = seats_together seats r.lanes 0 (λ lane state e.
    subst (λ l. IsPermutation l state.seats) (seats_stay lane_of units more lane ∙ ap seats {x = lane} {y = 0 + lane} (omega arith))
    (settled_lane capacity (units ++ more) (lane_units lane_of units lane) state (stands.lanes lane state e) (settled lane state e))) in
    IsPermutation-trans _ _ _ (IsPermutation-sym _ _ each) (seats_of_lanes lane_of units (length r.lanes) refused below)
