-- Lanes of numbered units, and lanes as definitions see them.
use Rattle.std.proofs.Common.{◌≡◌, ℕ, zero, suc, ◌<◌, ◌≤◌, ◌||◌, Bool, true, false, cond, eqb, List, [], ◌∷◌, ◌++◌, length, get_or, Some, refl, sym, ap, ◌∙◌, subst, arith}
use Rattle.std.specs.Prelude.{slice_get}
use Rattle.std.specs.List.{filter, list_any, AllByRecursion}
use Rattle.std.proofs.lemmas.List.{length-map, map-append}
use Rattle.std.proofs.Math.Bool.{or-true}
use Rattle.unit_rings.specs.UnitRings.{sent}
use Rattle.peer_units.specs.declared.unit.PeerKey.{PeerKey}
use Rattle.peer_units.specs.Plain.{Unit as ReplayUnit}
use Rattle.peer_tables.specs.Peers.{peer_eq, peers_of}
use Rattle.bgp_prefix.specs.declared.family.Family.{Ghosts as AddressGhosts}
use Rattle.bgp_prefix.specs.declared.map.PrefixMap.{Ghosts}
use Rattle.adj_rib.specs.declared.routes.RouteId.{RouteId}
use Rattle.unit_rings.specs.Plain.{PeerUnit}
use Rattle.lane_deal.specs.Plain.{LaneSender, Worker}
use Rattle.lane_deal.specs.declared.seats.Seats.{Seats}
use Rattle.lane_deal.specs.LaneSenders.{in_lane}
use Rattle.lane_deal.specs.LaneRings.{IsReady, LaneStands}
use Rattle.lane_deal.specs.Lanes.{number_of_peer, lane_units}
use Rattle.peer_tables.specs.Numbers.{number_in}
use Rattle.lane_deal.specs.Numbers.{with_number, with_numbers, without_numbers}
use Rattle.lane_deal.specs.Replayers.{LaneState, LaneStandsFor}
use Rattle.lane_deal.specs.Seating.{seat_by, seats_by}
use Rattle.lane_deal.specs.Shown.{lane_state, lane_states, SeatsHold}
use Rattle.unit_rings.proofs.Lists.{all_both, all_filtered, all_mapped, all_more, all_of, all_unmapped, back_of, filter_mapped, front_of, map_alike}
use Rattle.lane_deal.proofs.Peers.{is_seen, listed_peer, numbers_stay}
use Rattle.peer_tables.proofs.PeerPositions.{listed_gets, some_is}
use Rattle.lane_deal.proofs.SeatLists.{seen_more}
use Rattle.lane_deal.proofs.SettledLaws.{all_peers}

-- ---- lists

any_filtered : {X : Type 0} (p r : X → Bool) (xs : List X) → list_any p (filter r xs) ≡ true → list_any p xs ≡ true
any_filtered p r [] e = e
any_filtered p r (x ∷ xs) e =
    elim (r x) as (λ b. list_any p (cond b (x ∷ filter r xs) (filter r xs)) ≡ true → (p x || list_any p xs) ≡ true) [
      | true ↦ λ h. elim (p x) as (λ b. (b || list_any p (filter r xs)) ≡ true → (b || list_any p xs) ≡ true) [ true ↦ λ _. refl | false ↦ λ k. any_filtered p r xs k ] h
      | false ↦ λ h. ap (λ b. p x || b) (any_filtered p r xs h) ∙ or-true (p x)
    ] e

-- ---- numbers

pub units_numbered : (keys : List PeerKey) (units : List ReplayUnit) → without_numbers (with_numbers keys units) ≡ units
units_numbered keys [] = refl
units_numbered keys (u ∷ units) = ap (λ l. u ∷ l) (units_numbered keys units)

pub numbered_same : (keys others : List PeerKey) (units : List ReplayUnit) → AllByRecursion (λ u. number_in keys u.peer ≡ number_in others u.peer) units → with_numbers keys units ≡ with_numbers others units
numbered_same keys others units h =
    map_alike (with_number keys) (with_number others) units (all_more units (λ u e. ap (λ n. record { number = n; unit = u }) e) h)

-- items that have their peers' numbers
renumbered : (keys : List PeerKey) (items : List PeerUnit) → AllByRecursion (λ x. with_number keys x.unit ≡ x) items → with_numbers keys (without_numbers items) ≡ items
renumbered keys [] h = refl
renumbered keys (x ∷ items) h = ap (λ i. i ∷ with_numbers keys (without_numbers items)) h.0 ∙ ap (λ l. x ∷ l) (renumbered keys items h.1)

-- the units that were dealt, with their numbers
abbrev pub dealt_items : List ReplayUnit → List PeerUnit
dealt_items units = with_numbers (peers_of units) units

pub lane_items : (lane_of : ℕ → ℕ) (units : List ReplayUnit) (lane : ℕ) → in_lane lane_of lane (dealt_items units) ≡ with_numbers (peers_of units) (lane_units lane_of units lane)
lane_items lane_of units lane = filter_mapped (λ item. eqb (lane_of item.number) lane) (with_number (peers_of units)) units

-- more units, with the numbers that they have among still more
pub dealt_items-append : (units more : List ReplayUnit) (rest : List ReplayUnit) (keys : List PeerKey) → keys ≡ peers_of ((units ++ more) ++ rest) → dealt_items units ++ with_numbers keys more ≡ dealt_items (units ++ more)
dealt_items-append units more rest keys e =
    let both = peers_of (units ++ more) in
    let first : with_numbers both units ≡ with_numbers (peers_of units) units = numbered_same both (peers_of units) units (numbers_stay units more) in
    let second : with_numbers keys more ≡ with_numbers both more =
    ap (λ k. with_numbers k more) e ∙ numbered_same (peers_of ((units ++ more) ++ rest)) both more (back_of (λ u. number_of_peer ((units ++ more) ++ rest) u.peer ≡ number_of_peer (units ++ more) u.peer) units more (numbers_stay (units ++ more) rest)) in
    ap (λ l. l ++ with_numbers keys more) (sym first) ∙ ap (λ l. with_numbers both units ++ l) second ∙ sym (map-append (with_number both) units more)

-- ---- one lane

module _ {M A : Type 0} {g : Ghosts M RouteId A} {a : AddressGhosts A} (lane_of : ℕ → ℕ) (units more : List ReplayUnit) (lane capacity : ℕ) (f : LaneSender) (w : Worker (Seats M A g a)) where
  abbrev all : List ReplayUnit
  all = units ++ more

  abbrev own : List ReplayUnit
  own = lane_units lane_of units lane

  own_stay : AllByRecursion (λ u. number_of_peer all u.peer ≡ number_of_peer units u.peer) own
  own_stay = all_filtered _ (λ u. eqb (lane_of (number_of_peer units u.peer)) lane) units (numbers_stay units more)

  pub stands_in : LaneStandsFor capacity all own (lane_state f w) → LaneStands SeatsHold f w (in_lane lane_of lane (dealt_items units))
  stands_in h =
      let keys = peers_of units in
      let stay = subst (AllByRecursion (λ u. number_of_peer all u.peer ≡ number_of_peer units u.peer)) (sym h.whole) own_stay in
      let taken_stay = front_of (λ u. number_of_peer all u.peer ≡ number_of_peer units u.peer) h.taken h.waiting stay in
      let waiting_stay = back_of (λ u. number_of_peer all u.peer ≡ number_of_peer units u.peer) h.taken h.waiting stay in
      record {
        taken = with_numbers keys h.taken;
        sessions = λ number a.
            let each : AllByRecursion (λ u. number u.peer ≡ number_in keys u.peer) h.taken = all_unmapped (with_number keys) (λ item. number item.unit.peer ≡ item.number) h.taken a.each in
            let same : AllByRecursion (λ u. number u.peer ≡ number_of_peer all u.peer) h.taken =
            all_both (λ u. number u.peer ≡ number_in keys u.peer) (λ u. number_of_peer all u.peer ≡ number_of_peer units u.peer) (λ u. number u.peer ≡ number_of_peer all u.peer) h.taken (λ u x y. x ∙ sym y) each taken_stay in
            let peers = all_peers (λ q. number q ≡ number_of_peer all q) h.taken same in
            ap (seats_by number) (units_numbered keys h.taken)
            ∙ map_alike (seat_by number h.taken) (seat_by (number_of_peer all) h.taken) (peers_of h.taken) (all_more (peers_of h.taken) (λ q e. ap (λ n. record (seat_by number h.taken q) { number = n }) e) peers)
            ∙ h.seats;
        whole =
            ap (λ l. with_numbers keys h.taken ++ l) (h.ring.sent ∙ numbered_same (peers_of all) keys h.waiting waiting_stay)
            ∙ sym (map-append (with_number keys) h.taken h.waiting) ∙ ap (with_numbers keys) h.whole ∙ sym (lane_items lane_of units lane);
        counted = (let n = h.counted in let k = length-map h.taken (with_number keys) in omega arith);
      }

  pub stands_out : IsReady capacity f w → LaneStands SeatsHold f w (in_lane lane_of lane (dealt_items units)) → LaneStandsFor capacity all own (lane_state f w)
  stands_out ready h =
      let keys = peers_of units in
      let waits = sent f.producer in
      let whole : h.taken ++ waits ≡ with_numbers keys own = h.whole ∙ lane_items lane_of units lane in
      let proper = subst (AllByRecursion (λ x. with_number keys x.unit ≡ x)) (sym whole) (all_mapped (with_number keys) (λ x. with_number keys x.unit ≡ x) own (all_of own (λ u. refl))) in
      let taken_is = renumbered keys h.taken (front_of (λ x. with_number keys x.unit ≡ x) h.taken waits proper) in
      let sent_is = renumbered keys waits (back_of (λ x. with_number keys x.unit ≡ x) h.taken waits proper) in
      let units_whole : without_numbers h.taken ++ without_numbers waits ≡ own = sym (map-append (λ x. x.unit) h.taken waits) ∙ ap without_numbers whole ∙ units_numbered keys own in
      let stay = subst (AllByRecursion (λ u. number_of_peer all u.peer ≡ number_of_peer units u.peer)) (sym units_whole) own_stay in
      let taken_stay = front_of (λ u. number_of_peer all u.peer ≡ number_of_peer units u.peer) (without_numbers h.taken) (without_numbers waits) stay in
      let waiting_stay = back_of (λ u. number_of_peer all u.peer ≡ number_of_peer units u.peer) (without_numbers h.taken) (without_numbers waits) stay in
      let same : waits ≡ with_numbers (peers_of all) (without_numbers waits) = sym sent_is ∙ sym (numbered_same (peers_of all) keys (without_numbers waits) waiting_stay) in
      let seen : (q : PeerKey) → is_seen (without_numbers h.taken) q ≡ true → is_seen all q ≡ true =
      λ q e. seen_more units more q (any_filtered (λ u. peer_eq u.peer q) (λ u. eqb (lane_of (number_of_peer units u.peer)) lane) units (ap (λ l. is_seen l q) (sym units_whole) ∙ seen_more (without_numbers h.taken) (without_numbers waits) q e)) in
      record {
        taken = without_numbers h.taken;
        waiting = without_numbers waits;
        whole = units_whole;
        ring =
            record {
              sent = same;
              received = ready.2;
              known = ready.3 ∙ same;
              room = subst (λ l. length l ≤ capacity) same ready.4;
              free = (let n = ap length same in let r = ready.5 in omega arith);
            };
        seats = h.sessions (number_of_peer all) (record {
          each =
              subst (AllByRecursion (λ item. number_of_peer all item.unit.peer ≡ item.number)) taken_is
              (all_mapped (with_number keys) (λ item. number_of_peer all item.unit.peer ≡ item.number) (without_numbers h.taken) taken_stay);
          apart = λ p q seen_p seen_q e.
              some_is p q
              (sym (listed_gets (peers_of all) p (listed_peer all p (seen p seen_p))) ∙ ap (slice_get (peers_of all)) e ∙ listed_gets (peers_of all) q (listed_peer all q (seen q seen_q)));
        });
        counted = (let n = h.counted in let k = length-map h.taken (λ x. x.unit) in omega arith);
      }

-- ---- all lanes

module _ {M A : Type 0} {g : Ghosts M RouteId A} {a : AddressGhosts A} where
  pub length-lane_states : (fs : List LaneSender) (ws : List (Worker (Seats M A g a))) → length ws ≡ length fs → length (lane_states fs ws) ≡ length fs
  length-lane_states [] ws e = refl
  length-lane_states (f ∷ fs) [] e = absurd (omega arith)
  length-lane_states (f ∷ fs) (w ∷ ws) e = (let n = length-lane_states fs ws (omega arith) in omega arith)

  pub lane_states-at : (fs : List LaneSender) (ws : List (Worker (Seats M A g a))) (lane : ℕ) (d : LaneSender) (e : Worker (Seats M A g a)) → length ws ≡ length fs → lane < length fs → slice_get (lane_states fs ws) lane ≡ Some (lane_state (get_or fs lane d) (get_or ws lane e))
  lane_states-at [] ws lane d e same l = absurd (omega arith)
  lane_states-at (f ∷ fs) [] lane d e same l = absurd (omega arith)
  lane_states-at (f ∷ fs) (w ∷ ws) zero d e same l = refl
  lane_states-at (f ∷ fs) (w ∷ ws) (suc lane) d e same l = lane_states-at fs ws lane d e (omega arith) (omega arith)

  -- a lane that is shown has a sender and a worker
  pub record IsLaneAt (fs : List LaneSender) (ws : List (Worker (Seats M A g a))) (lane : ℕ) (state : LaneState) : Type 0 where
    pub sender : LaneSender
    pub worker : Worker (Seats M A g a)
    pub within : lane < length fs
    pub state_is : state ≡ lane_state (get_or fs lane sender) (get_or ws lane worker)

  pub lane_at : (fs : List LaneSender) (ws : List (Worker (Seats M A g a))) (lane : ℕ) (state : LaneState) → slice_get (lane_states fs ws) lane ≡ Some state → IsLaneAt fs ws lane state
  lane_at [] ws lane state e = absurd (cc)
  lane_at (f ∷ fs) [] lane state e = absurd (cc)
  lane_at (f ∷ fs) (w ∷ ws) zero state e = record { sender = f; worker = w; within = omega arith; state_is = sym (some_is (lane_state f w) state e) }
  lane_at (f ∷ fs) (w ∷ ws) (suc lane) state e =
      let h = lane_at fs ws lane state e in record { sender = h.sender; worker = h.worker; within = (let l = h.within in omega arith); state_is = h.state_is }
