-- A round of a replayer, from that of its lanes.
use Rattle.std.proofs.Common.{◌≡◌, ◌≢◌, ℕ, ◌+◌, ◌<◌, ◌≤◌, Bool, false, eqb, List, [], ◌++◌, length, get_or, Option, Some, None, Result, Ok, Err, refl, sym, ap, ◌∙◌, subst, arith, length-append}
use Rattle.std.specs.Prelude.{slice_get, option_to_list, IfOk}
use Rattle.std.specs.List.{filter, filter_map, count_by}
use Rattle.std.proofs.lemmas.List.{length-map, nil_from_length, get_or_default}
use Rattle.std.proofs.lemmas.List.Sums.{length-filter}
use Rattle.unit_rings.specs.UnitRings.{known_free, ring_capacity}
use Rattle.mrt_frame.specs.declared.error.ReplayError.{ReplayError}
use Rattle.mrt_frame.specs.declared.error.ReplayError.TheVariants.{Read, Write, Memory, Records, Spent as SpentBefore}
use Rattle.peer_units.specs.declared.unit.Damage.{Damage}
use Rattle.peer_units.specs.Plain.{Found, Unit as ReplayUnit}
use Rattle.mrt_body.specs.Units.{unit_of, damage_of}
use Rattle.mrt_body.specs.ToCome.{UnitsState}
use Rattle.peer_tables.specs.Peers.{peers_of}
use Rattle.bgp_prefix.specs.declared.family.Family.{Ghosts as AddressGhosts}
use Rattle.bgp_prefix.specs.declared.map.PrefixMap.{Ghosts}
use Rattle.adj_rib.specs.declared.routes.RouteId.{RouteId}
use Rattle.lane_deal.specs.Dealers.{Dealer}
use Rattle.lane_deal.specs.Plain.{LaneSender, Worker}
use Rattle.lane_deal.specs.declared.plan.Plan.{Plan}
use Rattle.lane_deal.specs.declared.seats.Seats.{Seats}
use Rattle.mrt_frame.specs.declared.read_state.ReadState.{ReadState}
use Rattle.mrt_frame.specs.declared.read_state.ReadState.TheVariants.{Spent}
use Rattle.lane_deal.specs.declared.step.Step.{Step}
use Rattle.lane_deal.specs.declared.step.Step.TheVariants.{Blocked, FullBatch, End}
use Rattle.lane_deal.specs.Asking.{GivesAll}
use Rattle.lane_deal.specs.Results.{IfAnswered, StateAfter, is_spent, state_of_step}
use Rattle.mrt_frame.specs.Frames.{state_of_error}
use Rattle.lane_deal.specs.DealerSteps.{StopsDealing}
use Rattle.lane_deal.specs.LaneSenders.{in_lane, room_of}
use Rattle.lane_deal.specs.ToDeal.{to_deal}
use Rattle.lane_deal.specs.LaneRings.{AreReady, LanesStand, AreFresh, Settled}
use Rattle.lane_deal.specs.LaneRounds.{PlaysLanes}
use Rattle.lane_deal.specs.Lanes.{lane_units}
use Rattle.peer_tables.specs.Numbers.{number_in}
use Rattle.lane_deal.specs.Numbers.{with_number, with_numbers}
use Rattle.lane_deal.specs.Playing.{PlaysOn, IsLeft}
use Rattle.lane_deal.specs.Replayers.{LaneState, ReplayerState, LaneStandsFor, ReplayerStandsFor, StandsForSome}
use Rattle.std.proofs.Math.Logic.{∥∥₁_map}
use Rattle.lane_deal.specs.Rounds.{PlaysRound, Stops, Settles, share_of, lane_in}
use Rattle.lane_deal.specs.Shown.{lane_state, lane_states, state_at, SeatsHold}
use Rattle.unit_rings.proofs.Lists.{filter_mapped, some_item}
use Rattle.lane_deal.proofs.Bridges.{dealt_items, dealt_items-append, stands_in, stands_out, length-lane_states, lane_states-at, lane_at}
use Rattle.lane_deal.proofs.Deals.{room_at}
use Rattle.lane_deal.proofs.DealerLaws.{in_order}

-- ---- answers

unspent_step : (step : Step) → is_spent (state_of_step step) ≡ false
unspent_step Blocked = refl
unspent_step FullBatch = refl
unspent_step End = refl

-- what follows of a round that answered
pub answers_follow : {P Q : Type 0} (r : Result Step ReplayError) (s : ReadState) → StateAfter r s → (is_spent s ≡ false → P → Q) → IfAnswered r P → IfAnswered r Q
answers_follow (Ok x) s h f p = f (ap is_spent h ∙ unspent_step x) p
answers_follow (Err e) s h f p = λ file same. f (ap is_spent (h ∙ ap state_of_error same)) (p file same)

-- what holds of a round that answered holds where the replayer is not spent
pub answered : {P : Type 0} (r : Result Step ReplayError) (s : ReadState) → StateAfter r s → s ≢ Spent → IfAnswered r P → P
answered (Ok x) s h ne p = p
answered (Err (Read file)) s h ne p = p file refl
answered (Err Write) s h ne p = absurd (ne h)
answered (Err Memory) s h ne p = absurd (ne h)
answered (Err Records) s h ne p = absurd (ne h)
answered (Err SpentBefore) s h ne p = absurd (ne h)

pub ready_same : {S : Type 0} (capacity : ℕ) (fs fs' : List LaneSender) (ws ws' : List (Worker S)) → fs ≡ fs' → ws ≡ ws' → AreReady capacity fs' ws' → AreReady capacity fs ws
ready_same {S} capacity fs fs' ws ws' e f h =
    let P : List LaneSender → Type 0 = λ xs. AreReady capacity xs ws in
    let Q : List (Worker S) → Type 0 = λ xs. AreReady capacity fs' xs in
    subst P (sym e) (subst Q (sym f) h)

no_more : (given left : List Found) → given ≡ given ++ left → left ≡ []
no_more given left e = nil_from_length left (let n = ap length e in omega (arith, length-append given left))

-- ---- fresh lanes

module _ {M A : Type 0} {g : Ghosts M RouteId A} {a : AddressGhosts A} where
  pub ready_fresh : (capacity workers : ℕ) (fs : List LaneSender) (ws : List (Worker (Seats M A g a))) → AreFresh SeatsHold capacity workers fs ws → AreReady capacity fs ws
  ready_fresh capacity workers fs ws h = (h.workers_count ∙ sym h.senders_count, λ lane x y l. (h.each lane x y (let c = h.senders_count in omega arith)).ready)

  pub settled_fresh : (capacity workers : ℕ) (fs : List LaneSender) (ws : List (Worker (Seats M A g a))) → AreFresh SeatsHold capacity workers fs ws → (lane : ℕ) (state : LaneState) → slice_get (lane_states fs ws) lane ≡ Some state → state.ring.sent ≡ []
  settled_fresh capacity workers fs ws h lane state e =
      let at = lane_at fs ws lane state e in ap (λ x. x.ring.sent) at.state_is ∙ (h.each lane at.sender at.worker (let l = at.within in let c = h.senders_count in omega arith)).empty

-- ---- a settling keeps that some units and refusals are stood for

pub some_settled : (dealing : ℕ → ℕ → ℕ) (capacity : ℕ) (old new : ReplayerState) → Settles dealing capacity old new → ∥ StandsForSome dealing capacity old ∥₁ → ∥ StandsForSome dealing capacity new ∥₁
some_settled dealing capacity old new s some = ∥∥₁_map some (λ h. record { units = h.units; refused = h.refused; stands = s.stands h.units h.refused h.stands })

-- ---- a round

module _ {M A D : Type 0} {g : Ghosts M RouteId A} {a : AddressGhosts A} where
  module _ (dealing : ℕ → ℕ → ℕ) (capacity : ℕ) (fs : List LaneSender) (ws : List (Worker (Seats M A g a))) (d : Dealer D) (spent : Bool) (ready : AreReady capacity fs ws) where
    abbrev lane_of : ℕ → ℕ
    lane_of n = dealing n (length fs)

    count : length (lane_states fs ws) ≡ length fs
    count = length-lane_states fs ws ready.0

    -- the lanes stand for the units that the replayer stands for
    pub lanes_before : (units : List ReplayUnit) (refused : List Damage) → ReplayerStandsFor dealing capacity units refused (state_at d fs ws spent) → LanesStand SeatsHold lane_of fs ws (dealt_items units)
    lanes_before units refused h lane x y l =
        stands_in lane_of units (option_to_list d.blocked_unit) lane capacity (get_or fs lane x) (get_or ws lane y)
        (subst (λ n. LaneStandsFor capacity (units ++ option_to_list d.blocked_unit) (lane_units (λ m. dealing m n) units lane) (lane_state (get_or fs lane x) (get_or ws lane y))) count
        (h.lanes lane (lane_state (get_or fs lane x) (get_or ws lane y)) (lane_states-at fs ws lane x y ready.0 l)))

    -- and the other way round
    pub lanes_after : (units : List ReplayUnit) → LanesStand SeatsHold lane_of fs ws (dealt_items units) → (lane : ℕ) (state : LaneState) → slice_get (lane_states fs ws) lane ≡ Some state
        → LaneStandsFor capacity (units ++ option_to_list d.blocked_unit) (lane_units (λ m. dealing m (length (lane_states fs ws))) units lane) state
    lanes_after units h lane state e =
        let at = lane_at fs ws lane state e in
        subst (λ n. LaneStandsFor capacity (units ++ option_to_list d.blocked_unit) (lane_units (λ m. dealing m n) units lane) state) (sym count)
        (subst (LaneStandsFor capacity (units ++ option_to_list d.blocked_unit) (lane_units lane_of units lane)) (sym at.state_is)
        (stands_out lane_of units (option_to_list d.blocked_unit) lane capacity (get_or fs lane at.sender) (get_or ws lane at.worker) (ready.1 lane at.sender at.worker at.within) (h lane at.sender at.worker at.within)))

    share_is : (n : ℕ) → n ≡ length fs → (lane : ℕ) (units : List ReplayUnit) → length (in_lane lane_of lane (with_numbers d.peers units)) ≡ count_by (λ u. eqb (dealing (number_in d.peers u.peer) n) lane) units
    share_is n e lane units =
        ap length (filter_mapped (λ item. eqb (lane_of item.number) lane) (with_number d.peers) units) ∙ length-map (filter (λ u. eqb (lane_of (number_in d.peers u.peer)) lane) units) (with_number d.peers)
        ∙ length-filter (λ u. eqb (lane_of (number_in d.peers u.peer)) lane) units
        ∙ ap (λ m. count_by (λ u. eqb (dealing (number_in d.peers u.peer) m) lane) units) (sym e)

  module _ (dealing : ℕ → ℕ → ℕ) (plan : Plan) (fs fs' : List LaneSender) (ws ws' : List (Worker (Seats M A g a))) (old new : Dealer D) (spent spent' : Bool) (u u' : UnitsState) (k k' : List (Option (List ℕ))) (result : Result Step ReplayError) (ready : AreReady plan.ring fs ws) (below : (n : ℕ) → dealing n (length fs) < length fs) (unspent : spent' ≡ false) (p : PlaysLanes SeatsHold (λ n. dealing n (length fs)) plan.ring plan.batch fs ws fs' ws' old new u k u' k' result) where
    abbrev before : ReplayerState
    before = state_at old fs ws spent

    abbrev after : ReplayerState
    after = state_at new fs' ws' spent'

    abbrev dealt : List ReplayUnit
    dealt = filter_map unit_of p.deals.done

    lanes_now : length (lane_states fs' ws') ≡ length fs
    lanes_now = length-lane_states fs' ws' p.rounded.ready.0 ∙ p.rounded.count

    stands_then : (units : List ReplayUnit) (refused : List Damage) → ReplayerStandsFor dealing plan.ring units refused before → ReplayerStandsFor dealing plan.ring (units ++ dealt) (refused ++ filter_map damage_of p.deals.done) after
    stands_then units refused h =
        let keys = p.deals.handles.keys units h.peers in
        let lanes = p.rounded.stands (dealt_items units) (lanes_before dealing plan.ring fs ws old spent ready units refused h) in
        let all = subst (LanesStand SeatsHold (λ n. dealing n (length fs)) fs' ws') (dealt_items-append units dealt (option_to_list new.blocked_unit) new.peers keys) lanes in
        record {
          unspent = unspent;
          lanes = lanes_after dealing plan.ring fs' ws' new spent' p.rounded.ready (units ++ dealt) (subst (λ n. LanesStand SeatsHold (λ m. dealing m n) fs' ws' (dealt_items (units ++ dealt))) (sym p.rounded.count) all);
          peers = keys;
          refused_kept = p.deals.handles.refused ∙ ap (λ l. l ++ filter_map damage_of p.deals.done) h.refused_kept;
          some_lanes = (let n = lanes_now in let m = length-lane_states fs ws ready.0 in let s = h.some_lanes in omega arith);
          dealt_counted = (let n = length-append units dealt in let a = p.deals.handles.counted in let b = h.dealt_counted in omega arith);
        }

    plays_then : (left : List Found) → PlaysRound dealing plan.ring plan.batch before after (p.deals.given ++ left) left p.deals.done
    plays_then left = record {
      order = in_order old.blocked_unit new.blocked_unit p.deals.given left p.deals.done (to_deal new.blocked_unit left) p.deals.handles.order refl;
      few = p.deals.few;
      lanes = lanes_now ∙ sym (length-lane_states fs ws ready.0);
      stands = stands_then;
      taken = λ lane state e.
          let at = lane_at fs' ws' lane state e in
          let within : lane < length fs = (let l = at.within in let n = p.rounded.count in omega arith) in
          let few = p.rounded.taken at.worker lane at.sender within in
          let share = share_is dealing plan.ring fs ws new spent ready (length (lane_states fs' ws')) lanes_now lane dealt in
          let is = ap (λ s. length s.ring.sent) at.state_is in omega (arith, few, share, is);
    }

    stops_then : (step : Step) → StopsDealing (λ n. dealing n (length fs)) plan.batch (room_of fs) new u k p.deals.given dealt step → (left : List Found) → (step ≡ End → IsLeft u k p.deals.given left) → Stops dealing plan before after left dealt step
    stops_then Blocked h left _ =
        let n = length (lane_states fs' ws') in
        let number = number_in new.peers h.unit.peer in
        let same : dealing number n ≡ dealing number (length fs) = ap (dealing number) lanes_now in
        let lane = dealing number (length fs) in
        let within = below number in
        let f = some_item fs lane within in
        let w = some_item ws lane (let c = ready.0 in omega (arith, within, c)) in
        let state = lane_state (get_or fs lane f) (get_or ws lane w) in
        let room = (ready.1 lane f w within).5 in
        let full = h.full in
        let own = room_at fs lane f within in
        let share = share_is dealing plan.ring fs ws new spent ready n lanes_now lane dealt in
        subst (λ l. (unit : ReplayUnit) × (s : LaneState) × (new.blocked_unit ≡ Some unit) × (slice_get (lane_states fs ws) (lane_in dealing after unit) ≡ Some s) × (plan.ring ≤ length s.ring.sent + share_of dealing after (lane_in dealing after unit) dealt)) {x = lane} {y = lane} refl (
          h.unit,
          state,
          h.blocked_unit,
          ap (slice_get (lane_states fs ws)) same ∙ lane_states-at fs ws lane f w ready.0 within,
          subst (λ l. plan.ring ≤ length state.ring.sent + share_of dealing after l dealt) (sym same) (omega (arith, room, full, own, share)),
        )
    stops_then FullBatch h left _ = h
    stops_then End h left end =
        let is = end refl in (h.0, no_more p.deals.given left (sym (h.1 is.0 is.1) ∙ is.2))

    stops_all : (r : Result Step ReplayError) → IfOk r (StopsDealing (λ n. dealing n (length fs)) plan.batch (room_of fs) new u k p.deals.given dealt) → IfOk r (λ step. (left : List Found) → (step ≡ End → IsLeft u k p.deals.given left) → Stops dealing plan before after left dealt step)
    stops_all (Ok step) h = stops_then step h
    stops_all (Err e) h = tt

    ended_then : (r : Result Step ReplayError) → IfOk r (StopsDealing (λ n. dealing n (length fs)) plan.batch (room_of fs) new u k p.deals.given dealt) → r ≡ Ok End → (new.blocked_unit ≡ None) × GivesAll u k p.deals.given
    ended_then (Ok Blocked) h e = absurd (cc)
    ended_then (Ok FullBatch) h e = absurd (cc)
    ended_then (Ok End) h e = h
    ended_then (Err x) h e = absurd (cc)

    pub PlaysOn-from : PlaysOn dealing plan before after u k u' k' result
    PlaysOn-from = record {
      given = p.deals.given;
      done = p.deals.done;
      gives = p.deals.gives;
      takes = p.deals.takes;
      plays = plays_then;
      stops = stops_all result p.deals.stops;
      ended = ended_then result p.deals.stops;
      nothing_kept = p.deals.nothing_kept;
      behind = p.deals.behind;
    }

  -- the same, where the batch is told by what it equals
  pub PlaysOn-of : (dealing : ℕ → ℕ → ℕ) (plan : Plan) (batch : ℕ) (fs fs' : List LaneSender) (ws ws' : List (Worker (Seats M A g a))) (old new : Dealer D) (spent spent' : Bool) (u u' : UnitsState) (k k' : List (Option (List ℕ))) (result : Result Step ReplayError)
      → AreReady plan.ring fs ws → ((n : ℕ) → dealing n (length fs) < length fs) → batch ≡ plan.batch → spent' ≡ false
      → PlaysLanes SeatsHold (λ n. dealing n (length fs)) plan.ring batch fs ws fs' ws' old new u k u' k' result → PlaysOn dealing plan (state_at old fs ws spent) (state_at new fs' ws' spent') u k u' k' result
  PlaysOn-of dealing plan batch fs fs' ws ws' old new spent spent' u u' k k' result ready below b unspent p =
      PlaysOn-from dealing plan fs fs' ws ws' old new spent spent' u u' k k' result ready below unspent
      (subst (λ n. PlaysLanes SeatsHold (λ m. dealing m (length fs)) plan.ring n fs ws fs' ws' old new u k u' k' result) b p)

  -- it still stands for some units and refusals
  pub some_after : (law : D → ℕ → ℕ → ℕ) (plan : Plan) (batch : ℕ) (fs fs' : List LaneSender) (ws ws' : List (Worker (Seats M A g a))) (old new : Dealer D) (u u' : UnitsState) (k k' : List (Option (List ℕ))) (result : Result Step ReplayError)
      → AreReady plan.ring fs ws → ((n : ℕ) → law old.dealing n (length fs) < length fs) → batch ≡ plan.batch
      → PlaysLanes SeatsHold (λ n. law old.dealing n (length fs)) plan.ring batch fs ws fs' ws' old new u k u' k' result
      → ∥ StandsForSome (law old.dealing) plan.ring (state_at old fs ws false) ∥₁ → ∥ StandsForSome (law new.dealing) plan.ring (state_at new fs' ws' false) ∥₁
  some_after law plan batch fs fs' ws ws' old new u u' k k' result ready below b p some =
      let on = PlaysOn-of (law old.dealing) plan batch fs fs' ws ws' old new false false u u' k k' result ready below b refl p in
      ∥∥₁_map some (λ s. record {
        units = s.units ++ filter_map unit_of on.done;
        refused = s.refused ++ filter_map damage_of on.done;
        stands = subst (λ d. ReplayerStandsFor (law d) plan.ring (s.units ++ filter_map unit_of on.done) (s.refused ++ filter_map damage_of on.done) (state_at new fs' ws' false)) (sym p.deals.handles.dealing) ((on.plays []).stands s.units s.refused s.stands);
      })

  -- ---- a settling

  pub Settles-of : (dealing : ℕ → ℕ → ℕ) (capacity : ℕ) (fs fs' fs₂ : List LaneSender) (ws ws' ws₂ : List (Worker (Seats M A g a))) (d : Dealer D) (spent : Bool) → AreReady capacity fs ws → fs₂ ≡ fs' → ws₂ ≡ ws'
      → Settled SeatsHold capacity fs ws fs' ws' → Settles dealing capacity (state_at d fs ws spent) (state_at d fs₂ ws₂ spent)
  Settles-of dealing capacity fs fs' fs₂ ws ws' ws₂ d spent ready e f s =
      let settled : Settles dealing capacity (state_at d fs ws spent) (state_at d fs' ws' spent) = record {
        settled = λ lane state is.
            let at = lane_at fs' ws' lane state is in
            let within : lane < length fs = (let l = at.within in let n = s.count in omega arith) in
            ap (λ x. x.ring.sent) at.state_is ∙ s.empty at.worker lane at.sender within;
        blocked_unit = refl;
        stands = λ units refused h. record {
          unspent = h.unspent;
          lanes = lanes_after dealing capacity fs' ws' d spent s.ready units
              (subst (λ n. LanesStand SeatsHold (λ m. dealing m n) fs' ws' (dealt_items units)) (sym s.count)
              (s.stands (λ m. dealing m (length fs)) (dealt_items units) (lanes_before dealing capacity fs ws d spent ready units refused h)));
          peers = h.peers;
          refused_kept = h.refused_kept;
          some_lanes = (let n = length-lane_states fs' ws' s.ready.0 in let k = s.count in let m = length-lane_states fs ws ready.0 in let some = h.some_lanes in omega arith);
          dealt_counted = h.dealt_counted;
        };
      } in
      subst (λ l. Settles dealing capacity (state_at d fs ws spent) (state_at d l ws₂ spent)) (sym e) (subst (λ l. Settles dealing capacity (state_at d fs ws spent) (state_at d fs' l spent)) (sym f) settled)

  -- ---- a new replayer

  pub stands_fresh : (dealing : ℕ → ℕ → ℕ) (capacity count : ℕ) → 0 < count → (fs : List LaneSender) (ws : List (Worker (Seats M A g a))) (d : Dealer D) → AreFresh SeatsHold capacity count fs ws → d.peers ≡ [] → d.blocked_unit ≡ None → d.refused.items ≡ [] → d.dealt ≡ 0
      → ReplayerStandsFor dealing capacity [] [] (state_at d fs ws false)
  unfolding peers_of
  stands_fresh dealing capacity count some fs ws d h keys blocked_unit refused counted =
      record {
        unspent = refl;
        lanes = lanes_after dealing capacity fs ws d false (ready_fresh capacity count fs ws h) [] (λ lane x y l.
            let fresh = h.each lane x y (let c = h.senders_count in omega arith) in record { taken = []; sessions = fresh.sessions; whole = fresh.empty; counted = fresh.untaken });
        peers = keys ∙ ap (λ o. peers_of (option_to_list o)) (sym blocked_unit);
        refused_kept = refused;
        some_lanes = (let n = length-lane_states fs ws (ready_fresh capacity count fs ws h).0 in let k = h.senders_count in omega arith);
        dealt_counted = counted;
      }

-- ---- what waits

module _ {M A : Type 0} {g : Ghosts M RouteId A} {a : AddressGhosts A} (capacity : ℕ) (fs : List LaneSender) (ws : List (Worker (Seats M A g a))) (ready : AreReady capacity fs ws) where
  -- the dealer knows how many units wait
  pub waits_at : (lane : ℕ) (state : LaneState) → slice_get (lane_states fs ws) lane ≡ Some state → (d : LaneSender) (n : ℕ) → n + known_free (get_or fs lane d).producer ≡ ring_capacity (get_or fs lane d).producer → n ≡ length state.ring.sent
  waits_at lane state is d n count =
      let at = lane_at fs ws lane state is in
      let same : get_or fs lane d ≡ get_or fs lane at.sender = get_or_default fs lane d at.sender at.within in
      let counted = subst (λ f. n + known_free f.producer ≡ ring_capacity f.producer) same count in
      let r = ready.1 lane at.sender at.worker at.within in
      (let a = r.1 in let b = r.5 in omega arith) ∙ ap length (sym (ap (λ s. s.ring.sent) at.state_is))

  pub took_at : (lane : ℕ) (state : LaneState) → slice_get (lane_states fs ws) lane ≡ Some state → (e : Worker (Seats M A g a)) → (get_or ws lane e).taken ≡ state.took
  took_at lane state is e =
      let at = lane_at fs ws lane state is in
      let same : get_or ws lane e ≡ get_or ws lane at.worker = get_or_default ws lane e at.worker (let l = at.within in let c = ready.0 in omega arith) in
      ap (λ w. w.taken) same ∙ sym (ap (λ s. s.took) at.state_is)

  pub all_free : ((lane : ℕ) (state : LaneState) → slice_get (lane_states fs ws) lane ≡ Some state → state.ring.sent ≡ []) → (lane : ℕ) (d : LaneSender) (n : ℕ) → lane < length fs → n + known_free (get_or fs lane d).producer ≡ ring_capacity (get_or fs lane d).producer → n ≡ 0
  all_free settled lane d n l count =
      let w = some_item ws lane (let c = ready.0 in omega arith) in
      let is = lane_states-at fs ws lane d w ready.0 l in
      waits_at lane (lane_state (get_or fs lane d) (get_or ws lane w)) is d n count ∙ ap length (settled lane (lane_state (get_or fs lane d) (get_or ws lane w)) is)

  pub settled_free : ((lane : ℕ) (d : LaneSender) → lane < length fs → known_free (get_or fs lane d).producer ≡ ring_capacity (get_or fs lane d).producer) → (lane : ℕ) (state : LaneState) → slice_get (lane_states fs ws) lane ≡ Some state → state.ring.sent ≡ []
  settled_free free lane state is =
      let at = lane_at fs ws lane state is in
      let none = free lane at.sender at.within in
      nil_from_length state.ring.sent (sym (waits_at lane state is at.sender 0 (omega arith)))
