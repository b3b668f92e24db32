-- Rounds of a replayer, one after the other, to the end of the files.
use Rattle.std.proofs.Common.{◌≡◌, ◌≢◌, ◌⊎◌, inl, inr, ℕ, ◌+◌, ◌-◌, ◌*◌, ◌/◌, ◌^◌, ◌≤◌, ◌<◌, min, List, [], ◌++◌, Option, Ok, refl, sym, ap, ◌∙◌, subst, arith, length, append_assoc, length-append}
use Rattle.std.specs.Prelude.{option_to_list}
use Rattle.std.specs.List.{filter_map, count_by}
use Rattle.std.proofs.Math.Nat.{add-mul, zero-mul, one-mul, mul-le-mul_right, le-mul_of_pos_right}
use Rattle.std.proofs.lemmas.Bool.{cases_lt}
use Rattle.std.proofs.lemmas.Nat.{le-div}
use Rattle.std.proofs.lemmas.List.{append-nil}
use Rattle.std.proofs.lemmas.List.Elements.{filter_map-append}
use Rattle.mrt_frame.specs.declared.error.ReplayError.{ReplayError}
use Rattle.mrt_frame.specs.declared.error.ReplayError.TheVariants as errors
use Rattle.peer_units.specs.declared.unit.Damage.{Damage}
use Rattle.peer_units.specs.Plain.{Found}
use Rattle.peer_units.specs.Plain.{Unit as ReplayUnit}
use Rattle.mrt_body.specs.Units.{unit_of, damage_of, is_whole, is_aside}
use Rattle.mrt_body.specs.ToCome.{UnitsState, cuts_to_come, most_units_left}
use Rattle.lane_deal.specs.declared.plan.Plan.{Plan}
use Rattle.lane_deal.specs.declared.step.Step.{Step}
use Rattle.lane_deal.specs.declared.step.Step.TheVariants.{Blocked, FullBatch, End}
use Rattle.mrt_frame.specs.declared.read_state.ReadState.TheVariants.{Reading}
use Rattle.lane_deal.specs.Results.{state_of_step}
use Rattle.lane_deal.specs.Asking.{TakesUnits, StopsReading}
use Rattle.lane_deal.specs.ToDeal.{to_deal}
use Rattle.lane_deal.specs.Plans.{IsPlan}
use Rattle.lane_deal.specs.Playing.{PlaysOn}
use Rattle.lane_deal.specs.Replayers.{ReplayerState}
use Rattle.lane_deal.specs.Rounds.{PlaysRound}
use Rattle.lane_deal.proofs.Asking.{TakesUnits-none, TakesUnits-more, all_more_given}
use Rattle.lane_deal.proofs.RoundLaws.{waiting_in, none_waits, waits_after, fills}
use Rattle.history_replay.specs.FilesTaken.{StopsFiles}
use Rattle.mrt_replay.specs.Replays.{DealtAll, HasPlayed}
use Rattle.history_replay.proofs.FilesTaken.{none_known}
use Rattle.mrt_replay.proofs.LanesTaken.{units_to_deal, played_took}

abbrev Known : Type 0
Known = List (Option (List ℕ))

-- how much is left of units that can come
abbrev pub left_over : ReplayerState → UnitsState → ℕ
left_over r u = 2 * (length (option_to_list r.blocked_unit) + most_units_left u) + waiting_in r

-- rounds so far
pub record SoFar (dealing : ℕ → ℕ → ℕ) (plan : Plan) (first r : ReplayerState) (start now : UnitsState) (told left : Known) (n₀ m n : ℕ) : Type 0 where
  pub items : List Found
  pub takes : TakesUnits start told now left items
  pub took : (units : List ReplayUnit) (refused : List Damage) → DealtAll dealing plan.ring first units refused → DealtAll dealing plan.ring r (units ++ filter_map unit_of items) (refused ++ filter_map damage_of items)
  pub lanes : length r.lanes ≡ length first.lanes
  pub dealt : ℕ
  pub blocked : ℕ
  pub full : ℕ
  pub all : dealt + length (option_to_list r.blocked_unit) ≡ length (option_to_list first.blocked_unit) + length (filter_map unit_of items)
  pub rounds : n ≤ n₀ + (blocked + full)
  pub rings : blocked * plan.ring + waiting_in r ≤ waiting_in first + 2 * dealt
  pub batches : full * plan.batch ≤ dealt
  pub played : ℕ
  pub counted : min (m + played) (2 ^ 64 - 1) ≤ n
  pub batched : dealt ≤ played * plan.batch

module _ (dealing : ℕ → ℕ → ℕ) (plan : Plan) where
  pub SoFar-none : (r : ReplayerState) (u : UnitsState) (told : Known) (n : ℕ) → SoFar dealing plan r r u u told told n n n
  SoFar-none r u told n = record {
    items = [];
    takes = TakesUnits-none u told;
    took = λ units refused h. subst (λ l. DealtAll dealing plan.ring r l (refused ++ [])) (sym (append-nil units)) (subst (λ l. DealtAll dealing plan.ring r units l) (sym (append-nil refused)) h);
    lanes = refl;
    dealt = 0;
    blocked = 0;
    full = 0;
    all = omega arith;
    rounds = omega arith;
    rings = omega (arith, zero-mul plan.ring);
    batches = omega (arith, zero-mul plan.batch);
    played = 0;
    counted = omega arith;
    batched = omega (arith, zero-mul plan.batch);
  }

  module _ (first r r' : ReplayerState) (start now next : UnitsState) (told left later : Known) (n₀ n n' : ℕ) (below : (m : ℕ) → dealing m (length r.lanes) < length r.lanes) (s : SoFar dealing plan first r start now told left n₀ n₀ n) (step : Step) (p : PlaysOn dealing plan r r' now left next later (Ok step)) (takes : TakesUnits now left next later p.given) (up : n' ≡ min (n + 1) (2 ^ 64 - 1)) where
    abbrev many : ℕ
    many = length (filter_map unit_of p.done)

    played : PlaysRound dealing plan.ring plan.batch r r' p.given [] p.done
    played = subst (λ l. PlaysRound dealing plan.ring plan.batch r r' l [] p.done) (append-nil p.given) (p.plays [])

    counts : many + length (option_to_list r'.blocked_unit) ≡ length (option_to_list r.blocked_unit) + length (filter_map unit_of p.given)
    counts =
        let units : option_to_list r.blocked_unit ++ filter_map unit_of p.given ≡ filter_map unit_of p.done ++ option_to_list r'.blocked_unit =
        sym (units_to_deal r.blocked_unit p.given) ∙ ap (filter_map unit_of) played.order ∙ filter_map-append unit_of p.done (to_deal r'.blocked_unit [])
        ∙ ap (λ l. filter_map unit_of p.done ++ l) (units_to_deal r'.blocked_unit [] ∙ append-nil (option_to_list r'.blocked_unit)) in
        let size = ap length units in
        omega (arith, length-append (option_to_list r.blocked_unit) (filter_map unit_of p.given), length-append (filter_map unit_of p.done) (option_to_list r'.blocked_unit))

    few : waiting_in r' ≤ many
    few = waits_after dealing plan.ring plan.batch r r' p.given [] p.done (subst (λ m. (k : ℕ) → dealing k m < m) (sym played.lanes) below) played

    went : step ≢ End → (plan.ring ≤ waiting_in r + many) ⊎ (many ≡ plan.batch)
    went ne =
        elim step as (λ x. step ≡ x → (plan.ring ≤ waiting_in r + many) ⊎ (many ≡ plan.batch)) [
          | Blocked ↦ λ e. inl (fills dealing plan.ring r r' (filter_map unit_of p.done) (rw e at (p.stops [] (λ x. absurd (ne x)))))
          | FullBatch ↦ λ e. inr (rw e at (p.stops [] (λ x. absurd (ne x))))
          | End ↦ λ e. absurd (ne e)
        ] refl

    pub falls : IsPlan plan → step ≢ End → left_over r' next < left_over r now
    falls ranges ne =
        let given = takes.few in
        let c = counts in
        let w = few in
        let ring = ranges.ring in
        let batch = ranges.batch in
        elim (went ne) [
          | inl h ↦ omega (arith, given, c, w, ring, h)
          | inr h ↦ omega (arith, given, c, w, batch, h)
        ]

    further : (b f m₀ : ℕ) → b * plan.ring ≤ waiting_in r + many → f * plan.batch ≤ many → n' ≤ m₀ + ((s.blocked + b) + (s.full + f)) → SoFar dealing plan first r' start next told later m₀ n₀ n'
    further b f m₀ ring batch rounds =
        let units_are : filter_map unit_of (s.items ++ p.given) ≡ filter_map unit_of s.items ++ filter_map unit_of p.given = filter_map-append unit_of s.items p.given in
        let refused_are : filter_map damage_of (s.items ++ p.given) ≡ filter_map damage_of s.items ++ filter_map damage_of p.given = filter_map-append damage_of s.items p.given in
        let size = ap length units_are in
        let w = few in
        let c = counts in
        record {
          items = s.items ++ p.given;
          takes = TakesUnits-more start now next told left later s.items p.given s.takes takes;
          took = λ units refused h.
              let one = played_took dealing plan.ring plan.batch r r' p.given p.done played (units ++ filter_map unit_of s.items) (refused ++ filter_map damage_of s.items) (s.took units refused h) in
              subst (λ l. DealtAll dealing plan.ring r' l (refused ++ filter_map damage_of (s.items ++ p.given))) (append_assoc units (filter_map unit_of s.items) (filter_map unit_of p.given) ∙ ap (λ l. units ++ l) (sym units_are))
              (subst (λ l. DealtAll dealing plan.ring r' ((units ++ filter_map unit_of s.items) ++ filter_map unit_of p.given) l) (append_assoc refused (filter_map damage_of s.items) (filter_map damage_of p.given) ∙ ap (λ l. refused ++ l) (sym refused_are)) one);
          lanes = played.lanes ∙ s.lanes;
          dealt = s.dealt + many;
          blocked = s.blocked + b;
          full = s.full + f;
          all = omega (arith, s.all, c, size, length-append (filter_map unit_of s.items) (filter_map unit_of p.given));
          rounds = rounds;
          rings = omega (arith, add-mul s.blocked b plan.ring, s.rings, ring, w);
          batches = omega (arith, add-mul s.full f plan.batch, s.batches, batch);
          played = s.played + 1;
          counted = (let e = up in omega (arith, s.counted, e));
          batched = omega (arith, add-mul s.played 1 plan.batch, one-mul plan.batch, s.batched, played.few);
        }

    pub SoFar-more : step ≢ End → SoFar dealing plan first r' start next told later n₀ n₀ n'
    SoFar-more ne =
        let rounds = s.rounds in
        elim (went ne) [
          | inl h ↦ further 1 0 n₀ (omega (arith, one-mul plan.ring, h)) (omega (arith, zero-mul plan.batch)) (omega (arith, rounds, up))
          | inr h ↦ further 0 1 n₀ (omega (arith, zero-mul plan.ring)) (omega (arith, one-mul plan.batch, h)) (omega (arith, rounds, up))
        ]

    -- the files ended
    pub HasPlayed-from : IsPlan plan → step ≡ End → next.file ≡ next.count → length later ≡ next.count → HasPlayed dealing plan first r' start next told n₀ n'
    unfolding further
    HasPlayed-from ranges is at_end size =
        let rounds = s.rounds in
        let last = further 0 0 (n₀ + 1) (omega (arith, zero-mul plan.ring)) (omega (arith, zero-mul plan.batch)) (omega (arith, rounds, up)) in
        let ended = p.ended (ap (λ x. Ok x) is) in
        record {
          taken = record {
            items = s.items ++ p.given;
            came = all_more_given start now told left s.items p.given s.takes ended.1;
            records = λ contents known.
                let x = last.takes.found contents known in
                let none : x.0 ≡ [] = none_known next.file later x.0 (size ∙ sym at_end) x.1 in
                let cuts : count_by is_whole (cuts_to_come next x.0) ≡ 0 = ap (λ l. count_by is_whole (cuts_to_come next l)) none in
                omega (arith, x.2.records, cuts);
            aside = λ contents known.
                let x = last.takes.found contents known in
                let none : x.0 ≡ [] = none_known next.file later x.0 (size ∙ sym at_end) x.1 in
                let cuts : count_by (is_aside next.selection) (cuts_to_come next x.0) ≡ 0 = ap (λ l. count_by (is_aside next.selection) (cuts_to_come next l)) none in
                omega (arith, x.2.aside, cuts);
            took = last.took;
            few = (let h = last.takes.few in omega arith);
          };
          none = ended.0;
          played = last.played;
          some = omega arith;
          counted = last.counted;
          batches = λ nothing.
              let before : length (option_to_list first.blocked_unit) ≡ 0 = ap (λ k. length (option_to_list k)) nothing in
              let after : length (option_to_list r'.blocked_unit) ≡ 0 = ap (λ k. length (option_to_list k)) ended.0 in
              omega (arith, last.all, before, after, last.batched);
          few = λ settled nothing.
              let idle = none_waits first.lanes settled in
              let before : length (option_to_list first.blocked_unit) ≡ 0 = ap (λ k. length (option_to_list k)) nothing in
              let after : length (option_to_list r'.blocked_unit) ≡ 0 = ap (λ k. length (option_to_list k)) ended.0 in
              let total = length (filter_map unit_of (s.items ++ p.given)) in
              let same : last.dealt ≡ total = omega (arith, last.all, before, after) in
              let blocked = le-div last.blocked (2 * total) plan.ring (omega (arith, ranges.ring)) (omega (arith, last.rings, idle, same)) in
              let full = le-div last.full total plan.batch (omega (arith, ranges.batch)) (omega (arith, last.batches, same)) in
              omega (arith, last.rounds, blocked, full);
        }

-- a round that isn't the last leaves the replayer running
pub runs_on : (step : Step) → step ≢ End → state_of_step step ≡ Reading
runs_on Blocked ne = refl
runs_on FullBatch ne = refl
runs_on End ne = absurd (ne refl)

-- with the settling
pub few_in_all : (plan before : Plan) (first n rounds len units : ℕ) → before ≡ plan → first ≡ 0 → n ≤ (first + 1) + (2 * len / before.ring + len / before.batch) → rounds ≤ n + 1 → len ≡ units → rounds ≤ 2 * units / plan.ring + units / plan.batch + 2
few_in_all plan before first n rounds len units e none few up same =
    let few' : n ≤ (first + 1) + (2 * units / plan.ring + units / plan.batch) = subst (λ l. n ≤ (first + 1) + (2 * l / plan.ring + l / plan.batch)) same (subst (λ q. n ≤ (first + 1) + (2 * len / q.ring + len / q.batch)) e few) in
    omega arith

-- at least two with the settling
pub two_in_all : (first n rounds played : ℕ) → first ≡ 0 → 0 < played → min (first + played) (2 ^ 64 - 1) ≤ n → rounds ≡ min (n + 1) (2 ^ 64 - 1) → 2 ≤ rounds
two_in_all first n rounds played none some counted up = omega arith

-- and enough to deal each unit in a batch
pub enough_in_all : (plan before : Plan) (first n rounds played len units : ℕ) → IsPlan plan → before ≡ plan → first ≡ 0 → min (first + played) (2 ^ 64 - 1) ≤ n → rounds ≡ min (n + 1) (2 ^ 64 - 1) → len ≤ played * before.batch → len ≡ units → units ≤ 2 ^ 64 - 2
    → units ≤ (rounds - 1) * plan.batch
enough_in_all plan before first n rounds played len units ranges e none counted up batches same small =
    let all : len ≤ played * plan.batch = subst (λ (q : Plan). len ≤ played * q.batch) e batches in
    elim (cases_lt (rounds - 1) played) [
      | inl less ↦
          let many : 2 ^ 64 - 2 ≤ rounds - 1 = omega (arith, less, none, counted, up) in
          omega (arith, le-mul_of_pos_right {m = plan.batch} (rounds - 1) (omega (arith, ranges.batch)), many, small)
      | inr more ↦ omega (arith, mul-le-mul_right plan.batch more, all, same)
    ]
