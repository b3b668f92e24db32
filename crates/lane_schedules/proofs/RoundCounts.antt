-- How many rounds there are: those that fill a ring, and those that deal a batch.
use Rattle.std.proofs.Common.{◌≡◌, ◌≢◌, ℕ, ◌+◌, ◌*◌, ◌/◌, ◌<◌, ◌≤◌, List, [], ◌∷◌, refl, sym, subst, arith, length, length-append}
use Rattle.std.specs.List.{filter_map, AllByRecursion}
use Rattle.std.proofs.Math.Nat.{add-mul, zero-mul, one-mul}
use Rattle.std.proofs.lemmas.Nat.{le-div}
use Rattle.peer_units.specs.Plain.{Found}
use Rattle.mrt_body.specs.Units.{unit_of}
use Rattle.lane_deal.specs.declared.plan.Plan.{Plan}
use Rattle.lane_deal.specs.declared.step.Step.TheVariants.{Blocked, FullBatch, End}
use Rattle.lane_deal.specs.Plans.{IsPlan}
use Rattle.lane_deal.specs.Replayers.{ReplayerState}
use Rattle.lane_deal.specs.Rounds.{Stops, IsSettled}
use Rattle.lane_deal.proofs.RoundLaws.{AreBelow, waiting_in, none_waits, waits_after, fills}
use Rattle.lane_schedules.specs.RoundSequences.{RoundState, AreRounds, dealt_in}

module _ (dealing : ℕ → ℕ → ℕ) where
  -- so many rounds filled a ring, and the others dealt a batch
  record Counted (plan : Plan) (waiting dealt count : ℕ) : Type 0 where
    pub blocked : ℕ
    pub full : ℕ
    pub all : count ≡ blocked + full
    pub rings : blocked * plan.ring ≤ waiting + 2 * dealt
    pub batches : full * plan.batch ≤ dealt

  one_blocked : (plan : Plan) (old new first rest count : ℕ) → plan.ring ≤ old + first → new ≤ first → Counted plan new rest count → Counted plan old (first + rest) (count + 1)
  one_blocked plan old new first rest count ring few c = record {
    blocked = c.blocked + 1;
    full = c.full;
    all = omega (arith, c.all);
    rings = omega (arith, add-mul c.blocked 1 plan.ring, one-mul plan.ring, c.rings, ring, few);
    batches = omega (arith, c.batches);
  }

  one_full : (plan : Plan) (old new first rest count : ℕ) → first ≡ plan.batch → new ≤ first → Counted plan new rest count → Counted plan old (first + rest) (count + 1)
  one_full plan old new first rest count batch few c = record {
    blocked = c.blocked;
    full = c.full + 1;
    all = omega (arith, c.all);
    rings = omega (arith, c.rings, few);
    batches = omega (arith, add-mul c.full 1 plan.batch, one-mul plan.batch, c.batches, batch);
  }

  counted : (plan : Plan) (r : ReplayerState) (coming : List Found) (rounds : List RoundState) → AreBelow dealing r → AreRounds dealing plan r coming rounds → AllByRecursion (λ round. round.step ≢ End) rounds
      → Counted plan (waiting_in r) (length (dealt_in rounds)) (length rounds)
  counted plan r coming [] below are go_on = record { blocked = 0; full = 0; all = refl; rings = omega (arith, zero-mul plan.ring); batches = omega (arith, zero-mul plan.batch) }
  counted plan r coming (round ∷ rounds) below are go_on =
      let played = are.0 in
      let units = filter_map unit_of round.done in
      let below_next : AreBelow dealing round.replayer = subst (λ n. (number : ℕ) → dealing number n < n) (sym played.lanes) below in
      let few = waits_after dealing plan.ring plan.batch r round.replayer coming round.left round.done below_next played in
      let later = counted plan round.replayer round.left rounds below_next are.2 go_on.1 in
      let all : length units + length (dealt_in rounds) ≡ length (dealt_in (round ∷ rounds)) = sym (length-append units (dealt_in rounds)) in
      let one_more : Counted plan (waiting_in r) (length units + length (dealt_in rounds)) (length rounds + 1) =
      elim round.step as (λ step. round.step ≡ step → Stops dealing plan r round.replayer round.left units step → Counted plan (waiting_in r) (length units + length (dealt_in rounds)) (length rounds + 1)) [
        | Blocked ↦ λ _ h. one_blocked plan (waiting_in r) (waiting_in round.replayer) (length units) (length (dealt_in rounds)) (length rounds) (fills dealing plan.ring r round.replayer units h) few later
        | FullBatch ↦ λ _ h. one_full plan (waiting_in r) (waiting_in round.replayer) (length units) (length (dealt_in rounds)) (length rounds) h few later
        | End ↦ λ is _. absurd (go_on.0 is)
      ] refl are.1 in
      subst (λ n. Counted plan (waiting_in r) n (length (round ∷ rounds))) all (subst (Counted plan (waiting_in r) (length units + length (dealt_in rounds))) {x = length rounds + 1} {y = length (round ∷ rounds)} (omega arith) one_more)

pub few_rounds : (dealing : ℕ → ℕ → ℕ) (plan : Plan) (r : ReplayerState) (coming : List Found) (rounds : List RoundState) → IsPlan plan → ((number : ℕ) → dealing number (length r.lanes) < length r.lanes)
    → IsSettled r → AreRounds dealing plan r coming rounds → AllByRecursion (λ round. round.step ≢ End) rounds
    → length rounds ≤ 2 * length (dealt_in rounds) / plan.ring + length (dealt_in rounds) / plan.batch
few_rounds dealing plan r coming rounds ranges below settled are go_on =
    let c = counted dealing plan r coming rounds below are go_on in
    let idle = none_waits r.lanes settled in
    let dealt = length (dealt_in rounds) in
    let blocked = le-div c.blocked (2 * dealt) plan.ring (omega (arith, ranges.ring)) (omega (arith, c.rings, idle)) in
    let full = le-div c.full dealt plan.batch (omega (arith, ranges.batch)) c.batches in
    omega (arith, c.all, blocked, full)
