-- What the rules by which state changes are taken come to.
use Rattle.std.proofs.Common.{◌≡◌, ◌≢◌, ◌⊎◌, inl, inr, ℕ, Bool, true, false, not, ◌&&◌, cond, eqb, List, [], ◌∷◌, ◌++◌, Option, Some, None, Result, refl, ap, ◌∙◌, arith}
use Rattle.std.specs.Prelude.{unwrap_or}
use Rattle.std.specs.List.{count_by, cons_option, filter_map, last_or}
use Rattle.std.proofs.lemmas.Bool.{and_parts}
use Rattle.std.proofs.lemmas.Bool.Decides.{nat_tests}
use Rattle.std.proofs.lemmas.List.Elements.{All-nil, All-head, All-tail, All-push}
use Rattle.mrt_frame.specs.Positions.{flat_map_after}
use Rattle.mrt_frame.specs.declared.fault.Fault.{Fault}
use Rattle.peer_units.specs.Plain.{Event}
use Rattle.peer_units.specs.declared.state_rule.StateRule.{StateRule}
use Rattle.peer_units.specs.declared.state_rule.StateRule.TheVariants.{Recorded, Established}
use Rattle.peer_units.specs.Plain.{Payload}
use Rattle.peer_units.specs.declared.unit.Payload.TheVariants.{State, Message, Entry, Clear}
use Rattle.peer_units.specs.Plain.{Unit as ReplayUnit}
use Rattle.peer_units.specs.Events.{event_in}
use Rattle.peer_units.specs.States.{ESTABLISHED, IsByRule, AreByRule, breaks, established_by, up_by}
use Rattle.adj_rib.specs.Churns.{churn_of, is_routing, reading_of, stopped}
use Rattle.adj_rib.specs.Steps.{state_says, is_established, is_up}
use Rattle.adj_rib.specs.Applied.{up_after}
use Rattle.adj_rib.proofs.Taking.{is_up-push}

-- ---- breaks

not_false : (b : Bool) → not b ≡ false → b ≡ true
not_false true h = refl
not_false false h = absurd cc

is_six : (n : ℕ) → eqb n ESTABLISHED ≡ true → n ≡ ESTABLISHED
is_six n h = grind (arith, nat_tests)

isnt_six : (n : ℕ) → eqb n ESTABLISHED ≡ false → n ≢ ESTABLISHED
isnt_six n h = grind (arith, nat_tests)

other_than_six : (n : ℕ) → n ≢ ESTABLISHED → eqb n ESTABLISHED ≡ false
other_than_six n h = grind (arith, nat_tests)

pub no_break : (from to : ℕ) → breaks Recorded from to ≡ false → (from ≡ ESTABLISHED) × (to ≡ ESTABLISHED)
no_break from to h =
    let both = and_parts (eqb from ESTABLISHED) (eqb to ESTABLISHED) (not_false (eqb from ESTABLISHED && eqb to ESTABLISHED) h) in
    (is_six from both.0, is_six to both.1)

pub breaks_not : (from to : ℕ) → (from ≡ ESTABLISHED) × (to ≡ ESTABLISHED) → breaks Recorded from to ≡ false
breaks_not from to h = rw (h.0, h.1) refl

abbrev OneIs : ℕ → ℕ → Type 0
OneIs from to = ((from ≡ ESTABLISHED) × (to ≢ ESTABLISHED)) ⊎ ((from ≢ ESTABLISHED) × (to ≡ ESTABLISHED))

pub one_is : (from to : ℕ) → breaks Established from to ≡ true → OneIs from to
one_is from to h = by_tests (eqb from ESTABLISHED) (eqb to ESTABLISHED) refl refl h
  where
    by_tests : (a b : Bool) → eqb from ESTABLISHED ≡ a → eqb to ESTABLISHED ≡ b → cond a (not b) b ≡ true → OneIs from to
    by_tests true true f t e = absurd cc
    by_tests true false f t e = inl (is_six from f, isnt_six to t)
    by_tests false true f t e = inr (isnt_six from f, is_six to t)
    by_tests false false f t e = absurd cc

pub breaks_one : (from to : ℕ) → OneIs from to → breaks Established from to ≡ true
breaks_one from to (inl h) = rw (h.0, other_than_six to h.1) refl
breaks_one from to (inr h) = rw (other_than_six from h.0, h.1) refl

-- ---- as they are recorded

up_by_read : (up : Bool) (payload : Payload) (from to : ℕ) → payload ≡ State from to Recorded → up_after up (event_in payload) ≡ eqb to ESTABLISHED
unfolding event_in
up_by_read up payload from to h = rw h refl

pub up_by_last : (before : List ReplayUnit) (unit : ReplayUnit) (from to : ℕ) → unit.payload ≡ State from to Recorded → is_up (before ++ unit ∷ []) ≡ eqb to ESTABLISHED
up_by_last before unit from to h = is_up-push before unit ∙ up_by_read (is_up before) unit.payload from to h

says_alike : (payload : Payload) → IsByRule Recorded payload → state_says established_by payload ≡ state_says up_by payload
says_alike (State from to rule) h = rw h refl
says_alike (Message bytes width add_path rules) h = refl
says_alike (Entry rules key attrs) h = refl
says_alike Clear h = refl

abbrev said : (StateRule → ℕ → ℕ → Option Bool) → List ReplayUnit → List Bool
said says units = filter_map (λ u. state_says says u.payload) units

said_alike : (units : List ReplayUnit) → AreByRule Recorded units → said established_by units ≡ said up_by units
said_alike [] h = refl
said_alike (u ∷ units) h =
    let first = says_alike u.payload (All-head (λ (unit : ReplayUnit). IsByRule Recorded unit.payload) u units h) in
    let rest = said_alike units (All-tail (λ (unit : ReplayUnit). IsByRule Recorded unit.payload) u units h) in
    λ i. cons_option (first i) (rest i)

pub established_if_up : (units : List ReplayUnit) → AreByRule Recorded units → is_established units ≡ is_up units
established_if_up units h = ap (λ (l : List Bool). unwrap_or (last_or None l) true) (said_alike units h)

-- ---- by Established

up_from : (o : Option Bool) (units : List ReplayUnit) → unwrap_or o true ≡ true → AreByRule Established units → unwrap_or (last_or o (said up_by units)) true ≡ true
up_from o [] e h = e
up_from o (u ∷ units) e h =
    let rest : AreByRule Established units = All-tail (λ (unit : ReplayUnit). IsByRule Established unit.payload) u units h in
    elim u.payload as (λ p. IsByRule Established p → unwrap_or (last_or o (cons_option (state_says up_by p) (said up_by units))) true ≡ true) [
      | State from to rule ↦ λ is. rw is (up_from (Some true) units refl rest)
      | Message bytes width add_path rules ↦ λ is. up_from o units e rest
      | Entry rules key attrs ↦ λ is. up_from o units e rest
      | Clear ↦ λ is. up_from o units e rest
    ] (All-head (λ (unit : ReplayUnit). IsByRule Established unit.payload) u units h)

pub always_up : (units : List ReplayUnit) → AreByRule Established units → is_up units ≡ true
always_up units h = up_from None units refl h

never_idle : (r : Result Event Fault) → (is_routing r && false) ≡ false
never_idle r = elim (is_routing r) as (λ b. (b && false) ≡ false) [ true ↦ refl | false ↦ refl ]

abbrev flags_behind : List ReplayUnit → List ReplayUnit → List Bool
flags_behind before units = flat_map_after (λ b u. (is_routing (reading_of u) && not (is_up b)) ∷ []) before units

none_idle : (before units : List ReplayUnit) → AreByRule Established before → AreByRule Established units → count_by (λ flag. flag) (flags_behind before units) ≡ 0
none_idle before [] b h = refl
none_idle before (u ∷ units) b h =
    let own = All-head (λ (unit : ReplayUnit). IsByRule Established unit.payload) u units h in
    let rest = All-tail (λ (unit : ReplayUnit). IsByRule Established unit.payload) u units h in
    let flag : (is_routing (reading_of u) && not (is_up before)) ≡ false = ap (λ up. is_routing (reading_of u) && not up) (always_up before b) ∙ never_idle (reading_of u) in
    ap (λ f. count_by (λ flag. flag) (f ∷ flags_behind (before ++ u ∷ []) units)) flag
    ∙ none_idle (before ++ u ∷ []) units (All-push (λ (unit : ReplayUnit). IsByRule Established unit.payload) before u b own) rest

pub idle_never : (units : List ReplayUnit) → AreByRule Established units → (churn_of units).idle ≡ 0
unfolding churn_of
idle_never units h = ap stopped (none_idle [] units (All-nil (λ (unit : ReplayUnit). IsByRule Established unit.payload)) h)
