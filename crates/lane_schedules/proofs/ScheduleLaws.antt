-- Each event keeps every lane's units in their order.
use Rattle.std.proofs.Common.{◌≡◌, ℕ, Bool, true, false, cond, eqb, if◌then◌else◌, List, [], ◌∷◌, ◌++◌, refl, sym, ap, ◌∙◌, append_assoc}
use Rattle.std.proofs.lemmas.List.{append-nil}
use Rattle.std.specs.List.{filter, fold}
use Rattle.std.proofs.lemmas.Bool.{eqb-true}
use Rattle.std.proofs.lemmas.List.Elements.{filter-append}
use Rattle.peer_units.specs.Plain.{Unit as ReplayUnit}
use Rattle.lane_schedules.specs.declared.turn.Turn.{Turn}
use Rattle.lane_schedules.specs.declared.turn.Turn.TheVariants.{Deal, Take}
use Rattle.lane_deal.specs.Lanes.{lane_of_unit, lane_units}
use Rattle.lane_schedules.specs.Schedules.{LanesState, start, dealt, took, after_turn, after_turns, IsShared}
use Rattle.unit_rings.proofs.Lists.{all_more, filter_alike}
use Rattle.lane_deal.proofs.Classes.{of_class}
use Rattle.lane_deal.proofs.Peers.{numbers_stay}

module _ (lane_of : ReplayUnit → ℕ) (units : List ReplayUnit) where
  -- the same, by the lanes of the units
  record SharedBy (s : LanesState) : Type 0 where
    pub dealt : List ReplayUnit
    pub whole : dealt ++ s.undealt ≡ units
    pub lanes : (lane : ℕ) → s.taken lane ++ s.ring lane ≡ of_class lane_of dealt lane

  -- one unit more at the end of a ring
  pushed : (taken ring own before : List ReplayUnit) (unit : ReplayUnit) (b : Bool) → (b ≡ true → own ≡ ring) → taken ++ ring ≡ before
      → taken ++ (if b then own ++ unit ∷ [] else ring) ≡ before ++ cond b (unit ∷ []) []
  pushed taken ring own before unit true same h = ap (λ l. taken ++ (l ++ unit ∷ [])) (same refl) ∙ sym (append_assoc taken ring (unit ∷ [])) ∙ ap (λ l. l ++ unit ∷ []) h
  pushed taken ring own before unit false same h = h ∙ sym (append-nil before)

  -- the first unit of a ring is the next that is taken
  popped : (taken ring own rest from : List ReplayUnit) (unit : ReplayUnit) (b : Bool) → (b ≡ true → (own ≡ taken) × (from ≡ ring)) → from ≡ unit ∷ rest
      → (if b then own ++ unit ∷ [] else taken) ++ (if b then rest else ring) ≡ taken ++ ring
  popped taken ring own rest from unit true same e =
      let p = same refl in
      ap (λ l. (l ++ unit ∷ []) ++ rest) p.0 ∙ append_assoc taken (unit ∷ []) rest ∙ ap (λ l. taken ++ l) (sym e ∙ p.1)
  popped taken ring own rest from unit false same e = refl

  shared_dealt : (s : LanesState) (rest : List ReplayUnit) → s.undealt ≡ rest → SharedBy s → SharedBy (dealt lane_of s rest)
  shared_dealt s [] e p = p
  shared_dealt s (unit ∷ rest) e p =
      let own = lane_of unit in
      record {
        dealt = p.dealt ++ unit ∷ [];
        whole = append_assoc p.dealt (unit ∷ []) rest ∙ ap (λ l. p.dealt ++ l) (sym e) ∙ p.whole;
        lanes = λ lane.
            pushed (s.taken lane) (s.ring lane) (s.ring own) (of_class lane_of p.dealt lane) unit (eqb own lane) (λ t. ap s.ring (eqb-true own lane t)) (p.lanes lane)
            ∙ sym (filter-append (λ u. eqb (lane_of u) lane) p.dealt (unit ∷ []));
      }

  shared_took : (lane : ℕ) (s : LanesState) (rest : List ReplayUnit) → s.ring lane ≡ rest → SharedBy s → SharedBy (took lane s rest)
  shared_took lane s [] e p = p
  shared_took lane s (unit ∷ rest) e p =
      record {
        dealt = p.dealt;
        whole = p.whole;
        lanes = λ other.
            popped (s.taken other) (s.ring other) (s.taken lane) rest (s.ring lane) unit (eqb lane other) (λ t. let same = eqb-true lane other t in (ap s.taken same, ap s.ring same)) e
            ∙ p.lanes other;
      }

  shared_turn : (s : LanesState) (turn : Turn) → SharedBy s → SharedBy (after_turn lane_of s turn)
  shared_turn s Deal p = shared_dealt s s.undealt refl p
  shared_turn s (Take lane) p = shared_took lane s (s.ring lane) refl p

  shared_turns : (turns : List Turn) (s : LanesState) → SharedBy s → SharedBy (fold (after_turn lane_of) s turns)
  shared_turns [] s p = p
  shared_turns (turn ∷ turns) s p = shared_turns turns (after_turn lane_of s turn) (shared_turn s turn p)

  shared : (turns : List Turn) → SharedBy (fold (after_turn lane_of) (start units) turns)
  shared turns = shared_turns turns (start units) (record { dealt = []; whole = refl; lanes = λ lane. refl })

-- the lanes of units, told by their own numbers, stay when more units come
pub lane_units-front : (lane_of : ℕ → ℕ) (units more : List ReplayUnit) (lane : ℕ) → filter (λ u. eqb (lane_of_unit lane_of (units ++ more) u) lane) units ≡ lane_units lane_of units lane
lane_units-front lane_of units more lane =
    filter_alike (λ u. eqb (lane_of_unit lane_of (units ++ more) u) lane) (λ u. eqb (lane_of_unit lane_of units u) lane) units
    (all_more units (λ u same. ap (λ n. eqb (lane_of n) lane) same) (numbers_stay units more))

-- after any events each lane has its units of those dealt
pub IsShared-after_turns : (lane_of : ℕ → ℕ) (units : List ReplayUnit) (turns : List Turn) → IsShared lane_of units (after_turns lane_of units turns)
IsShared-after_turns lane_of units turns =
    let p = shared (lane_of_unit lane_of units) units turns in
    let s = after_turns lane_of units turns in
    record {
      dealt = p.dealt;
      whole = p.whole;
      lanes = λ lane.
          p.lanes lane
          ∙ ap (λ all. filter (λ u. eqb (lane_of_unit lane_of all u) lane) p.dealt) (sym p.whole)
          ∙ lane_units-front lane_of p.dealt s.undealt lane;
    }

-- where all are dealt and none waits, each lane took its units
pub taken_whole : (lane_of : ℕ → ℕ) (units : List ReplayUnit) (turns : List Turn) (lane : ℕ) → (after_turns lane_of units turns).undealt ≡ [] → (after_turns lane_of units turns).ring lane ≡ []
    → (after_turns lane_of units turns).taken lane ≡ lane_units lane_of units lane
taken_whole lane_of units turns lane none idle =
    let s = after_turns lane_of units turns in
    let p = IsShared-after_turns lane_of units turns in
    let all : p.dealt ≡ units = sym (append-nil p.dealt) ∙ ap (λ l. p.dealt ++ l) (sym none) ∙ p.whole in
    sym (append-nil (s.taken lane)) ∙ ap (λ l. s.taken lane ++ l) (sym idle) ∙ p.lanes lane ∙ ap (λ l. lane_units lane_of l lane) all
