-- The lanes as a machine of two events: a unit is dealt, and a unit is taken.
use Rattle.std.specs.Prelude.{◌≡◌, ℕ, List, [], ◌∷◌, ◌++◌, ◌==◌, if◌then◌else◌}
use Rattle.std.specs.List.{fold}
use Rattle.peer_units.specs.Plain.{Unit as ReplayUnit}
use Rattle.lane_schedules.specs.declared.turn.Turn.{Turn}
use Rattle.lane_schedules.specs.declared.turn.Turn.TheVariants.{Deal, Take}
use Rattle.lane_deal.specs.Lanes.{lane_of_unit, lane_units}

-- the units that are not dealt yet, and of each lane those that wait in its ring and those that it took
pub record LanesState : Type 0 where
  pub undealt : List ReplayUnit
  pub ring : ℕ → List ReplayUnit
  pub taken : ℕ → List ReplayUnit

-- nothing is dealt
abbrev pub start : List ReplayUnit → LanesState
start units = record { undealt = units; ring = λ lane. []; taken = λ lane. [] }

-- the lists of all lanes, with this one for one lane
abbrev pub with_list : (ℕ → List ReplayUnit) → ℕ → List ReplayUnit → ℕ → List ReplayUnit
with_list lists lane list other = if lane == other then list else lists other

-- the first of the units that are not dealt goes to the end of its lane's ring
abbrev pub dealt : (ReplayUnit → ℕ) → LanesState → List ReplayUnit → LanesState
dealt lane_of s [] = s
dealt lane_of s (unit ∷ units) =
    record {
      undealt = units;
      ring = with_list s.ring (lane_of unit)
          (s.ring (lane_of unit) ++ unit ∷ []);
      taken = s.taken;
    }

-- the first of the units in a lane's ring goes to the end of what the lane took
abbrev pub took : ℕ → LanesState → List ReplayUnit → LanesState
took lane s [] = s
took lane s (unit ∷ units) =
    record {
      undealt = s.undealt;
      ring = with_list s.ring lane units;
      taken = with_list s.taken lane
          (s.taken lane ++ unit ∷ []);
    }

-- after one event; one that finds nothing changes nothing
abbrev pub after_turn : (ReplayUnit → ℕ) → LanesState → Turn → LanesState
after_turn lane_of s Deal = dealt lane_of s s.undealt
after_turn lane_of s (Take lane) = took lane s (s.ring lane)

-- after these events, in order, where at first none of these units is dealt
abbrev pub after_turns : (ℕ → ℕ) → List ReplayUnit → List Turn → LanesState
after_turns lane_of units turns = fold (after_turn (lane_of_unit lane_of units)) (start units) turns

-- What each lane took and what waits in its ring are, in order, its units among those dealt; the others are not dealt.
pub record IsShared (lane_of : ℕ → ℕ) (units : List ReplayUnit) (s : LanesState) : Type 0 where
  pub dealt : List ReplayUnit
  pub whole : dealt ++ s.undealt ≡ units
  pub lanes : (lane : ℕ) → s.taken lane ++ s.ring lane ≡ lane_units lane_of dealt lane
