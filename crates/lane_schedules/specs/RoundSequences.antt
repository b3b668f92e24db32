-- Rounds, one after the other.
use Rattle.std.specs.Prelude.{ℕ, List, [], ◌∷◌}
use Rattle.std.specs.List.{filter_map, flat_map}
use Rattle.peer_units.specs.Plain.{Found, Unit as ReplayUnit}
use Rattle.mrt_body.specs.Units.{unit_of}
use Rattle.lane_deal.specs.declared.plan.Plan.{Plan}
use Rattle.lane_deal.specs.declared.step.Step.{Step}
use Rattle.lane_deal.specs.Replayers.{ReplayerState}
use Rattle.lane_deal.specs.Rounds.{PlaysRound, Stops}

-- the replayer after a round, what is to come then, what was dealt and listed, and the answer
pub record RoundState : Type 0 where
  pub replayer : ReplayerState
  pub left : List Found
  pub done : List Found
  pub step : Step

-- each goes on from where the one before left the replayer and the files
abbrev pub AreRounds : (ℕ → ℕ → ℕ) → Plan → ReplayerState → List Found → List RoundState → Type 0
AreRounds dealing plan r coming [] = Unit {0}
AreRounds dealing plan r coming (round ∷ rounds) =
    PlaysRound dealing plan.ring plan.batch r round.replayer coming round.left round.done ×
    Stops dealing plan r round.replayer round.left (filter_map unit_of round.done) round.step
    × AreRounds dealing plan round.replayer round.left rounds

-- the units that were dealt in them
abbrev pub dealt_in : List RoundState → List ReplayUnit
dealt_in rounds = flat_map (λ round. filter_map unit_of round.done) rounds
