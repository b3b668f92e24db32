-- What a replayer shows, and what its rounds do with the files.
use Rattle.std.specs.Prelude.{◌≡◌, ℕ, List, ◌++◌, map, drop, Option, Some, None, Result, Ok, IfOk, OnOk, OnErr}
use Rattle.std.specs.List.{filter_map}
use Rattle.mrt_frame.specs.declared.error.ReplayError.{ReplayError}
use Rattle.peer_units.specs.Plain.{Found}
use Rattle.mrt_body.specs.Units.{unit_of}
use Rattle.mrt_body.specs.ToCome.{UnitsState, found_to_come}
use Rattle.lane_deal.specs.declared.plan.Plan.{Plan}
use Rattle.lane_deal.specs.declared.replayer.Replayer.{Replayer}
use Rattle.lane_deal.specs.declared.step.Step.{Step}
use Rattle.lane_deal.specs.declared.step.Step.TheVariants.{End}
use Rattle.lane_deal.specs.Results.{is_spent}
use Rattle.lane_deal.specs.Asking.{TakesUnits, GivesFront, GivesAll, StopsBehind}
use Rattle.lane_deal.specs.Replayers.{ReplayerState}
use Rattle.lane_deal.specs.Rounds.{PlaysRound, Stops}
use Rattle.lane_deal.specs.Shown.{state_at}

abbrev pub shown : {M D A : Type 0} {g a h u : _} → Replayer M D A g a h u → ReplayerState
shown r = state_at r.dealer r.senders.items r.workers.items (is_spent r.state)

-- where the bytes of the current and the later files are known, this is to come of them behind what was given
abbrev pub IsLeft : UnitsState → List (Option (List ℕ)) → List Found → List Found → Type 0
IsLeft u known given left = (contents : List (List ℕ)) × (drop u.file known ≡ map (λ bytes. Some bytes) contents) ×
    (found_to_come u contents ≡ given ++ left)

-- A round was given these by the files, in order, and dealt or listed those of the blocked unit and these; whatever the
-- files give behind them is left. Where a read failed, these are all that stand before it, and none is blocked.
pub record PlaysOn (dealing : ℕ → ℕ → ℕ) (plan : Plan) (old new : ReplayerState) (u : UnitsState)
    (known : List (Option (List ℕ))) (u' : UnitsState) (known' : List (Option (List ℕ)))
    (result : Result Step ReplayError) : Type 0 where
  pub given : List Found
  pub done : List Found
  pub gives : GivesFront u known given
  pub takes : OnOk result (TakesUnits u known u' known' given)
  pub plays : (left : List Found) → PlaysRound dealing plan.ring plan.batch old new (given ++ left) left done
  pub stops : IfOk result (λ step. (left : List Found) → (step ≡ End → IsLeft u known given left) →
      Stops dealing plan old new left (filter_map unit_of done) step)
  pub ended : result ≡ Ok End → (new.blocked_unit ≡ None) × GivesAll u known given
  pub nothing_kept : OnErr result (new.blocked_unit ≡ None)
  pub behind : OnErr result (StopsBehind u known u' known' given)
