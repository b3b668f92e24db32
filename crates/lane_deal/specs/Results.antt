-- What rounds answer.
use Rattle.std.specs.Prelude.{◌≡◌, ℕ, Bool, true, false, Result, MatchResult}
use Rattle.mrt_frame.specs.Frames.{state_of_error}
use Rattle.mrt_frame.specs.declared.error.ReplayError.{ReplayError}
use Rattle.mrt_frame.specs.declared.error.ReplayError.TheVariants as errors
use Rattle.mrt_frame.specs.declared.read_state.ReadState.{ReadState}
use Rattle.mrt_frame.specs.declared.read_state.ReadState.TheVariants.{Reading, Ended, Failed, Spent}
use Rattle.lane_deal.specs.declared.step.Step.{Step}
use Rattle.lane_deal.specs.declared.step.Step.TheVariants.{Blocked, FullBatch, End}

-- what holds of a call that answered, or whose read failed
abbrev pub IfAnswered : {A : Type 0} → Result A ReplayError → Type 0 → Type 0
IfAnswered result P = MatchResult result (λ _. P) (λ e. (file : ℕ) → e ≡ errors.Read file → P)

abbrev pub is_spent : ReadState → Bool
is_spent Reading = false
is_spent Ended = false
is_spent Failed = false
is_spent Spent = true

-- what a replayer can still do after this answer
abbrev pub state_of_step : Step → ReadState
state_of_step Blocked = Reading
state_of_step FullBatch = Reading
state_of_step End = Ended

abbrev pub StateAfter : Result Step ReplayError → ReadState → Type 0
StateAfter result state = MatchResult result (λ step. state ≡ state_of_step step) (λ e. state ≡ state_of_error e)
