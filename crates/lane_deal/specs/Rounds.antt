-- What a round does between two states of a replayer, and why it stops dealing.
use Rattle.std.specs.Prelude.{◌≡◌, ℕ, ◌+◌, ◌≤◌, List, [], ◌∷◌, ◌++◌, length, Some, None, slice_get, ◌==◌}
use Rattle.std.specs.List.{filter_map, flat_map, count_by, position_or_len}
use Rattle.peer_units.specs.declared.unit.Damage.{Damage}
use Rattle.peer_units.specs.Plain.{Found, Unit as ReplayUnit}
use Rattle.mrt_body.specs.Units.{unit_of, damage_of}
use Rattle.peer_tables.specs.Peers.{peer_eq}
use Rattle.lane_deal.specs.declared.plan.Plan.{Plan}
use Rattle.lane_deal.specs.declared.step.Step.{Step}
use Rattle.lane_deal.specs.declared.step.Step.TheVariants.{Blocked, FullBatch, End}
use Rattle.lane_deal.specs.ToDeal.{to_deal}
use Rattle.lane_deal.specs.Replayers.{LaneState, ReplayerState, ReplayerStandsFor}

-- the lane of a unit, by the numbers that a replayer gave
abbrev pub lane_in : (ℕ → ℕ → ℕ) → ReplayerState → ReplayUnit → ℕ
lane_in dealing r unit = dealing (position_or_len (peer_eq unit.peer) r.peers) (length r.lanes)

-- how many of these units belong to a lane
abbrev pub share_of : (ℕ → ℕ → ℕ) → ReplayerState → ℕ → List ReplayUnit → ℕ
share_of dealing r lane units = count_by (λ unit. lane_in dealing r unit == lane) units

-- What a round, or as much of it as a failed read left, did with what was to come: these are, in order, the units that
-- it dealt and the refusals that it listed. The next one is blocked or still to come. It dealt at most a batch. What
-- waited in a ring was taken.
pub record PlaysRound (dealing : ℕ → ℕ → ℕ) (capacity batch : ℕ) (old new : ReplayerState)
    (coming left done : List Found) : Type 0 where
  pub order : to_deal old.blocked_unit coming ≡ done ++ to_deal new.blocked_unit left
  pub few : length (filter_map unit_of done) ≤ batch
  pub lanes : length new.lanes ≡ length old.lanes
  pub stands : (units : List ReplayUnit) (refused : List Damage) → ReplayerStandsFor dealing capacity units refused old
      → ReplayerStandsFor dealing capacity (units ++ filter_map unit_of done) (refused ++ filter_map damage_of done) new
  pub taken : (lane : ℕ) (state : LaneState) → slice_get new.lanes lane ≡ Some state →
      length state.ring.sent ≤ share_of dealing new lane (filter_map unit_of done)

-- ---- why it stopped

-- a unit is blocked, and those that waited in its lane and those dealt there would fill its ring
abbrev pub IsBlocked : (ℕ → ℕ → ℕ) → ℕ → ReplayerState → ReplayerState → List ReplayUnit → Type 0
IsBlocked dealing capacity old new dealt =
    (unit : ReplayUnit) × (state : LaneState) × (new.blocked_unit ≡ Some unit) ×
    (slice_get old.lanes (lane_in dealing new unit) ≡ Some state)
    × (capacity ≤ length state.ring.sent + share_of dealing new (lane_in dealing new unit) dealt)

-- what the answer of a round says: a unit came back from a full ring, a batch is dealt, or none is blocked and nothing
-- to come
abbrev pub Stops : (ℕ → ℕ → ℕ) → Plan → ReplayerState → ReplayerState → List Found → List ReplayUnit → Step → Type 0
Stops dealing plan old new left dealt Blocked = IsBlocked dealing plan.ring old new dealt
Stops dealing plan old new left dealt FullBatch = length dealt ≡ plan.batch
Stops dealing plan old new left dealt End = (new.blocked_unit ≡ None) × (left ≡ [])

-- ---- all is taken

-- nothing waits
abbrev pub IsSettled : ReplayerState → Type 0
IsSettled r = (lane : ℕ) (state : LaneState) → slice_get r.lanes lane ≡ Some state → state.ring.sent ≡ []

-- A settling takes what waits and changes nothing else.
pub record Settles (dealing : ℕ → ℕ → ℕ) (capacity : ℕ) (old new : ReplayerState) : Type 0 where
  pub settled : IsSettled new
  pub blocked_unit : new.blocked_unit ≡ old.blocked_unit
  pub stands : (units : List ReplayUnit) (refused : List Damage) →
      ReplayerStandsFor dealing capacity units refused old → ReplayerStandsFor dealing capacity units refused new
