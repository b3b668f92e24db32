-- What the replay of files into tables gives, apart from any report.
use Rattle.std.specs.Prelude.{◌≡◌, ℕ, ◌+◌, ◌-◌, ◌*◌, ◌/◌, ◌^◌, ◌<◌, ◌≤◌, min, List, ◌++◌, Option, None, option_to_list, length}
use Rattle.std.specs.List.{filter_map}
use Rattle.peer_units.specs.declared.unit.Damage.{Damage}
use Rattle.peer_units.specs.Plain.{Unit as ReplayUnit}
use Rattle.mrt_body.specs.Units.{units_of, refused_of, records_of, aside_of, unit_of}
use Rattle.mrt_body.specs.ToCome.{UnitsState}
use Rattle.peer_tables.specs.Tables.{tables_of, chosen_tables}
use Rattle.peer_units.specs.Choices.{UnitSelection, choices_of}
use Rattle.lane_deal.specs.declared.plan.Plan.{Plan}
use Rattle.lane_deal.specs.Replayers.{ReplayerState, ReplayerStandsFor}
use Rattle.lane_deal.specs.Rounds.{IsSettled}
use Rattle.history_replay.specs.FilesTaken.{HasTakenFiles}
use Rattle.mrt_replay.specs.declared.replayed.Replayed.{Replayed}

-- ---- rounds

-- These units came: a replayer dealt all but the one that is blocked.
pub record DealtAll (dealing : ℕ → ℕ → ℕ) (capacity : ℕ) (r : ReplayerState) (units : List ReplayUnit)
    (refused : List Damage) : Type 0 where
  pub dealt : List ReplayUnit
  pub whole : units ≡ dealt ++ option_to_list r.blocked_unit
  pub stands : ReplayerStandsFor dealing capacity dealt refused r

-- Rounds to the end: the replayer took all that was to come, and no unit is blocked. There were few of them, but enough
-- to deal each unit in a batch; they are counted, up to the greatest count.
pub record HasPlayed (dealing : ℕ → ℕ → ℕ) (plan : Plan) (before after : ReplayerState) (start now : UnitsState)
    (told : List (Option (List ℕ))) (rounds rounds' : ℕ) : Type 0 where
  pub taken : HasTakenFiles (DealtAll dealing plan.ring) start now told before after
  pub none : after.blocked_unit ≡ None
  pub played : ℕ
  pub some : 0 < played
  pub counted : min (rounds + played) (2 ^ 64 - 1) ≤ rounds'
  pub batches : before.blocked_unit ≡ None → length (filter_map unit_of taken.items) ≤ played * plan.batch
  pub few : IsSettled before → before.blocked_unit ≡ None →
      rounds' ≤ (rounds + 1)
      + (2 * length (filter_map unit_of taken.items) / plan.ring + length (filter_map unit_of taken.items) / plan.batch)

-- ---- the whole replay

-- The tables stand for the units and refusals of the files, which are counted; the chosen routes of chosen prefixes alone
-- are left.
pub record IsReplayOf {M A : Type 0} (selection : UnitSelection) (plan : Plan) (files : List (List ℕ)) (r : Replayed M A) : Type 0 where
  pub stands : r.tables
      ≡ chosen_tables (choices_of selection) (tables_of (units_of selection files) (refused_of selection files))
  pub records_counted : r.records ≡ records_of files
  pub units_counted : r.units ≡ length (units_of selection files)
  pub aside_counted : r.aside ≡ aside_of selection files
  pub few_rounds : r.rounds ≤ 2 * r.units / plan.ring + r.units / plan.batch + 2
  pub two_rounds : 2 ≤ r.rounds
  pub enough_rounds : r.units ≤ (r.rounds - 1) * plan.batch
