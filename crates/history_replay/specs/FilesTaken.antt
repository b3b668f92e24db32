-- Files that are taken as they are read, one unit or refusal after the other.
use Rattle.std.specs.Prelude.{◌≡◌, ℕ, ◌+◌, ◌<◌, ◌≤◌, ⊤, List, ◌++◌, Option, Some, drop, map, length, slice_index}
use Rattle.std.specs.List.{count_by, filter_map}
use Rattle.mrt_frame.specs.Devices.{HasFailed}
use Rattle.mrt_frame.specs.declared.error.ReplayError.{ReplayError}
use Rattle.mrt_frame.specs.declared.error.ReplayError.TheVariants as errors
use Rattle.peer_units.specs.declared.unit.Damage.{Damage}
use Rattle.peer_units.specs.Plain.{Found}
use Rattle.peer_units.specs.Plain.{Unit as ReplayUnit}
use Rattle.mrt_body.specs.Units.{records_of, unit_of, damage_of, is_whole, is_aside}
use Rattle.mrt_body.specs.ToCome.{UnitsState, TakesFound, HasMoreRecords, found_to_come, cuts_to_come, most_units_left}

-- These units and refusals came in between, and all of them were taken by what takes them. `Took` says which units and
-- refusals it took in all.
pub record HasTaken {T : Type 0} (Took : T → List ReplayUnit → List Damage → Type 0) (start now : UnitsState)
    (told left : List (Option (List ℕ))) (before after : T) : Type 0 where
  pub items : List Found
  pub came : TakesFound start told now left items
  pub took : (units : List ReplayUnit) (refused : List Damage) → Took before units refused →
      Took after (units ++ filter_map unit_of items) (refused ++ filter_map damage_of items)
  pub few : length (filter_map unit_of items) + most_units_left now ≤ most_units_left start

-- All that was to come was taken, and the records were counted.
pub record HasTakenFiles {T : Type 0} (Took : T → List ReplayUnit → List Damage → Type 0) (start now : UnitsState)
    (told : List (Option (List ℕ))) (before after : T) : Type 0 where
  pub items : List Found
  pub came : (contents : List (List ℕ)) → drop start.file told ≡ map (λ bytes. Some bytes) contents →
      found_to_come start contents ≡ items
  pub records : (contents : List (List ℕ)) → drop start.file told ≡ map (λ bytes. Some bytes) contents →
      start.records + count_by is_whole (cuts_to_come start contents) ≡ now.records
  pub aside : (contents : List (List ℕ)) → drop start.file told ≡ map (λ bytes. Some bytes) contents →
      start.aside + count_by (is_aside start.selection) (cuts_to_come start contents) ≡ now.aside
  pub took : (units : List ReplayUnit) (refused : List Damage) → Took before units refused →
      Took after (units ++ filter_map unit_of items) (refused ++ filter_map damage_of items)
  pub few : length (filter_map unit_of items) ≤ most_units_left start

-- why the files can't be taken to their ends
abbrev pub StopsFiles : UnitsState → List (Option (List ℕ)) → List ℕ → List ℕ → ReplayError → Type 0
StopsFiles start told before after (errors.Read file) = HasFailed (slice_index before file) (slice_index after file)
StopsFiles start told before after errors.Write = ⊥
StopsFiles start told before after errors.Memory = ⊤
StopsFiles start told before after errors.Records = HasMoreRecords start told
StopsFiles start told before after errors.Spent = ⊥

-- Why a replay of files stops, of which these bytes are known: a reader failed, memory ran out, or there are more
-- records than the limit.
abbrev pub StopsReplay : ℕ → List (Option (List ℕ)) → List ℕ → List ℕ → ReplayError → Type 0
StopsReplay max_records told before after (errors.Read file) = (file < length before) ×
    HasFailed (slice_index before file) (slice_index after file)
StopsReplay max_records told before after errors.Write = ⊥
StopsReplay max_records told before after errors.Memory = ⊤
StopsReplay max_records told before after errors.Records = (files : List (List ℕ)) →
    told ≡ map (λ bytes. Some bytes) files → max_records < records_of files
StopsReplay max_records told before after errors.Spent = ⊥
