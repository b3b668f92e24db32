-- Readings of files join, and one to the end gave all that the files hold.
use Rattle.std.proofs.Common.{◌≡◌, ℕ, List, [], ◌∷◌, ◌++◌, length, map, drop, Option, Some, refl, sym, ap, ◌∙◌, arith, append-nil}
use Rattle.std.specs.List.{count_by}
use Rattle.std.proofs.lemmas.List.{drop_all}
use Rattle.mrt_frame.specs.declared.error.ReplayError.TheVariants.{Read}
use Rattle.peer_units.specs.Choices.{UnitSelection}
use Rattle.peer_units.specs.Plain.{Found}
use Rattle.mrt_body.specs.Units.{found_in, records_of, aside_of, is_whole, is_aside}
use Rattle.mrt_body.specs.ToCome.{UnitsState, TakesFound, HasEnded, GivesAllBefore, FailsBehind, fresh_units, as_found, found_to_come, cuts_to_come}
use Rattle.mrt_body.proofs.FilesLaws.{fresh_found, fresh_cuts}

abbrev Bytes : Type 0
Bytes = List ℕ

abbrev known_all : List Bytes → List (Option Bytes)
known_all contents = map (λ bytes. Some bytes) contents

none_known : (rest : List Bytes) → [] ≡ known_all rest → rest ≡ []
none_known [] e = refl
none_known (bytes ∷ later) e = absurd cc

module _ (count max_records : ℕ) (selection : UnitSelection) (last : UnitsState) (contents : List Bytes) (left : List (Option Bytes)) (given : List Found) where
  abbrev Gave : Type 0
  Gave = TakesFound (fresh_units count max_records selection) (known_all contents) last left given

  pub gave_front : Gave → (rest : List Found) × (found_in selection contents ≡ given ++ rest)
  gave_front gave =
      let t = gave contents refl in
      (found_to_come last t.0, sym (fresh_found count max_records selection contents) ∙ t.2.found)

  -- up to a read that failed
  pub gave_before : (file : ℕ) (stopped : UnitsState) (after : List (Option Bytes)) → Gave → GivesAllBefore last left stopped after (Read file) → FailsBehind (fresh_units count max_records selection) contents stopped after given
  gave_before file stopped after gave before =
      let t = gave contents refl in
      let f = before t.0 t.1 in
      record {
        part = f.part;
        fault = f.fault;
        bytes = f.bytes;
        later = f.later;
        broken = f.broken;
        left = f.left;
        passes = record {
          found = t.2.found ∙ ap (λ (l : List Found). given ++ l) f.passes.found;
          records = t.2.records ∙ f.passes.records;
          aside = t.2.aside ∙ f.passes.aside;
        };
      }

  pub gave_all : Gave → HasEnded last → length left ≡ last.count → (given ≡ found_in selection contents) × (last.records ≡ records_of contents) × (last.aside ≡ aside_of selection contents)
  gave_all gave ended size =
      let t = gave contents refl in
      let past : drop last.file left ≡ [] = drop_all last.file left (omega (arith, size, ended.1)) in
      let none : t.0 ≡ [] = none_known t.0 (sym past ∙ t.1) in
      let nothing : found_to_come last t.0 ≡ [] = ap (found_to_come last) none ∙ ap (λ units. as_found units ++ []) ended.2 in
      let no_cuts : cuts_to_come last t.0 ≡ [] = ap (cuts_to_come last) none in
      let cuts = fresh_cuts count max_records selection contents in
      let whole : last.records ≡ records_of contents = omega (arith, t.2.records, ap (count_by is_whole) no_cuts, ap (count_by is_whole) cuts) in
      let aside : last.aside ≡ aside_of selection contents = omega (arith, t.2.aside, ap (count_by (is_aside last.selection)) no_cuts, ap (count_by (is_aside selection)) cuts) in
      (sym (sym (fresh_found count max_records selection contents) ∙ t.2.found ∙ ap (λ (l : List Found). given ++ l) nothing ∙ append-nil given), whole, aside)
