-- Files taken to their ends, one unit or refusal after the other.
use Rattle.std.proofs.Common.{◌≡◌, inl, inr, ℕ, zero, suc, ◌+◌, ◌-◌, ◌^◌, ◌≤◌, ◌<◌, List, [], ◌∷◌, ◌++◌, Option, Some, refl, sym, ap, ◌∙◌, subst, arith, map, length, drop, append_assoc}
use Rattle.std.specs.Prelude.{slice_index}
use Rattle.std.specs.List.{filter_map, count_by}
use Rattle.std.proofs.Common.{length-append, length-drop}
use Rattle.std.proofs.lemmas.List.{append-nil}
use Rattle.std.proofs.lemmas.List.Elements.{filter_map-append}
use Rattle.mrt_frame.specs.declared.error.ReplayError.{ReplayError}
use Rattle.mrt_frame.specs.declared.error.ReplayError.TheVariants as errors
use Rattle.mrt_frame.specs.Devices.{HasFailed}
use Rattle.peer_units.specs.Choices.{UnitSelection}
use Rattle.peer_units.specs.declared.unit.Damage.{Damage}
use Rattle.peer_units.specs.Plain.{Found}
use Rattle.peer_units.specs.declared.unit.Found.TheVariants as found
use Rattle.peer_units.specs.Plain.{Unit as ReplayUnit}
use Rattle.mrt_body.specs.Units.{unit_of, damage_of, units_of, refused_of, records_of, aside_of, found_in, all_cuts, is_whole, is_aside}
use Rattle.mrt_body.proofs.FilesLaws.{TakesFound-more}
use Rattle.mrt_body.specs.ToCome.{UnitsState, TakesFound, NothingToCome, found_to_come, cuts_to_come, most_units_left, fresh_units}
use Rattle.history_replay.specs.FilesTaken.{HasTaken, HasTakenFiles, StopsFiles, StopsReplay}

abbrev Bytes : Type 0
Bytes = List ℕ

abbrev known_all : List Bytes → List (Option Bytes)
known_all contents = map (λ bytes. Some bytes) contents

pub none_known : (n : ℕ) (known : List (Option Bytes)) (rest : List Bytes) → length known ≡ n → drop n known ≡ known_all rest → rest ≡ []
none_known n known [] size e = refl
none_known n known (bytes ∷ rest) size e =
    let short : length (drop n known) ≡ length (known_all (bytes ∷ rest)) = ap length e in
    let none : length (drop n known) ≡ length known - n = length-drop n known in
    absurd (omega (arith, short, none, size))

module _ {T : Type 0} (Took : T → List ReplayUnit → List Damage → Type 0) where
  pub taken_none : (u : UnitsState) (told : List (Option Bytes)) (t : T) → HasTaken Took u u told told t t
  taken_none u told t = record {
    items = [];
    came = λ contents known. (contents, known, record { found = refl; records = refl; aside = refl });
    took = λ units refused h. subst (λ l. Took t l (refused ++ [])) (sym (append-nil units)) (subst (λ r. Took t units r) (sym (append-nil refused)) h);
    few = omega arith;
  }

  module _ (start now next : UnitsState) (told left later : List (Option Bytes)) (before t : T) (h : HasTaken Took start now told left before t) where
    pub taken_more : (item : Found) (t' : T) → TakesFound now left next later (item ∷ []) → length (filter_map unit_of (item ∷ [])) + most_units_left next ≤ most_units_left now
        → ((units : List ReplayUnit) (refused : List Damage) → Took t units refused → Took t' (units ++ filter_map unit_of (item ∷ [])) (refused ++ filter_map damage_of (item ∷ [])))
        → HasTaken Took start next told later before t'
    taken_more item t' step fewer took =
        let items = h.items ++ item ∷ [] in
        let units_are : filter_map unit_of items ≡ filter_map unit_of h.items ++ filter_map unit_of (item ∷ []) = filter_map-append unit_of h.items (item ∷ []) in
        let refused_are : filter_map damage_of items ≡ filter_map damage_of h.items ++ filter_map damage_of (item ∷ []) = filter_map-append damage_of h.items (item ∷ []) in
        record {
          items = items;
          came = TakesFound-more start now next told left later h.items (item ∷ []) h.came step;
          took = λ units refused first.
              subst (λ l. Took t' l (refused ++ filter_map damage_of items)) (append_assoc units (filter_map unit_of h.items) (filter_map unit_of (item ∷ [])) ∙ ap (λ l. units ++ l) (sym units_are))
              (subst (λ r. Took t' ((units ++ filter_map unit_of h.items) ++ filter_map unit_of (item ∷ [])) r) (append_assoc refused (filter_map damage_of h.items) (filter_map damage_of (item ∷ [])) ∙ ap (λ l. refused ++ l) (sym refused_are))
              (took (units ++ filter_map unit_of h.items) (refused ++ filter_map damage_of h.items) (h.took units refused first)));
          few = omega (arith, h.few, fewer, ap length units_are, length-append (filter_map unit_of h.items) (filter_map unit_of (item ∷ [])));
        }

    -- at the end of the last file
    pub taken_all : TakesFound now left next later [] → NothingToCome now left → next.file ≡ next.count → length later ≡ next.count → HasTakenFiles Took start next told before t
    taken_all step ended at_end size = record {
      items = h.items;
      came = λ contents known.
          let x = h.came contents known in
          x.2.found ∙ ap (λ l. h.items ++ l) (ended x.0 x.1) ∙ append-nil h.items;
      records = λ contents known.
          let x = h.came contents known in
          let y = step x.0 x.1 in
          let none : y.0 ≡ [] = none_known next.file later y.0 (size ∙ sym at_end) y.1 in
          let last : count_by is_whole (cuts_to_come next y.0) ≡ 0 = ap (λ l. count_by is_whole (cuts_to_come next l)) none in
          omega (arith, x.2.records, y.2.records, last);
      aside = λ contents known.
          let x = h.came contents known in
          let y = step x.0 x.1 in
          let none : y.0 ≡ [] = none_known next.file later y.0 (size ∙ sym at_end) y.1 in
          let last : count_by (is_aside next.selection) (cuts_to_come next y.0) ≡ 0 = ap (λ l. count_by (is_aside next.selection) (cuts_to_come next l)) none in
          omega (arith, x.2.aside, y.2.aside, last);
      took = h.took;
      few = omega (arith, h.few);
    }

-- ---- a reading from the start

-- a count that has risen stands in the list
pub failed_within : (before after : List ℕ) (file : ℕ) → length after ≡ length before → HasFailed (slice_index before file) (slice_index after file) → file < length before
failed_within [] [] file size (inl h) = absurd (omega (arith, h))
failed_within [] [] file size (inr h) = absurd (omega (arith, h))
failed_within [] (y ∷ after) file size h = absurd (omega (arith, size))
failed_within (x ∷ before) [] file size h = absurd (omega (arith, size))
failed_within (x ∷ before) (y ∷ after) zero size h = omega arith
failed_within (x ∷ before) (y ∷ after) (suc file) size h = let later = failed_within before after file (omega (arith, size)) h in omega (arith, later)

module _ (start : UnitsState) (count max_records : ℕ) (until : UnitSelection) (fresh : start ≡ fresh_units count max_records until) (contents : List Bytes) (told : List (Option Bytes)) (known : told ≡ known_all contents) where
  known_from : drop start.file told ≡ known_all contents
  known_from = ap (λ (u : UnitsState). drop u.file told) fresh ∙ known

  module _ {T : Type 0} (Took : T → List ReplayUnit → List Damage → Type 0) (last : UnitsState) (before after : T) (h : HasTakenFiles Took start last told before after) (empty : Took before [] []) where
    pub took_files : found_to_come start contents ≡ found_in until contents → Took after (units_of until contents) (refused_of until contents)
    unfolding units_of refused_of
    took_files all =
        let items : h.items ≡ found_in until contents = sym (h.came contents known_from) ∙ all in
        subst (λ (l : List Found). Took after (filter_map unit_of l) (filter_map damage_of l)) items (h.took [] [] empty)

    pub few_units_of : found_to_come start contents ≡ found_in until contents → max_records ≤ 2 ^ 47 → length (units_of until contents) ≤ 2 ^ 64 - 2
    unfolding units_of
    few_units_of all within =
        let items : h.items ≡ found_in until contents = sym (h.came contents known_from) ∙ all in
        let size : length (filter_map unit_of h.items) ≡ length (filter_map unit_of (found_in until contents)) = ap (λ l. length (filter_map unit_of l)) items in
        let most : most_units_left start ≡ most_units_left (fresh_units count max_records until) = ap most_units_left fresh in
        omega (arith, h.few, size, most, within)

    -- the units of the files are those that came
    pub units_came : found_to_come start contents ≡ found_in until contents → filter_map unit_of h.items ≡ units_of until contents
    unfolding units_of
    units_came all = ap (filter_map unit_of) (sym (h.came contents known_from) ∙ all)

    pub records_taken : cuts_to_come start contents ≡ all_cuts contents → last.records ≡ records_of contents
    records_taken all =
        let none : start.records ≡ 0 = ap (λ (u : UnitsState). u.records) fresh in
        let cuts : count_by is_whole (cuts_to_come start contents) ≡ count_by is_whole (all_cuts contents) = ap (count_by is_whole) all in
        omega (arith, h.records contents known_from, none, cuts)

    pub aside_taken : cuts_to_come start contents ≡ all_cuts contents → last.aside ≡ aside_of until contents
    aside_taken all =
        let none : start.aside ≡ 0 = ap (λ (u : UnitsState). u.aside) fresh in
        let selection = start.selection in
        let same : count_by (is_aside selection) (all_cuts contents) ≡ aside_of until contents = ap (λ (u : UnitsState). count_by (is_aside u.selection) (all_cuts contents)) fresh in
        let cuts : count_by (is_aside selection) (cuts_to_come start contents) ≡ count_by (is_aside selection) (all_cuts contents) = ap (count_by (is_aside selection)) all in
        omega (arith, h.aside contents known_from, none, cuts, same)

-- why a reading from the start stops
module _ (start : UnitsState) (count max_records : ℕ) (until : UnitSelection) (fresh : start ≡ fresh_units count max_records until) (told : List (Option Bytes)) where
  pub stops_replay : (counts after : List ℕ) (e : ReplayError) → ((contents : List Bytes) → cuts_to_come start contents ≡ all_cuts contents) → length after ≡ length counts → StopsFiles start told counts after e → StopsReplay max_records told counts after e
  stops_replay counts after (errors.Read file) all size s = (failed_within counts after file size s, s)
  stops_replay counts after errors.Write all size s = s
  stops_replay counts after errors.Memory all size s = tt
  stops_replay counts after errors.Records all size s = λ contents known.
      let more : start.max_records < start.records + count_by is_whole (cuts_to_come start contents) = s contents (ap (λ (u : UnitsState). drop u.file told) fresh ∙ known) in
      let limit : start.max_records ≡ max_records = ap (λ (u : UnitsState). u.max_records) fresh in
      let none : start.records ≡ 0 = ap (λ (u : UnitsState). u.records) fresh in
      let cuts : count_by is_whole (cuts_to_come start contents) ≡ count_by is_whole (all_cuts contents) = ap (count_by is_whole) (all contents) in
      omega (arith, more, limit, none, cuts)
  stops_replay counts after errors.Spent all size s = s
