-- Steps of a reading of files, one after the other.
use Rattle.std.proofs.Common.{suc, ◌≡◌, inl, inr, ℕ, ◌+◌, ◌<◌, Bool, cond, List, [], ◌∷◌, ◌++◌, length, map, drop, get_or, set, Option, Some, None, refl, sym, ap, subst, ◌∙◌, arith, append_assoc, add-one, ◌≤◌, ◌-◌}
use Rattle.std.specs.Prelude.{option_to_list}
use Rattle.std.specs.List.{count_by, filter_map}
use Rattle.std.proofs.Math.Seq.{drop-cons, map-set_same}
use Rattle.std.proofs.lemmas.List.{length-append, map-set, map-append, drop-drop, drop-set, drop-set-lt, length-map, get_or-map, get_or-set_same}
use Rattle.std.proofs.lemmas.List.Sums.{sum_by-append}
use Rattle.mrt_frame.specs.declared.cut.Cut.{Cut}
use Rattle.mrt_frame.specs.Devices.{HasFailed}
use Rattle.mrt_frame.specs.declared.error.ReplayError.{ReplayError}
use Rattle.mrt_frame.specs.declared.error.ReplayError.TheVariants as errors
use Rattle.mrt_frame.specs.declared.read_state.ReadState.TheVariants.{Reading}
use Rattle.std.specs.Io.KnownBytes.{Consumes}
use Rattle.mrt_frame.specs.Frames.{Position, to_come, KeepsUnlessRead}
use Rattle.mrt_frame.specs.declared.fault.Fault.{Fault}
use Rattle.peer_units.specs.Choices.{UnitSelection}
use Rattle.peer_units.specs.declared.unit.PeerKey.{PeerKey}
use Rattle.peer_units.specs.declared.unit.Damage.{Damage}
use Rattle.peer_units.specs.Plain.{Unit as ReplayUnit}
use Rattle.peer_units.specs.Plain.{Found}
use Rattle.peer_units.specs.declared.unit.Found.TheVariants as found
use Rattle.mrt_frame.specs.Cuts.{cuts, fault_at}
use Rattle.mrt_body.specs.RibDumps.{DumpsState, no_dumps}
use Rattle.mrt_body.specs.Units.{dumps_behind_cuts, found_in, found_in_files, all_cuts, is_whole, is_aside, unit_of}
use Rattle.mrt_body.specs.ToCome.{UnitsState, in_next_file, as_found, refusals, most_units_left, dumps_here, found_here, found_left, found_to_come, cuts_to_come, Passes, TakesFound, GivesPending, StaysInFile, LeavesFile, Steps, HasRecord, HasMoreRecords, HasCause, HasCauseInFile, before_failure, FailsInRecord, FailsBehind, GivesAllBefore, fresh_units}
use Rattle.mrt_body.specs.Readings.{Gives, Lowers, Stops, StopsInFile, IsBounded, GoesOn}
use Rattle.mrt_body.proofs.IndexLaws.{found_in_file-is}

abbrev Bytes : Type 0
Bytes = List ℕ

abbrev known_all : List Bytes → List (Option Bytes)
known_all contents = map (λ bytes. Some bytes) contents

-- one step after another
pub TakesFound-more : (a b c : UnitsState) (first second third : List (Option (List ℕ))) (taken more : List Found) → TakesFound a first b second taken → TakesFound b second c third more → TakesFound a first c third (taken ++ more)
TakesFound-more a b c first second third taken more p q contents h =
    let x = p contents h in
    let y = q x.0 x.1 in (
      y.0,
      y.1,
      record {
        found = x.2.found ∙ ap (λ (l : List Found). taken ++ l) y.2.found ∙ sym (append_assoc taken more (found_to_come c y.0));
        records = x.2.records ∙ y.2.records;
        aside = x.2.aside ∙ y.2.aside;
      },
    )

-- units that were pending
module _ (old : UnitsState) (pending : List ReplayUnit) where
  abbrev gave : UnitsState
  gave = record old { pending = pending }

  gave_left : (contents : List Bytes) → found_left old contents ≡ found_left gave contents
  gave_left [] = refl
  gave_left (bytes ∷ later) = refl

  gave_cuts : (contents : List Bytes) → cuts_to_come old contents ≡ cuts_to_come gave contents
  gave_cuts [] = refl
  gave_cuts (bytes ∷ later) = refl

  gave_found : (files : List (Option Bytes)) (given : List ReplayUnit) → old.pending ≡ given ++ pending → TakesFound old files gave files (as_found given)
  gave_found files given parts contents known = (
    contents,
    known,
    record {
      found = ap (λ (l : List ReplayUnit). as_found l ++ found_left old contents) parts ∙ ap (λ (l : List Found). l ++ found_left old contents) (map-append (λ u. found.Unit u) given pending) ∙ append_assoc (as_found given) (as_found pending) (found_left old contents)
          ∙ ap (λ (l : List Found). as_found given ++ (as_found pending ++ l)) (gave_left contents);
      records = ap (λ (cs : List Cut). old.records + count_by is_whole cs) (gave_cuts contents);
      aside = ap (λ (cs : List Cut). old.aside + count_by (is_aside old.selection) cs) (gave_cuts contents);
    },
  )

pub gives_found : (old new : UnitsState) (files : List (Option Bytes)) (given : List ReplayUnit) → GivesPending old new given → TakesFound old files new files (as_found given)
gives_found old new files given h = subst (λ (n : UnitsState). TakesFound old files n files (as_found given)) (sym h.0) (gave_found old new.pending files given h.1)

-- a refusal is one answer and no unit, and each unit is one
one_refusal : (refused : Option Damage) → length (refusals refused) ≡ length (option_to_list refused)
one_refusal None = refl
one_refusal (Some damage) = refl

no_unit : (refused : Option Damage) → filter_map unit_of (refusals refused) ≡ []
no_unit None = refl
no_unit (Some damage) = refl

each_unit : (units : List ReplayUnit) → length (filter_map unit_of (as_found units)) ≡ length units
each_unit [] = refl
each_unit (unit ∷ units) = ap suc (each_unit units)

-- units that were pending, behind what was read
pub gives_pending : {R : Type 0} (remaining : R → Option Bytes) (fails : R → ℕ) (a b c : UnitsState) (start files : List R) (given : List ReplayUnit) → Gives remaining fails a start b files [] → GivesPending b c given → Gives remaining fails a start c files (as_found given)
gives_pending remaining fails a b c start files given before gives =
    let size = ap length gives.1 ∙ length-append given c.pending in
    let units = ap most_units_left gives.0 in
    let answers : length (as_found given) ≡ length given = length-map given (λ u. found.Unit u) in
    record {
      found = TakesFound-more a b c (map remaining start) (map remaining files) (map remaining files) [] (as_found given) before.found (gives_found b c (map remaining files) given gives);
      fewer = omega (arith, before.fewer, size, units, ap (λ (u : UnitsState). u.count - u.file) gives.0, answers);
      few = omega (arith, before.few, size, units, each_unit given);
      reading = before.reading;
      state = ap (λ (u : UnitsState). u.state) gives.0 ∙ before.state;
      counted = before.counted;
    }

counted_on : (p : Cut → Bool) (a b : ℕ) (xs ys others : List Cut) → a + count_by p xs ≡ b + count_by p ys → a + count_by p (xs ++ others) ≡ b + count_by p (ys ++ others)
counted_on p a b xs ys others h = omega (arith, h, sum_by-append (λ (c : Cut). cond (p c) 1 0) xs others, sum_by-append (λ (c : Cut). cond (p c) 1 0) ys others)

-- more of the current file is to come
module _ (old : UnitsState) (frames : Position) (index : Option (List PeerKey)) (dumps : DumpsState) (pending : List ReplayUnit) (records aside : ℕ) (bytes rest : Bytes) (later : List Bytes) where
  abbrev stayed : UnitsState
  stayed = record old { frames = frames; index = index; dumps = dumps; pending = pending; records = records; aside = aside }

  stay_passes : (taken : List Found) → old.pending ≡ [] → StaysInFile old bytes stayed rest taken → Passes old (bytes ∷ later) stayed (rest ∷ later) taken
  stay_passes taken none s =
      let others = found_in_files old.selection (old.file + 1) (dumps_here stayed rest) later in
      record {
        found = ap (λ (l : List ReplayUnit). as_found l ++ (found_here old bytes ++ found_in_files old.selection (old.file + 1) (dumps_here old bytes) later)) none
            ∙ ap (λ (d : DumpsState). found_here old bytes ++ found_in_files old.selection (old.file + 1) d later) s.dumps
            ∙ ap (λ (l : List Found). l ++ others) s.found ∙ append_assoc taken (as_found pending ++ found_here stayed rest) others
            ∙ ap (λ (l : List Found). taken ++ l) (append_assoc (as_found pending) (found_here stayed rest) others);
        records = counted_on is_whole old.records records (to_come old.frames bytes) (to_come frames rest) (all_cuts later) s.records;
        aside = counted_on (is_aside old.selection) old.aside aside (to_come old.frames bytes) (to_come frames rest) (all_cuts later) s.aside;
      }

-- no more of it is to come
module _ (old : UnitsState) where
  next_left : (later : List Bytes) → found_in_files old.selection (old.file + 1) old.dumps later ≡ found_left (in_next_file old) later
  next_left [] = refl
  next_left (bytes ∷ later) = ap (λ (l : List Found). l ++ found_in_files old.selection ((old.file + 1) + 1) (dumps_here (in_next_file old) bytes) later) (found_in_file-is old.selection (old.file + 1) old.dumps bytes)

  next_cuts : (later : List Bytes) → all_cuts later ≡ cuts_to_come (in_next_file old) later
  next_cuts [] = refl
  next_cuts (bytes ∷ later) = refl

  counted_next : (p : Cut → Bool) (a : ℕ) (xs : List Cut) (later : List Bytes) → count_by p xs ≡ 0 → a + count_by p (xs ++ all_cuts later) ≡ a + count_by p (cuts_to_come (in_next_file old) later)
  counted_next p a xs later none = omega (arith, none, sum_by-append (λ (c : Cut). cond (p c) 1 0) xs (all_cuts later), ap (count_by p) (next_cuts later))

  leave_passes : (bytes : Bytes) (later : List Bytes) (taken : List Found) → old.pending ≡ [] → LeavesFile old bytes (in_next_file old) taken → Passes old (bytes ∷ later) (in_next_file old) later taken
  leave_passes bytes later taken none s =
      let others = found_in_files old.selection (old.file + 1) old.dumps later in
      record {
        found = ap (λ (l : List ReplayUnit). as_found l ++ (found_here old bytes ++ found_in_files old.selection (old.file + 1) (dumps_here old bytes) later)) none
            ∙ ap (λ (d : DumpsState). found_here old bytes ++ found_in_files old.selection (old.file + 1) d later) s.dumps
            ∙ ap (λ (l : List Found). l ++ others) s.found ∙ ap (λ (l : List Found). taken ++ l) (next_left later);
        records = counted_next is_whole old.records (to_come old.frames bytes) later s.records;
        aside = counted_next (is_aside old.selection) old.aside (to_come old.frames bytes) later s.aside;
      }

module _ (old new : UnitsState) (before : List (Option Bytes)) (known left : Option Bytes) (taken : List Found) where
  in_reader : old.pending ≡ [] → old.file < length before → get_or before old.file known ≡ known → Steps old known new left taken
      → (contents : List Bytes) → known ∷ drop (old.file + 1) before ≡ known_all contents → (rest : List Bytes) × (drop new.file (set before old.file left) ≡ known_all rest) × Passes old contents new rest taken
  in_reader none within at steps [] h = absurd cc
  in_reader none within at steps (bytes ∷ later) h =
      let first : known ≡ Some bytes = cc in
      let others : drop (old.file + 1) before ≡ known_all later = cc in
      let s = steps bytes first in
      elim s.2 [
        | inl stay ↦
            let n = new in
            let same : new ≡ record old { frames = n.frames; index = n.index; dumps = n.dumps; pending = n.pending; records = n.records; aside = n.aside } = stay.state in
            let file : new.file ≡ old.file = ap (λ (u : UnitsState). u.file) same in
            let put : drop old.file (set before old.file left) ≡ left ∷ drop (old.file + 1) before = drop-set before old.file left within in (
              s.0 ∷ later,
              ap (λ (i : ℕ). drop i (set before old.file left)) file ∙ put ∙ ap (λ (o : Option Bytes). o ∷ drop (old.file + 1) before) s.1 ∙ ap (λ (l : List (Option Bytes)). Some s.0 ∷ l) others,
              subst (λ (u : UnitsState). Passes old (bytes ∷ later) u (s.0 ∷ later) taken) (sym same)
                  (stay_passes old n.frames n.index n.dumps n.pending n.records n.aside bytes s.0 later taken none (subst (λ (u : UnitsState). StaysInFile old bytes u s.0 taken) same stay)),
            )
        | inr leave ↦
            let same : new ≡ in_next_file old = leave.state in
            let file : new.file ≡ old.file + 1 = ap (λ (u : UnitsState). u.file) same in
            let below : old.file < old.file + 1 = omega arith in (
              later,
              ap (λ (i : ℕ). drop i (set before old.file left)) file ∙ drop-set-lt (old.file + 1) before old.file left below ∙ others,
              subst (λ (u : UnitsState). Passes old (bytes ∷ later) u later taken) (sym same) (leave_passes old bytes later taken none (subst (λ (u : UnitsState). LeavesFile old bytes u taken) same leave)),
            )
      ]

  pub step_found : old.pending ≡ [] → old.file < length before → get_or before old.file known ≡ known → Steps old known new left taken → TakesFound old before new (set before old.file left) taken
  step_found none within at steps contents h =
      let i = old.file in
      let parts : drop i before ≡ known ∷ drop (i + 1) before = drop-cons before i known within ∙ ap (λ (n : ℕ). get_or before i known ∷ drop n before) (sym (add-one i)) ∙ ap (λ (o : Option Bytes). o ∷ drop (i + 1) before) at in
      in_reader none within at steps contents (sym parts ∙ h)

-- the bytes that a reader gave, and those that it gives still
consumed : (known left : Option Bytes) (bytes part : Bytes) → known ≡ Some bytes → Consumes known left part → (rest : Bytes) × (left ≡ Some rest) × (bytes ≡ part ++ rest)
consumed None left bytes part is gave = absurd cc
consumed (Some known) None bytes part is gave = absurd gave
consumed (Some known) (Some rest) bytes part is gave = let same : bytes ≡ known = cc in (rest, refl, same ∙ gave)

-- ---- a step in the file of this number, after a reading with nothing pending

module _ {R : Type 0} (remaining : R → Option Bytes) (fails : R → ℕ) (a b v : UnitsState) (start files : List R) (i : ℕ) (d next : R) where
  abbrev reader : R
  reader = get_or files i d

  one_more_step : (taken : List Found) → TakesFound a (map remaining start) b (map remaining files) [] → b.pending ≡ [] → i ≡ b.file → i < length files → Steps b (remaining reader) v (remaining next) taken
      → TakesFound a (map remaining start) v (map remaining (set files i next)) taken
  one_more_step taken before none same within steps =
      let inside : i < length (map remaining files) = omega (arith, length-map files remaining) in
      let at : get_or (map remaining files) i (remaining reader) ≡ remaining reader = get_or-map remaining files i d (remaining reader) within in
      let step = step_found b v (map remaining files) (remaining reader) (remaining next) taken none (subst (λ (n : ℕ). n < length (map remaining files)) same inside) (subst (λ (n : ℕ). get_or (map remaining files) n (remaining reader) ≡ remaining reader) same at) steps in
      let put : map remaining (set files i next) ≡ set (map remaining files) b.file (remaining next) = map-set remaining files i next ∙ ap (λ (n : ℕ). set (map remaining files) n (remaining next)) same in
      subst (λ (l : List (Option Bytes)). TakesFound a (map remaining start) v l taken) (sym put)
      (TakesFound-more a b v (map remaining start) (map remaining files) (set (map remaining files) b.file (remaining next)) [] taken before step)

  still_sound : map fails files ≡ map fails start → fails next ≡ fails reader → map fails (set files i next) ≡ map fails start
  still_sound same sound = map-set_same fails files i next d sound ∙ same

  pub gives_more : (refused : Option Damage) → Gives remaining fails a start b files [] → b.pending ≡ [] → i ≡ b.file → i < length files → Steps b (remaining reader) v (remaining next) (refusals refused) → Lowers fails b reader v next refused
      → Gives remaining fails a start v (set files i next) (refusals refused)
  gives_more refused before none same within steps lowers = record {
    found = one_more_step (refusals refused) before.found none same within steps;
    fewer = omega (arith, before.fewer, lowers.fewer, one_refusal refused);
    few = omega (arith, before.few, lowers.few, ap length (no_unit refused));
    reading = before.reading;
    state = lowers.state;
    counted = still_sound before.counted lowers.counted;
  }

  -- ---- why a reading stops

  still_unfailed : (e : ReplayError) → map fails files ≡ map fails start → KeepsUnlessRead (fails reader) (fails next) e → KeepsUnlessRead (map fails start) (map fails (set files i next)) e
  still_unfailed (errors.Read file) same h = tt
  still_unfailed errors.Write same h = still_sound same h
  still_unfailed errors.Memory same h = still_sound same h
  still_unfailed errors.Records same h = still_sound same h
  still_unfailed errors.Spent same h = still_sound same h

  failed_in : (file : ℕ) → map fails files ≡ map fails start → i ≡ file → i < length files → HasFailed (fails reader) (fails next) → HasFailed (get_or (map fails start) file 0) (get_or (map fails (set files i next)) file 0)
  failed_in file same at within h =
      let before : fails reader ≡ get_or (map fails start) file 0 = sym (get_or-map fails files i d 0 within) ∙ ap (λ (l : List ℕ). get_or l i 0) same ∙ ap (λ (n : ℕ). get_or (map fails start) n 0) at in
      let inside : i < length (map fails files) = omega (arith, length-map files fails) in
      let after : fails next ≡ get_or (map fails (set files i next)) file 0 = sym (get_or-set_same (map fails files) i (fails next) 0 inside) ∙ ap (λ (l : List ℕ). get_or l i 0) (sym (map-set fails files i next)) ∙ ap (λ (n : ℕ). get_or (map fails (set files i next)) n 0) at in
      subst (λ (n : ℕ). HasFailed n (get_or (map fails (set files i next)) file 0)) before (subst (λ (n : ℕ). HasFailed (fails reader) n) after h)

  known_first : (contents : List Bytes) → i < length files → drop i (map remaining files) ≡ known_all contents
      → (bytes : Bytes) × (later : List Bytes) × (remaining reader ≡ Some bytes) × (contents ≡ bytes ∷ later) × (drop (i + 1) (map remaining files) ≡ known_all later)
  known_first contents within h = by_contents contents (sym parts ∙ h)
    where
      inside : i < length (map remaining files)
      inside = omega (arith, length-map files remaining)

      parts : drop i (map remaining files) ≡ remaining reader ∷ drop (i + 1) (map remaining files)
      parts = drop-cons (map remaining files) i (remaining d) inside ∙ ap (λ (n : ℕ). get_or (map remaining files) i (remaining d) ∷ drop n (map remaining files)) (sym (add-one i))
          ∙ ap (λ (o : Option Bytes). o ∷ drop (i + 1) (map remaining files)) (get_or-map remaining files i d (remaining d) within)

      by_contents : (cs : List Bytes) → remaining reader ∷ drop (i + 1) (map remaining files) ≡ known_all cs
          → (bytes : Bytes) × (later : List Bytes) × (remaining reader ≡ Some bytes) × (cs ≡ bytes ∷ later) × (drop (i + 1) (map remaining files) ≡ known_all later)
      by_contents [] e = absurd cc
      by_contents (bytes ∷ later) e = (bytes, later, cc, refl, cc)

  pub more_in : b.max_records ≡ a.max_records → TakesFound a (map remaining start) b (map remaining files) [] → i ≡ b.file → i < length files → HasRecord b (remaining reader) → HasMoreRecords a (map remaining start)
  more_in most before at within h contents known =
      let to_b = before contents known in
      let k = known_first to_b.0 within (ap (λ (n : ℕ). drop n (map remaining files)) at ∙ to_b.1) in
      let more : 0 < count_by is_whole (to_come b.frames k.0) = h.1 k.0 k.2 in
      let all : count_by is_whole (cuts_to_come b to_b.0) ≡ count_by is_whole (to_come b.frames k.0) + count_by is_whole (all_cuts k.1) = ap (λ (cs : List Bytes). count_by is_whole (cuts_to_come b cs)) k.3 ∙ sum_by-append (λ (c : Cut). cond (is_whole c) 1 0) (to_come b.frames k.0) (all_cuts k.1) in
      omega (arith, more, most, all, h.0, to_b.2.records)

  stops_in : (e : ReplayError) → map fails files ≡ map fails start → a.state ≡ Reading → b.max_records ≡ a.max_records → TakesFound a (map remaining start) b (map remaining files) [] → i ≡ b.file → i < length files
      → HasCauseInFile b (remaining reader) v (fails reader) (fails next) e → HasCause a (map remaining start) v (map fails start) (map fails (set files i next)) e
  stops_in (errors.Read file) same reading limit before at within h =
      (ap (λ (s : UnitsState). s.file) h.1 ∙ sym h.0, ap (λ (s : UnitsState). s.state) h.1, inr (failed_in file same (at ∙ sym h.0) within h.2))
  stops_in errors.Write same reading limit before at within h = absurd h
  stops_in errors.Memory same reading limit before at within h = (reading, h)
  stops_in errors.Records same reading limit before at within h = (reading, h.0, h.1, more_in limit before at within h.2)
  stops_in errors.Spent same reading limit before at within h = absurd h

  fails_behind : TakesFound a (map remaining start) b (map remaining files) [] → i ≡ b.file → i < length files
      → before_failure v ≡ b → (part : Bytes) (fault : Fault) → fault_at b.frames.offset part ≡ Some fault → Consumes (remaining reader) (remaining next) part
      → (contents : List Bytes) → drop a.file (map remaining start) ≡ known_all contents → FailsBehind a contents v (map remaining (set files i next)) []
  fails_behind before at within same part fault broken gave contents known =
      let to_b = before contents known in
      let k = known_first to_b.0 within (ap (λ (n : ℕ). drop n (map remaining files)) at ∙ to_b.1) in
      let c = consumed (remaining reader) (remaining next) k.0 part k.2 gave in
      let inside : i < length (map remaining files) = omega (arith, length-map files remaining) in
      let file : v.file ≡ i = ap (λ (s : UnitsState). s.file) same ∙ sym at in
      let put : drop i (map remaining (set files i next)) ≡ remaining next ∷ drop (i + 1) (map remaining files) =
      ap (drop i) (map-set remaining files i next) ∙ drop-set (map remaining files) i (remaining next) inside in
      record {
        part = part;
        fault = fault;
        bytes = c.0;
        later = k.1;
        broken = ap (λ (s : UnitsState). fault_at s.frames.offset part) same ∙ broken;
        left = ap (λ (n : ℕ). drop n (map remaining (set files i next))) file ∙ put ∙ ap (λ (o : Option Bytes). o ∷ drop (i + 1) (map remaining files)) c.1 ∙ ap (λ (l : List (Option Bytes)). Some c.0 ∷ l) k.4;
        passes = subst (λ (s : UnitsState). Passes a contents s ((part ++ c.0) ∷ k.1) []) (sym same) (subst (λ (l : List Bytes). Passes a contents b l []) (k.3 ∙ ap (λ (bytes : Bytes). bytes ∷ k.1) c.2) to_b.2);
      }

  pub gives_before : (e : ReplayError) → TakesFound a (map remaining start) b (map remaining files) [] → i ≡ b.file → i < length files
      → FailsInRecord b (remaining reader) v (remaining next) e → GivesAllBefore a (map remaining start) v (map remaining (set files i next)) e
  gives_before (errors.Read file) before at within h = fails_behind before at within h.0 h.1.0 h.1.1 h.1.2 h.1.3
  gives_before errors.Write before at within h = tt
  gives_before errors.Memory before at within h = tt
  gives_before errors.Records before at within h = tt
  gives_before errors.Spent before at within h = tt

  pub stops_then : (e : ReplayError) → Gives remaining fails a start b files [] → b.max_records ≡ a.max_records → i ≡ b.file → i < length files → StopsInFile remaining fails b reader v next e
      → Stops remaining fails a start v (set files i next) e
  stops_then e before limit at within stops = record {
    cause = stops_in e before.counted before.reading limit before.found at within stops.cause;
    before = λ _. gives_before e before.found at within stops.before;
    unfailed = still_unfailed e before.counted stops.unfailed;
  }

-- ---- what a step keeps

-- a step in the current file leaves those behind it
later_left : {R : Type 0} (start files : List R) (i n m : ℕ) (next : R) → drop (n + 1) files ≡ drop (n + 1) start → i ≡ n → n ≤ m → drop (m + 1) (set files i next) ≡ drop (m + 1) start
later_left start files i n m next same at onward =
    let more : (n + 1) + (m - n) ≡ m + 1 = omega (arith, onward) in
    let below : i < m + 1 = omega (arith, at, onward) in
    drop-set-lt (m + 1) files i next below ∙ ap (λ k. drop k files) (sym more) ∙ sym (drop-drop (m - n) (n + 1) files) ∙ ap (drop (m - n)) same ∙ drop-drop (m - n) (n + 1) start ∙ ap (λ k. drop k start) more

pub bounded_still : {R : Type 0} (a b v : UnitsState) (start files : List R) (i : ℕ) (next : R) → IsBounded a start b files → i ≡ b.file → GoesOn b v → IsBounded a start v (set files i next)
bounded_still a b v start files i next before at step = record {
  later = later_left start files i b.file v.file next before.later at step.onward;
  plan = (step.plan.0 ∙ before.plan.0, step.plan.1 ∙ before.plan.1, step.plan.2 ∙ before.plan.2);
}

-- ---- a reading that begins

pub fresh_found : (count max_records : ℕ) (selection : UnitSelection) (contents : List Bytes) → found_to_come (fresh_units count max_records selection) contents ≡ found_in selection contents
unfolding found_in
fresh_found count max_records selection [] = refl
fresh_found count max_records selection (bytes ∷ later) = ap (λ (l : List Found). l ++ found_in_files selection 1 (dumps_behind_cuts 0 selection None no_dumps (cuts 0 bytes)) later) (sym (found_in_file-is selection 0 no_dumps bytes))

pub fresh_cuts : (count max_records : ℕ) (selection : UnitSelection) (contents : List Bytes) → cuts_to_come (fresh_units count max_records selection) contents ≡ all_cuts contents
fresh_cuts count max_records selection [] = refl
fresh_cuts count max_records selection (bytes ∷ later) = refl
