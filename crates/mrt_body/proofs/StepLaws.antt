-- One cut of a file, and what comes of it.
use Rattle.std.proofs.Common.{◌≡◌, inl, inr, ℕ, ◌+◌, cond, List, [], ◌∷◌, ◌++◌, Option, Some, None, Result, Ok, Err, IfOk, refl, sym, ap, subst, ◌∙◌, arith, append_assoc}
use Rattle.std.specs.List.{count_by}
use Rattle.mrt_frame.specs.declared.fault.Fault.{Fault}
use Rattle.mrt_frame.specs.declared.cut.Cut.{Cut}
use Rattle.mrt_frame.specs.declared.cut.Record.{Record}
use Rattle.mrt_frame.specs.declared.cut.Cut.TheVariants.{Whole, Broken}
use Rattle.mrt_frame.specs.Frames.{Position, to_come, TakesCuts}
use Rattle.std.proofs.lemmas.List.Sums.{sum_by-cons}
use Rattle.peer_units.specs.Plain.{Unit as ReplayUnit}
use Rattle.peer_units.specs.declared.unit.Damage.{Damage}
use Rattle.peer_units.specs.Plain.{Found}
use Rattle.mrt_body.specs.declared.body_kind.BodyKind.{BodyKind}
use Rattle.mrt_body.specs.RibDumps.{DumpsState}
use Rattle.mrt_body.specs.Units.{begins, clears_at, dumps_behind, dumps_behind_cuts, found_from, found_at, found_units, units_in, body_kind_of, is_extended, index_with, refused_at, at_record, is_whole, is_aside, aside_count}
use Rattle.mrt_body.specs.ToCome.{UnitsState, as_found, refusals, CutsOne, TakesRecord, StaysInFile, Steps}

-- a rest that is no record is refused
pub step_broken : (old new : UnitsState) (known left : Option (List ℕ)) (file offset : ℕ) (fault : Fault) (cut : Option Cut) → file ≡ old.file → cut ≡ Some (Broken offset fault) → CutsOne old known new left cut → Steps old known new left (refused_at (at_record file offset 0) fault ∷ [])
unfolding found_at
step_broken old new known left file offset fault cut file_is cut_is of_cut bytes is =
    let h = subst (λ (c : Option Cut). CutsOne old known new left c) cut_is of_cut in
    let e = h.1.1 bytes is in (
      e.0,
      e.1,
      inr (record {
        state = h.1.0;
        found = ap (found_from old.file old.selection old.index old.dumps) e.2 ∙ ap (λ (f : ℕ). refused_at (at_record f offset 0) fault ∷ []) (sym file_is);
        dumps = ap (dumps_behind_cuts old.file old.selection old.index old.dumps) e.2;
        records = ap (count_by is_whole) e.2;
        aside = ap (count_by (is_aside old.selection)) e.2;
      }),
    )

-- the cuts behind those taken
takes_known : (a b : Position) (known left : Option (List ℕ)) (taken : List Cut) (bytes : List ℕ) → known ≡ Some bytes → TakesCuts a known b left taken → (rest : List ℕ) × (left ≡ Some rest) × (to_come a bytes ≡ taken ++ to_come b rest)
takes_known a b None left taken bytes is h = absurd cc
takes_known a b (Some known) None taken bytes is h = absurd h
takes_known a b (Some known) (Some rest) taken bytes is h = let same : known ≡ bytes = cc in (rest, refl, ap (to_come a) (sym same) ∙ h)

module _ (old : UnitsState) (file : ℕ) (r : Record) where
  abbrev whole : Cut
  whole = Whole r

  abbrev held : BodyKind
  held = body_kind_of old.selection.rules.family r.kind r.subtype

  abbrev mid_of : Position → UnitsState
  mid_of frames = record old { frames = frames; records = old.records + 1 }

  -- what the record gives and leaves, if it is one of this file and a reading stands so before it
  abbrev read_in : UnitsState → ℕ → Result (List ReplayUnit) Fault
  read_in u f = units_in u.selection u.dumps.known (at_record f r.offset r.seconds) (is_extended r.kind) u.index held r.body

  abbrev found_then : UnitsState → ℕ → List Found
  found_then u f = as_found (clears_at u.selection (at_record f r.offset r.seconds) u.index u.dumps held r.body) ++ found_units u.selection (at_record f r.offset r.seconds) (read_in u f)

  abbrev dumps_then : UnitsState → ℕ → DumpsState
  dumps_then u f = dumps_behind u.selection (begins u.selection (at_record f r.offset r.seconds) u.index u.dumps held r.body) u.dumps held r.body (read_in u f)

  abbrev new_of : Position → List ReplayUnit → UnitsState
  new_of frames pending = record (mid_of frames) { index = index_with old.index held r.body; dumps = dumps_then old file; pending = pending; aside = old.aside + aside_count old.selection.table_dumps held }

  stays : (frames : Position) (pending : List ReplayUnit) (given : Option Damage) (bytes rest : List ℕ) → file ≡ old.file → to_come old.frames bytes ≡ whole ∷ to_come frames rest
      → refusals given ++ as_found pending ≡ found_then old file
      → StaysInFile old bytes (new_of frames pending) rest (refusals given)
  unfolding found_at
  stays frames pending given bytes rest file_is cuts_are found_is =
      let others = to_come frames rest in
      let index = index_with old.index held r.body in
      record {
        state = refl;
        found = ap (found_from old.file old.selection old.index old.dumps) cuts_are
            ∙ ap (λ (f : ℕ). found_then old f ++ found_from old.file old.selection index (dumps_then old f) others) (sym file_is)
            ∙ ap (λ (l : List Found). l ++ found_from old.file old.selection index (dumps_then old file) others) (sym found_is)
            ∙ append_assoc (refusals given) (as_found pending) (found_from old.file old.selection index (dumps_then old file) others);
        dumps = ap (dumps_behind_cuts old.file old.selection old.index old.dumps) cuts_are
            ∙ ap (λ (f : ℕ). dumps_behind_cuts old.file old.selection index (dumps_then old f) others) (sym file_is);
        records = ap (λ (cs : List Cut). old.records + count_by is_whole cs) cuts_are ∙ ap (λ (n : ℕ). old.records + n) (sum_by-cons (λ (c : Cut). cond (is_whole c) 1 0) whole others) ∙ one_more old.records 1 (count_by is_whole others);
        aside = ap (λ (cs : List Cut). old.aside + count_by (is_aside old.selection) cs) cuts_are ∙ ap (λ (n : ℕ). old.aside + n) (sum_by-cons (λ (c : Cut). cond (is_aside old.selection c) 1 0) whole others) ∙ one_more old.aside (aside_count old.selection.table_dumps held) (count_by (is_aside old.selection) others);
      }
    where
      one_more : (a b c : ℕ) → a + (b + c) ≡ (a + b) + c
      one_more a b c = omega arith

  new_is : (mid new : UnitsState) → mid ≡ mid_of mid.frames → new ≡ record mid { index = index_with mid.index held r.body; dumps = dumps_then mid file; pending = new.pending; aside = mid.aside + aside_count mid.selection.table_dumps held } → new ≡ new_of mid.frames new.pending
  new_is mid new m n = n ∙ ap (λ (u : UnitsState). record u { frames = mid.frames; index = index_with u.index held r.body; dumps = dumps_then u file; pending = new.pending; aside = u.aside + aside_count u.selection.table_dumps held }) m

  found_as : (mid : UnitsState) (l : List Found) → mid ≡ mid_of mid.frames → l ≡ found_then mid file → l ≡ found_then old file
  found_as mid l m h = h ∙ ap (λ (u : UnitsState). found_then u file) m

  pub step_record : (mid new : UnitsState) (known left : Option (List ℕ)) (given : Option Damage) → file ≡ old.file → CutsOne old known mid left (Some whole) → TakesRecord mid (at_record file r.offset r.seconds) (is_extended r.kind) held r.body new given → Steps old known new left (refusals given)
  step_record mid new known left given file_is cut t bytes is =
      let k = takes_known old.frames mid.frames known left (whole ∷ []) bytes is cut.2 in (
        k.0,
        k.1,
        inl (subst (λ (n : UnitsState). StaysInFile old bytes n k.0 (refusals given)) (sym (new_is mid new cut.0 t.state))
            (stays mid.frames new.pending given bytes k.0 file_is k.2 (found_as mid (refusals given ++ as_found new.pending) cut.0 t.found))),
      )

  pub step_records : {E : Type 0} (mid new : UnitsState) (known left : Option (List ℕ)) (answer : Result (Option Damage) E) (cut : Option Cut) → file ≡ old.file → cut ≡ Some whole → CutsOne old known mid left cut → IfOk answer (TakesRecord mid (at_record file r.offset r.seconds) (is_extended r.kind) held r.body new) → IfOk answer (λ given. Steps old known new left (refusals given))
  step_records mid new known left (Ok given) cut file_is cut_is of_cut t = step_record mid new known left given file_is (subst (λ (c : Option Cut). CutsOne old known mid left c) cut_is of_cut) t
  step_records mid new known left (Err e) cut file_is cut_is of_cut t = tt
