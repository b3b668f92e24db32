-- What holds of each telling of files that agrees with what was read of them.
use Rattle.mrt_frame.specs.Given.{known_none}
use Rattle.std.proofs.Common.{take, take-take, ◌⊎◌, inl, inr, ◌≡◌, ℕ, ◌<◌, ◌≤◌, Bool, true, false, zero, suc, List, [], ◌∷◌, ◌++◌, Option, Some, None, length, get_or, set, refl, sym, ap, subst, ◌∙◌, arith, append-nil, append_assoc}
use Rattle.mrt_frame.specs.declared.cut.Cut.{Cut}
use Rattle.mrt_frame.specs.declared.cut.Cut.TheVariants.{Whole, Broken}
use Rattle.mrt_frame.specs.declared.read_state.ReadState.TheVariants.{Reading, Ended}
use Rattle.mrt_frame.specs.Frames.{Position, to_come, to_come_in, TakesCuts}
use Rattle.mrt_frame.specs.Given.{ReadsKnown, Told, NextIs, told_map}
use Rattle.std.specs.Io.KnownBytes.{Consumes}
use Rattle.std.specs.Prelude.{Result, Ok, Err, IfOk, map, drop}
use Rattle.mrt_frame.specs.declared.cut.Record.{Record}
use Rattle.peer_units.specs.Plain.{Found}
use Rattle.peer_units.specs.declared.unit.Damage.{Damage}
use Rattle.mrt_body.specs.Units.{body_kind_of, is_extended, at_record}
use Rattle.mrt_body.specs.ToCome.{UnitsState, CutsOne, Steps, TakesRecord, TakesFound, refusals}
use Rattle.mrt_body.specs.Tellings.{Input, AllRead, AllKnown, AllTold, has_end, is_unread}
use Rattle.mrt_body.proofs.StepLaws.{step_record}
use Rattle.mrt_body.proofs.FilesLaws.{TakesFound-more, step_found, gives_found, gives_before, more_in}
use Rattle.mrt_body.specs.Tellings.{StopsTold, AllStopsTold, AreWhole}
use Rattle.mrt_frame.specs.declared.read_state.ReadState.{ReadState}
use Rattle.mrt_body.specs.ToCome.{before_failure, FailsInRecord, GivesAllBefore, HasRecord, HasMoreRecords}
use Rattle.mrt_frame.specs.declared.error.ReplayError.{ReplayError}
use Rattle.mrt_frame.specs.declared.error.ReplayError.TheVariants as errors
use Rattle.mrt_frame.specs.Frames.{ReadsPart}
use Rattle.mrt_frame.specs.Given.{PartIs}
use Rattle.mrt_body.specs.ToCome.{GivesPending, Passes, as_found, found_to_come}
use Rattle.mrt_body.specs.Readings.{Gives, Ends}
use Rattle.peer_units.specs.Plain.{Unit as ReplayUnit}
use Rattle.std.proofs.lemmas.List.{length-drop, length-map}

-- the last cuts of a file
ends_told : (old f : Position) (told left : Option (List ℕ)) (taken : List Cut) → TakesCuts old told f left taken → f.state ≡ Ended → (bytes : List ℕ) → told ≡ Some bytes
    → (rest : List ℕ) × (left ≡ Some rest) × (to_come old bytes ≡ taken)
ends_told old f None left taken takes ended bytes is = absurd cc
ends_told old f (Some x) None taken takes ended bytes is = absurd takes
ends_told old f (Some x) (Some rest) taken takes ended bytes is =
    let same : bytes ≡ x = cc in
    (rest, refl, ap (to_come old) same ∙ takes ∙ ap (λ s. taken ++ to_come_in s f.offset rest) ended ∙ append-nil taken)

-- one cut of the current file
pub cut_told : {R : Type 0} (reads : R → List ℕ → Bool → R → Type 0) (old new : UnitsState) (f : Position) (device device' : R) (known left : Option (List ℕ)) (cut : Option Cut)
    → CutsOne old known new left cut → (new.file ≡ old.file → new.frames ≡ f) → (old.file < new.file → f.state ≡ Ended) → Told reads device device' (f.state ≡ Ended) (NextIs old.frames f cut)
    → Told reads device device' (old.file < new.file) (λ told' left'. CutsOne old told' new left' cut)
cut_told reads old new f device device' known left None cuts here behind t =
    let below : old.file < new.file = omega (arith, ap (λ (u : UnitsState). u.file) cuts.0) in
    told_map reads device device' (f.state ≡ Ended) (old.file < new.file) (NextIs old.frames f None) (λ told' left'. CutsOne old told' new left' None) (λ _. below)
    (λ told' left' is. (cuts.0, ends_told old.frames f told' left' [] is.0 (behind below))) t
cut_told reads old new f device device' known left (Some (Broken offset fault)) cuts here behind t =
    let below : old.file < new.file = omega (arith, ap (λ (u : UnitsState). u.file) cuts.1.0) in
    told_map reads device device' (f.state ≡ Ended) (old.file < new.file) (NextIs old.frames f (Some (Broken offset fault))) (λ told' left'. CutsOne old told' new left' (Some (Broken offset fault))) (λ _. below)
    (λ told' left' is. (cuts.0, (cuts.1.0, ends_told old.frames f told' left' (Broken offset fault ∷ []) is.0 (behind below)))) t
cut_told reads old new f device device' known left (Some (Whole r)) cuts here behind t =
    let same : new.frames ≡ f = here (ap (λ (u : UnitsState). u.file) cuts.0) in
    told_map reads device device' (f.state ≡ Ended) (old.file < new.file) (NextIs old.frames f (Some (Whole r))) (λ told' left'. CutsOne old told' new left' (Some (Whole r)))
    (λ e. let none : Reading ≡ Ended = sym cuts.1 ∙ ap (λ p. p.state) same ∙ e in absurd cc)
    (λ told' left' is. (cuts.0, cuts.1, subst (λ p. TakesCuts old.frames told' p left' (Whole r ∷ [])) (sym same) is.0)) t

-- a whole record, and what comes of it
pub step_told : {R E : Type 0} (reads : R → List ℕ → Bool → R → Type 0) (device device' : R) (old : UnitsState) (file : ℕ) (r : Record) (mid new : UnitsState) (answer : Result (Option Damage) E) (cut : Option Cut)
    → file ≡ old.file → cut ≡ Some (Whole r) → IfOk answer (TakesRecord mid (at_record file r.offset r.seconds) (is_extended r.kind) (body_kind_of old.selection.rules.family r.kind r.subtype) r.body new)
    → Told reads device device' (old.file < mid.file) (λ told left. CutsOne old told mid left cut)
    → IfOk answer (λ given. Told reads device device' (old.file < new.file) (λ told left. Steps old told new left (refusals given)))
step_told reads device device' old file r mid new (Ok given) cut file_is cut_is t of_cut =
    told_map reads device device' (old.file < mid.file) (old.file < new.file) (λ told left. CutsOne old told mid left cut) (λ told left. Steps old told new left (refusals given))
    (λ below. omega (arith, below, ap (λ (u : UnitsState). u.file) t.state))
    (λ told left cuts. step_record old file r mid new told left given file_is (subst (λ (c : Option Cut). CutsOne old told mid left c) cut_is cuts) t) of_cut
step_told reads device device' old file r mid new (Err e) cut file_is cut_is t of_cut = tt

-- ---- what was read of files

abbrev nones : {R : Type 0} → List R → List Input
nones [] = []
nones (d ∷ ds) = ([], false) ∷ nones ds

none_read : {R : Type 0} (reads : R → List ℕ → Bool → R → Type 0) (none : (device : R) → reads device [] false device) (files : List R) → AllRead reads files (nones files) files
none_read reads none [] = tt
none_read reads none (d ∷ ds) = (none d, none_read reads none ds)

none_ends : {R : Type 0} (files : List R) (i : ℕ) → has_end (nones files) i ≡ true → ⊥
none_ends [] i e = absurd cc
none_ends (d ∷ ds) zero e = absurd cc
none_ends (d ∷ ds) (suc i) e = none_ends ds i e

none_unread : {R : Type 0} (files : List R) (i : ℕ) → is_unread (nones files) i
none_unread [] i = tt
none_unread (d ∷ ds) zero = refl
none_unread (d ∷ ds) (suc i) = none_unread ds i

-- more of the bytes of one file
abbrev put_input : List Input → ℕ → List ℕ → Bool → List Input
put_input [] i more ended = []
put_input (x ∷ xs) zero more ended = (x.0 ++ more, ended) ∷ xs
put_input (x ∷ xs) (suc i) more ended = x ∷ put_input xs i more ended

put_read : {R : Type 0} (reads : R → List ℕ → Bool → R → Type 0)
    (join : (old mid new : R) (bytes others : List ℕ) (ended : Bool) → reads old bytes false mid → reads mid others ended new → reads old (bytes ++ others) ended new)
    (start : List R) (inputs : List Input) (files : List R) (i : ℕ) (d next : R) (more : List ℕ) (ended : Bool)
    → AllRead reads start inputs files → i < length files → has_end inputs i ≡ false → reads (get_or files i d) more ended next → AllRead reads start (put_input inputs i more ended) (set files i next)
put_read reads join [] [] [] i d next more ended all within open' one = absurd (omega (arith, within))
put_read reads join [] [] (f ∷ fs) i d next more ended all within open' one = absurd all
put_read reads join [] (x ∷ xs) files i d next more ended all within open' one = absurd all
put_read reads join (s ∷ ss) [] files i d next more ended all within open' one = absurd all
put_read reads join (s ∷ ss) (x ∷ xs) [] i d next more ended all within open' one = absurd all
put_read reads join (s ∷ ss) (x ∷ xs) (f ∷ fs) zero d next more ended all within open' one =
    (join s f next x.0 more ended (subst (λ e. reads s x.0 e f) open' all.0) one, all.1)
put_read reads join (s ∷ ss) (x ∷ xs) (f ∷ fs) (suc i) d next more ended all within open' one = (all.0, put_read reads join ss xs fs i d next more ended all.1 (omega (arith, within)) open' one)

put_end : (inputs : List Input) (i : ℕ) (more : List ℕ) (ended : Bool) (j : ℕ) → has_end (put_input inputs i more ended) j ≡ true → (has_end inputs j ≡ true) ⊎ ((j ≡ i) × (ended ≡ true))
put_end [] i more ended j e = inl e
put_end (x ∷ xs) zero more ended zero e = inr (refl, e)
put_end (x ∷ xs) zero more ended (suc j) e = inl e
put_end (x ∷ xs) (suc i) more ended zero e = inl e
put_end (x ∷ xs) (suc i) more ended (suc j) e =
    elim (put_end xs i more ended j e) [ inl h ↦ inl h | inr h ↦ inr (ap suc h.0, h.1) ]

put_unread : (inputs : List Input) (i : ℕ) (more : List ℕ) (ended : Bool) (j : ℕ) → j < i → is_unread inputs j → is_unread (put_input inputs i more ended) j
put_unread [] i more ended j below h = tt
put_unread (x ∷ xs) zero more ended j below h = absurd (omega (arith, below))
put_unread (x ∷ xs) (suc i) more ended zero below h = h
put_unread (x ∷ xs) (suc i) more ended (suc j) below h = put_unread xs i more ended j (omega (arith, below)) h

-- what was told between two readings, one behind the other
told_between : (told left : Option (List ℕ)) (bytes more : List ℕ) → Consumes told left (bytes ++ more) → (mid : Option (List ℕ)) × Consumes told mid bytes × Consumes mid left more
told_between None left bytes more gave = (None, tt, tt)
told_between (Some told) None bytes more gave = absurd gave
told_between (Some told) (Some left) bytes more gave = (Some (more ++ left), gave ∙ append_assoc bytes more left, refl)

-- before more was read of this file: what was told then of all files and of this one, and what is told of it now
record Between (told : List (Option (List ℕ))) (inputs : List Input) (i : ℕ) (more : List ℕ) (ended : Bool) (left : List (Option (List ℕ))) : Type 0 where
  mids : List (Option (List ℕ))
  mid : Option (List ℕ)
  now : Option (List ℕ)
  before : AllKnown told inputs mids
  at : get_or mids i mid ≡ mid
  one : ReadsKnown mid more ended now
  put : set mids i now ≡ left
  within : i < length mids

put_known : (told : List (Option (List ℕ))) (inputs : List Input) (left : List (Option (List ℕ))) (i : ℕ) (more : List ℕ) (ended : Bool) → i < length inputs → has_end inputs i ≡ false
    → AllKnown told (put_input inputs i more ended) left → Between told inputs i more ended left
put_known told [] left i more ended within open' all = absurd (omega (arith, within))
put_known [] (x ∷ xs) left zero more ended within open' all = absurd all
put_known [] (x ∷ xs) left (suc i) more ended within open' all = absurd all
put_known (t ∷ ts) (x ∷ xs) [] zero more ended within open' all = absurd all
put_known (t ∷ ts) (x ∷ xs) [] (suc i) more ended within open' all = absurd all
put_known (t ∷ ts) (x ∷ xs) (l ∷ ls) zero more ended within open' all =
    let m = told_between t l x.0 more all.0.0 in record {
      mids = m.0 ∷ ls;
      mid = m.0;
      now = l;
      before = ((m.1, λ e. let none : false ≡ true = sym open' ∙ e in absurd cc), all.1);
      at = refl;
      one = (m.2, all.0.1);
      put = refl;
      within = omega arith;
    }
put_known (t ∷ ts) (x ∷ xs) (l ∷ ls) (suc i) more ended within open' all =
    let b = put_known ts xs ls i more ended (omega (arith, within)) open' all.1 in record {
      mids = l ∷ b.mids;
      mid = b.mid;
      now = b.now;
      before = (all.0, b.before);
      at = b.at;
      one = b.one;
      put = ap (λ (os : List (Option (List ℕ))). l ∷ os) b.put;
      within = omega (arith, b.within);
    }

read_lengths : {R : Type 0} (reads : R → List ℕ → Bool → R → Type 0) (start : List R) (inputs : List Input) (files : List R) → AllRead reads start inputs files → length inputs ≡ length files
read_lengths reads [] [] [] all = refl
read_lengths reads [] [] (f ∷ fs) all = absurd all
read_lengths reads [] (x ∷ xs) files all = absurd all
read_lengths reads (s ∷ ss) [] files all = absurd all
read_lengths reads (s ∷ ss) (x ∷ xs) [] all = absurd all
read_lengths reads (s ∷ ss) (x ∷ xs) (f ∷ fs) all = ap suc (read_lengths reads ss xs fs all.1)

-- ---- what holds of files behind one more step

-- where bytes are known of which none were read, they are to come still
still_told : {R : Type 0} (files : List R) (told left : List (Option (List ℕ))) (k : ℕ) (contents : List (List ℕ)) → AllKnown told (nones files) left → drop k told ≡ map (λ bytes. Some bytes) contents → drop k left ≡ map (λ bytes. Some bytes) contents
still_told [] [] [] k contents all h = h
still_told [] [] (l ∷ ls) k contents all h = absurd all
still_told [] (t ∷ ts) left k contents all h = absurd all
still_told (f ∷ fs) [] left k contents all h = absurd all
still_told (f ∷ fs) (t ∷ ts) [] k contents all h = absurd all
still_told (f ∷ fs) (t ∷ ts) (l ∷ ls) (suc k) contents all h = still_told fs ts ls k contents all.1 h
still_told (f ∷ fs) (None ∷ ts) (l ∷ ls) zero [] all h = absurd cc
still_told (f ∷ fs) (None ∷ ts) (l ∷ ls) zero (c ∷ cs) all h = absurd cc
still_told (f ∷ fs) (Some t ∷ ts) (l ∷ ls) zero [] all h = absurd cc
still_told (f ∷ fs) (Some t ∷ ts) (None ∷ ls) zero (c ∷ cs) all h = absurd all.0.0
still_told (f ∷ fs) (Some t ∷ ts) (Some l ∷ ls) zero (c ∷ cs) all h =
    let others : ts ≡ map (λ bytes. Some bytes) cs = cc in
    let one : t ≡ c = cc in
    let same : Some l ≡ Some c = ap (λ x. Some x) (sym all.0.0 ∙ one) in
    ap (λ (os : List (Option (List ℕ))). Some l ∷ os) (still_told fs ts ls 0 cs all.1 others) ∙ ap (λ (o : Option (List ℕ)). o ∷ map (λ bytes. Some bytes) cs) same

take_set : {R : Type 0} (k : ℕ) (l : List R) (i : ℕ) (x : R) → k ≤ i → take k (set l i x) ≡ take k l
take_set zero l i x h = refl
take_set (suc k) [] i x h = refl
take_set (suc k) (y ∷ ys) zero x h = absurd (omega (arith, h))
take_set (suc k) (y ∷ ys) (suc i) x h = ap (λ (l : List _). y ∷ l) (take_set k ys i x (omega (arith, h)))

same_list : (l : List (Option (List ℕ))) → map (λ o. o) l ≡ l
same_list [] = refl
same_list (x ∷ xs) = ap (λ (os : List (Option (List ℕ))). x ∷ os) (same_list xs)

-- what tellings say of a step that stops, behind others
stop_told : (a b v : UnitsState) (error : ReplayError) (told mids left : List (Option (List ℕ))) (i : ℕ) (mid now : Option (List ℕ)) → TakesFound a told b mids [] → i ≡ b.file → i < length mids → get_or mids i mid ≡ mid → set mids i now ≡ left
    → b.max_records ≡ a.max_records → StopsTold b v error mid now → AllStopsTold a v error told left
stop_told a b v error told mids left i mid now takes at within is put limit stops =
    let same : Option (List ℕ) → Option (List ℕ) = λ o. o in
    let fails : Option (List ℕ) → ℕ = λ o. 0 in
    let takes' : TakesFound a (map same told) b (map same mids) [] = subst (λ (l : List (Option (List ℕ))). TakesFound a l b (map same mids) []) (sym (same_list told)) (subst (λ (l : List (Option (List ℕ))). TakesFound a told b l []) (sym (same_list mids)) takes) in
    let all : GivesAllBefore a (map same told) v (map same (set mids i now)) error =
    gives_before same fails a b v told mids i mid now error takes' at within (subst (λ (o : Option (List ℕ)). FailsInRecord b o v now error) (sym is) stops.0) in (
      subst (λ (l : List (Option (List ℕ))). GivesAllBefore a told v l error) (same_list (set mids i now) ∙ put) (subst (λ (l : List (Option (List ℕ))). GivesAllBefore a l v (map same (set mids i now)) error) (same_list told) all),
      λ r. subst (λ (l : List (Option (List ℕ))). HasMoreRecords a l) (same_list told)
          (more_in same fails a b v told mids i mid now limit takes' at within (subst (λ (o : Option (List ℕ)). HasRecord b o) (sym is) (stops.1 r))),
    )

module _ {R : Type 0} (reads : R → List ℕ → Bool → R → Type 0) where
  -- at the start nothing was read
  pub told_start : ((device : R) → reads device [] false device) → (files : List R) (u : UnitsState) → AllTold reads files files u.file u.file (λ told left. TakesFound u told u left [])
  told_start none files u = record {
    inputs = nones files;
    given = none_read reads none files;
    unread = λ i _. none_unread files i;
    same = refl;
    last = λ i e. absurd (none_ends files i e);
    onward = omega arith;
    holds = λ told left all contents h. (contents, still_told files told left u.file contents all h, record { found = refl; records = refl; aside = refl });
  }

  -- one step of one file, behind others
  pub told_step : ((old mid new : R) (bytes others : List ℕ) (ended : Bool) → reads old bytes false mid → reads mid others ended new → reads old (bytes ++ others) ended new)
      → (start files : List R) (i : ℕ) (d next : R) (a b v : UnitsState) (taken : List Found) → AllTold reads start files a.file b.file (λ told left. TakesFound a told b left []) → i ≡ b.file → i < length files → b.file ≤ v.file → b.pending ≡ []
      → Told reads (get_or files i d) next (b.file < v.file) (λ told left. Steps b told v left taken) → AllTold reads start (set files i next) a.file v.file (λ told left. TakesFound a told v left taken)
  told_step join start files i d next a b v taken before at within onward none step = record {
    inputs = put_input before.inputs i step.bytes step.ended;
    given = put_read reads join start before.inputs files i d next step.bytes step.ended before.given within open' step.given;
    unread = λ j below. put_unread before.inputs i step.bytes step.ended j (omega (arith, below, before.onward, at)) (before.unread j below);
    same = take_set a.file files i next (omega (arith, before.onward, at)) ∙ before.same;
    last = λ j e. elim (put_end before.inputs i step.bytes step.ended j e) [ inl h ↦ omega (arith, before.last j h, onward) | inr h ↦ omega (arith, h.0, at, step.last h.1) ];
    onward = omega (arith, before.onward, onward);
    holds = λ told left all.
        let size = read_lengths reads start before.inputs files before.given in
        let p = put_known told before.inputs left i step.bytes step.ended (omega (arith, size, within)) open' all in
        let one : TakesFound b p.mids v (set p.mids b.file p.now) taken =
        step_found b v p.mids p.mid p.now taken none (subst (λ (n : ℕ). n < length p.mids) at p.within) (subst (λ (n : ℕ). get_or p.mids n p.mid ≡ p.mid) at p.at) (step.holds p.mid p.now p.one) in
        let both = TakesFound-more a b v told p.mids (set p.mids b.file p.now) [] taken (before.holds told p.mids p.before) one in
        subst (λ (l : List (Option (List ℕ))). TakesFound a told v l taken) (ap (λ (n : ℕ). set p.mids n p.now) (sym at) ∙ p.put) both;
  }
    where
      open' : has_end before.inputs i ≡ false
      open' = by_end (has_end before.inputs i) refl
        where
          by_end : (e : Bool) → has_end before.inputs i ≡ e → has_end before.inputs i ≡ false
          by_end false is = is
          by_end true is = absurd (omega (arith, before.last i is, at))

  -- a step that stops, behind others
  pub told_stop : ((old mid new : R) (bytes others : List ℕ) (ended : Bool) → reads old bytes false mid → reads mid others ended new → reads old (bytes ++ others) ended new)
      → (start files : List R) (i : ℕ) (d next : R) (a b v : UnitsState) (error : ReplayError) → AllTold reads start files a.file b.file (λ told left. TakesFound a told b left []) → i ≡ b.file → i < length files → b.file ≤ v.file
      → b.max_records ≡ a.max_records → Told reads (get_or files i d) next ⊥ (StopsTold b v error) → AllTold reads start (set files i next) a.file v.file (AllStopsTold a v error)
  told_stop join start files i d next a b v error before at within onward limit step = record {
    inputs = put_input before.inputs i step.bytes step.ended;
    given = put_read reads join start before.inputs files i d next step.bytes step.ended before.given within open' step.given;
    unread = λ j below. put_unread before.inputs i step.bytes step.ended j (omega (arith, below, before.onward, at)) (before.unread j below);
    same = take_set a.file files i next (omega (arith, before.onward, at)) ∙ before.same;
    last = λ j e. elim (put_end before.inputs i step.bytes step.ended j e) [ inl h ↦ omega (arith, before.last j h, onward) | inr h ↦ absurd (step.last h.1) ];
    onward = omega (arith, before.onward, onward);
    holds = λ told left all.
        let size = read_lengths reads start before.inputs files before.given in
        let p = put_known told before.inputs left i step.bytes step.ended (omega (arith, size, within)) open' all in
        stop_told a b v error told p.mids left i p.mid p.now (before.holds told p.mids p.before) at p.within p.at p.put limit (step.holds p.mid p.now p.one);
  }
    where
      open' : has_end before.inputs i ≡ false
      open' = by_end (has_end before.inputs i) refl
        where
          by_end : (e : Bool) → has_end before.inputs i ≡ e → has_end before.inputs i ≡ false
          by_end false is = is
          by_end true is = absurd (omega (arith, before.last i is, at))

  -- units that were pending, behind what was read
  pub told_pending : (start files : List R) (a b c : UnitsState) (given : List ReplayUnit) → AllTold reads start files a.file b.file (λ told left. TakesFound a told b left []) → GivesPending b c given
      → AllTold reads start files a.file c.file (λ told left. TakesFound a told c left (as_found given))
  told_pending start files a b c given before gives = record {
    inputs = before.inputs;
    given = before.given;
    unread = before.unread;
    same = before.same;
    last = λ i e. omega (arith, before.last i e, ap (λ (u : UnitsState). u.file) gives.0);
    onward = omega (arith, before.onward, ap (λ (u : UnitsState). u.file) gives.0);
    holds = λ told left all. TakesFound-more a b c told left left [] (as_found given) (before.holds told left all) (gives_found b c left given gives);
  }

-- at the end of the last file nothing is to come
pub ends_here : {R : Type 0} (remaining : R → Option (List ℕ)) (fails : R → ℕ) (a b : UnitsState) (start files : List R) → Gives remaining fails a start b files [] → length files ≡ b.count → b.file ≡ b.count → b.pending ≡ []
    → Ends remaining a start b
ends_here remaining fails a b start files gives size at none = record {
  nothing = λ contents h. let p = gives.found contents h in by_rest contents p.0 p.1 p.2;
  ended = (gives.state, at, none);
}
  where
    by_rest : (contents rest : List (List ℕ)) → drop b.file (map remaining files) ≡ map (λ bytes. Some bytes) rest → Passes a contents b rest [] → found_to_come a contents ≡ []
    by_rest contents [] is passes = passes.found ∙ ap (λ (l : List ReplayUnit). as_found l ++ []) none
    by_rest contents (x ∷ xs) is passes = absurd (omega (arith, ap length is, length-drop b.file (map remaining files), length-map files remaining, size, at))

-- ---- a step that stops

-- where the reader of records stands at the record's offset still, the reading stands before the failure as it stood
pub stands_before : (base : UnitsState) (p : Position) (s : ReadState) → p.file ≡ base.frames.file → p.offset ≡ base.frames.offset → base.frames.state ≡ Reading → base.state ≡ Reading → before_failure (record base { frames = p; state = s }) ≡ base
stands_before base p s file offset reading state =
    let e_1 : record { file = p.file; offset = p.offset; state = Reading } ≡ base.frames =
    ap (λ (n : ℕ). record { file = n; offset = p.offset; state = Reading }) file ∙ ap (λ (n : ℕ). record { file = base.frames.file; offset = n; state = Reading }) offset
    ∙ ap (λ (r : ReadState). record { file = base.frames.file; offset = base.frames.offset; state = r }) (sym reading) in
    ap (λ (q : Position). record base { frames = q; state = Reading }) e_1 ∙ ap (λ (r : ReadState). record base { state = r }) (sym state)

fails_by : (old new : UnitsState) (told left : Option (List ℕ)) (e : ReplayError) → before_failure new ≡ old → ReadsPart old.frames.offset told left e → FailsInRecord old told new left e
fails_by old new told left (errors.Read file) before part = (before, part)
fails_by old new told left errors.Write before part = tt
fails_by old new told left errors.Memory before part = tt
fails_by old new told left errors.Records before part = tt
fails_by old new told left errors.Spent before part = tt

pub fails_told : {R : Type 0} (reads : R → List ℕ → Bool → R → Type 0) (device device' : R) (old new : UnitsState) (f : Position) (e : ReplayError) → f ≡ old.frames → before_failure new ≡ old → (e ≡ errors.Records → ⊥)
    → Told reads device device' ⊥ (PartIs f e) → Told reads device device' ⊥ (StopsTold old new e)
fails_told reads device device' old new f e same before none t =
    told_map reads device device' ⊥ ⊥ (PartIs f e) (StopsTold old new e) (λ x. x)
    (λ told left' part. (fails_by old new told left' e before (subst (λ (p : Position). ReadsPart p.offset told left' e) same part.0), λ r. absurd (none r))) t

-- ---- whole files, and known ones

whole_known : (inputs : List Input) (rests wholes : List (List ℕ)) → AreWhole inputs rests wholes → AllKnown (map (λ bytes. Some bytes) wholes) inputs (map (λ bytes. Some bytes) rests)
whole_known [] [] [] h = tt
whole_known [] [] (w ∷ ws) h = absurd h
whole_known [] (r ∷ rs) ws h = absurd h
whole_known (x ∷ xs) [] ws h = absurd h
whole_known (x ∷ xs) (r ∷ rs) [] h = absurd h
whole_known (x ∷ xs) (r ∷ rs) (w ∷ ws) h = ((h.0, h.1), whole_known xs rs ws h.2)

pub told_whole : {R : Type 0} (reads : R → List ℕ → Bool → R → Type 0) (files left : List R) (first current : ℕ) (P : List (Option (List ℕ)) → List (Option (List ℕ)) → Type 0) (t : AllTold reads files left first current P)
    (rests wholes : List (List ℕ)) → AreWhole t.inputs rests wholes → P (map (λ bytes. Some bytes) wholes) (map (λ bytes. Some bytes) rests)
told_whole reads files left first current P t rests wholes h = t.holds (map (λ bytes. Some bytes) wholes) (map (λ bytes. Some bytes) rests) (whole_known t.inputs rests wholes h)

all_known : {R : Type 0} (remaining : R → Option (List ℕ)) (reads : R → List ℕ → Bool → R → Type 0) (known : (old new : R) (bytes : List ℕ) (ended : Bool) → reads old bytes ended new → ReadsKnown (remaining old) bytes ended (remaining new))
    (files : List R) (inputs : List Input) (left : List R) → AllRead reads files inputs left → AllKnown (map remaining files) inputs (map remaining left)
all_known remaining reads known [] [] [] h = tt
all_known remaining reads known [] [] (e ∷ es) h = absurd h
all_known remaining reads known [] (x ∷ xs) left h = absurd h
all_known remaining reads known (d ∷ ds) [] left h = absurd h
all_known remaining reads known (d ∷ ds) (x ∷ xs) [] h = absurd h
all_known remaining reads known (d ∷ ds) (x ∷ xs) (e ∷ es) h = (known d e x.0 x.1 h.0, all_known remaining reads known ds xs es h.1)

pub all_told_known : {R : Type 0} (remaining : R → Option (List ℕ)) (reads : R → List ℕ → Bool → R → Type 0) (known : (old new : R) (bytes : List ℕ) (ended : Bool) → reads old bytes ended new → ReadsKnown (remaining old) bytes ended (remaining new))
    (files left : List R) (first current : ℕ) (P : List (Option (List ℕ)) → List (Option (List ℕ)) → Type 0) → AllTold reads files left first current P → P (map remaining files) (map remaining left)
all_told_known remaining reads known files left first current P t = t.holds (map remaining files) (map remaining left) (all_known remaining reads known files t.inputs left t.given)

-- ---- two calls, one behind the other

-- what the first read of the files before this one, and of the others what both read
abbrev joined : ℕ → List Input → List Input → List Input
joined k [] ys = []
joined k (x ∷ xs) [] = []
joined zero (x ∷ xs) (y ∷ ys) = (x.0 ++ y.0, y.1) ∷ joined zero xs ys
joined (suc k) (x ∷ xs) (y ∷ ys) = x ∷ joined k xs ys

open_at : (xs : List Input) (x : Input) → ((j : ℕ) → has_end (x ∷ xs) j ≡ true → j < 0) → x.1 ≡ false
open_at xs x closed = by_end x.1 refl
  where
    by_end : (e : Bool) → x.1 ≡ e → x.1 ≡ false
    by_end false is = is
    by_end true is = absurd (omega (arith, closed 0 is))

join_read : {R : Type 0} (reads : R → List ℕ → Bool → R → Type 0)
    (more : (old mid new : R) (bytes others : List ℕ) (ended : Bool) → reads old bytes false mid → reads mid others ended new → reads old (bytes ++ others) ended new)
    (k : ℕ) (files : List R) (xs : List Input) (mids : List R) (ys : List Input) (left : List R) → AllRead reads files xs mids → AllRead reads mids ys left → take k left ≡ take k mids → ((j : ℕ) → has_end xs j ≡ true → j < k)
    → AllRead reads files (joined k xs ys) left
join_read reads more k [] [] [] [] [] p q same closed = tt
join_read reads more k [] [] [] [] (l ∷ ls) p q same closed = absurd q
join_read reads more k [] [] [] (y ∷ ys) left p q same closed = absurd q
join_read reads more k [] [] (m ∷ ms) ys left p q same closed = absurd p
join_read reads more k [] (x ∷ xs) mids ys left p q same closed = absurd p
join_read reads more k (f ∷ fs) [] mids ys left p q same closed = absurd p
join_read reads more k (f ∷ fs) (x ∷ xs) [] ys left p q same closed = absurd p
join_read reads more k (f ∷ fs) (x ∷ xs) (m ∷ ms) [] left p q same closed = absurd q
join_read reads more k (f ∷ fs) (x ∷ xs) (m ∷ ms) (y ∷ ys) [] p q same closed = absurd q
join_read reads more zero (f ∷ fs) (x ∷ xs) (m ∷ ms) (y ∷ ys) (l ∷ ls) p q same closed =
    (more f m l x.0 y.0 y.1 (subst (λ e. reads f x.0 e m) (open_at xs x closed) p.0) q.0, join_read reads more zero fs xs ms ys ls p.1 q.1 refl (λ j e. let h = closed (suc j) e in absurd (omega (arith, h))))
join_read reads more (suc k) (f ∷ fs) (x ∷ xs) (m ∷ ms) (y ∷ ys) (l ∷ ls) p q same closed =
    let one : l ≡ m = cc in
    let others : take k ls ≡ take k ms = cc in
    (subst (λ d. reads f x.0 x.1 d) (sym one) p.0, join_read reads more k fs xs ms ys ls p.1 q.1 others (λ j e. let h = closed (suc j) e in omega (arith, h)))

join_known : (k : ℕ) (told : List (Option (List ℕ))) (xs ys : List Input) (left : List (Option (List ℕ))) → length xs ≡ length ys → AllKnown told (joined k xs ys) left → ((j : ℕ) → j < k → is_unread ys j) → ((j : ℕ) → has_end xs j ≡ true → j < k)
    → (mids : List (Option (List ℕ))) × AllKnown told xs mids × AllKnown mids ys left
join_known k [] [] [] [] size all unread closed = ([], tt, tt)
join_known k [] [] [] (l ∷ ls) size all unread closed = absurd all
join_known k (t ∷ ts) [] [] left size all unread closed = absurd all
join_known k told [] (y ∷ ys) left size all unread closed = absurd cc
join_known k told (x ∷ xs) [] left size all unread closed = absurd cc
join_known zero [] (x ∷ xs) (y ∷ ys) left size all unread closed = absurd all
join_known (suc k) [] (x ∷ xs) (y ∷ ys) left size all unread closed = absurd all
join_known zero (t ∷ ts) (x ∷ xs) (y ∷ ys) [] size all unread closed = absurd all
join_known (suc k) (t ∷ ts) (x ∷ xs) (y ∷ ys) [] size all unread closed = absurd all
join_known zero (t ∷ ts) (x ∷ xs) (y ∷ ys) (l ∷ ls) size all unread closed =
    let m = told_between t l x.0 y.0 all.0.0 in
    let size' : length xs ≡ length ys = omega (arith, size) in
    let r = join_known zero ts xs ys ls size' all.1 (λ j h. absurd (omega (arith, h))) (λ j e. let h = closed (suc j) e in absurd (omega (arith, h))) in
    (m.0 ∷ r.0, ((m.1, λ e. let none : false ≡ true = sym (open_at xs x closed) ∙ e in absurd cc), r.1), ((m.2, all.0.1), r.2))
join_known (suc k) (t ∷ ts) (x ∷ xs) (y ∷ ys) (l ∷ ls) size all unread closed =
    let size' : length xs ≡ length ys = omega (arith, size) in
    let r = join_known k ts xs ys ls size' all.1 (λ j h. unread (suc j) (omega (arith, h))) (λ j e. let h = closed (suc j) e in omega (arith, h)) in
    let none : y ≡ ([], false) = unread 0 (omega arith) in
    (l ∷ r.0, (all.0, r.1), (subst (λ (z : Input). ReadsKnown l z.0 z.1 l) (sym none) (known_none l), r.2))

join_end : (k : ℕ) (xs ys : List Input) (j : ℕ) → has_end (joined k xs ys) j ≡ true → (has_end xs j ≡ true) ⊎ (has_end ys j ≡ true)
join_end k [] ys j e = inl e
join_end k (x ∷ xs) [] j e = inr e
join_end zero (x ∷ xs) (y ∷ ys) zero e = inr e
join_end zero (x ∷ xs) (y ∷ ys) (suc j) e = join_end zero xs ys j e
join_end (suc k) (x ∷ xs) (y ∷ ys) zero e = inl e
join_end (suc k) (x ∷ xs) (y ∷ ys) (suc j) e = join_end k xs ys j e

join_unread : (k : ℕ) (xs ys : List Input) (j : ℕ) → j < k → is_unread xs j → is_unread (joined k xs ys) j
join_unread k [] ys j below h = tt
join_unread k (x ∷ xs) [] j below h = tt
join_unread zero (x ∷ xs) (y ∷ ys) j below h = absurd (omega (arith, below))
join_unread (suc k) (x ∷ xs) (y ∷ ys) zero below h = h
join_unread (suc k) (x ∷ xs) (y ∷ ys) (suc j) below h = join_unread k xs ys j (omega (arith, below)) h

pub all_told_more : {R : Type 0} (reads : R → List ℕ → Bool → R → Type 0)
    (more : (old mid new : R) (bytes others : List ℕ) (ended : Bool) → reads old bytes false mid → reads mid others ended new → reads old (bytes ++ others) ended new)
    (files mids left : List R) (a b c : ℕ) (P Q S : List (Option (List ℕ)) → List (Option (List ℕ)) → Type 0) → ((told mid now : List (Option (List ℕ))) → P told mid → Q mid now → S told now)
    → AllTold reads files mids a b P → AllTold reads mids left b c Q → AllTold reads files left a c S
all_told_more reads more files mids left a b c P Q S both p q = record {
  inputs = joined b p.inputs q.inputs;
  given = join_read reads more b files p.inputs mids q.inputs left p.given q.given q.same p.last;
  unread = λ j below. join_unread b p.inputs q.inputs j (omega (arith, below, p.onward)) (p.unread j below);
  same = sym (take-take a b left p.onward) ∙ ap (take a) q.same ∙ take-take a b mids p.onward ∙ p.same;
  last = λ j e. elim (join_end b p.inputs q.inputs j e) [ inl h ↦ omega (arith, p.last j h, q.onward) | inr h ↦ q.last j h ];
  onward = omega (arith, p.onward, q.onward);
  holds = λ told now all.
      let size = read_lengths reads files p.inputs mids p.given ∙ sym (start_lengths reads mids q.inputs left q.given) in
      let r = join_known b told p.inputs q.inputs now size all q.unread p.last in
      both told r.0 now (p.holds told r.0 r.1) (q.holds r.0 now r.2);
}
  where
    start_lengths : {R : Type 0} (reads : R → List ℕ → Bool → R → Type 0) (start : List R) (inputs : List Input) (files : List R) → AllRead reads start inputs files → length inputs ≡ length start
    start_lengths reads [] [] [] all = refl
    start_lengths reads [] [] (f ∷ fs) all = absurd all
    start_lengths reads [] (x ∷ xs) files all = absurd all
    start_lengths reads (s ∷ ss) [] files all = absurd all
    start_lengths reads (s ∷ ss) (x ∷ xs) [] all = absurd all
    start_lengths reads (s ∷ ss) (x ∷ xs) (f ∷ fs) all = ap suc (start_lengths reads ss xs fs all.1)
