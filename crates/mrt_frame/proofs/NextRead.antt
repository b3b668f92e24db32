-- What a call of a reader of records read, and what calls read one after the other.
use Rattle.std.proofs.Common.{◌≡◌, ℕ, ◌+◌, Bool, true, false, List, [], ◌++◌, Option, Some, None, Result, Ok, Err, IfOk, IfErr, IfSome, length, refl, sym, ap, ◌∙◌, subst, arith, append_assoc, option_to_list}
use Rattle.mrt_frame.specs.declared.cut.Cut.{Cut}
use Rattle.mrt_frame.specs.declared.cut.Cut.TheVariants.{Whole, Broken}
use Rattle.mrt_frame.specs.declared.read_state.ReadState.TheVariants.{Reading, Ended}
use Rattle.mrt_frame.specs.declared.error.ReplayError.{ReplayError}
use Rattle.mrt_frame.specs.declared.error.ReplayError.TheVariants.{Read, Write, Memory, Records, Spent as WasSpent}
use Rattle.mrt_frame.specs.Cuts.{cuts, header_size}
use Rattle.mrt_frame.specs.Frames.{Position, to_come, to_come_in, cuts_behind, state_after, StandsAt, TakesCuts, ReadsPart}
use Rattle.std.specs.Io.KnownBytes.{Consumes}
use Rattle.mrt_frame.specs.Given.{IsBroken, ReadsFirst, ReadsPartOf, ReadsKnown, MayFollow, Told, NextIs, PartIs}

-- of what a file holds, and so of each telling
takes_told : (old new : Position) (before after : Option (List ℕ)) (bytes : List ℕ) (ended : Bool) (taken : List Cut) → ReadsKnown before bytes ended after
    → ((rest : List ℕ) → MayFollow ended rest → to_come old (bytes ++ rest) ≡ taken ++ to_come new rest) → TakesCuts old before new after taken
takes_told old new None after bytes ended taken known takes = tt
takes_told old new (Some before) None bytes ended taken known takes = absurd known.0
takes_told old new (Some before) (Some after) bytes ended taken known takes = ap (to_come old) known.0 ∙ takes after known.1

part_told : (offset : ℕ) (before after : Option (List ℕ)) (bytes : List ℕ) (error : ReplayError) → ReadsKnown before bytes false after → IsBroken offset bytes error → ReadsPart offset before after error
part_told offset before after bytes (Read file) known broken = (bytes, broken.0, broken.1, known.0)
part_told offset before after bytes Write known broken = tt
part_told offset before after bytes Memory known broken = tt
part_told offset before after bytes Records known broken = tt
part_told offset before after bytes WasSpent known broken = tt

pub next-part : {R : Type 0} (reads : R → List ℕ → Bool → R → Type 0) (old : Position) (offset : ℕ) (device device' : R) (error : ReplayError) → offset ≡ old.offset → ReadsPartOf reads offset device device' error
    → Told reads device device' ⊥ (PartIs old error)
next-part reads old offset device device' error same read = record {
  bytes = read.bytes;
  ended = false;
  given = read.given;
  last = λ e. absurd cc;
  holds = λ told left known. (part_told old.offset told left read.bytes error known (subst (λ n. IsBroken n read.bytes error) same read.broken), (read.bytes, known.0, read.few));
}

pub next-part_by : {R : Type 0} (reads : R → List ℕ → Bool → R → Type 0) (old : Position) (offset : ℕ) (device device' : R) (result : Result (Option Cut) ReplayError) → offset ≡ old.offset
    → IfErr result (ReadsPartOf reads offset device device') → IfErr result (λ error. old.state ≡ Reading → Told reads device device' ⊥ (PartIs old error))
next-part_by reads old offset device device' (Ok cut) same read = tt
next-part_by reads old offset device device' (Err error) same read = λ reading. next-part reads old offset device device' error same read

module _ {R : Type 0} (reads : R → List ℕ → Bool → R → Type 0) (old new : Position) (device device' : R) where
  -- a cut, and then what is behind it
  next-cut : (cut : Option Cut) → old.state ≡ Reading → ReadsFirst reads old.offset device device' cut → new.state ≡ state_after cut → ((rest : List ℕ) → cuts_behind cut rest ≡ to_come new rest)
      → Told reads device device' (new.state ≡ Ended) (NextIs old new cut)
  next-cut cut reading read state behind = record {
    bytes = read.bytes;
    ended = read.ended;
    given = read.given;
    last = λ e. state ∙ read.last e;
    holds = λ told left known. (
      takes_told old new told left read.bytes read.ended (option_to_list cut) known
          (λ rest may. ap (λ s. to_come_in s old.offset (read.bytes ++ rest)) reading ∙ read.first rest may ∙ ap (λ l. option_to_list cut ++ l) (behind rest)),
      (read.bytes, known.0, read.few),
    );
  }

  -- nothing is to come of an ended reading
  none-behind : new.state ≡ Ended → (rest : List ℕ) → [] ≡ to_come new rest
  none-behind state rest = sym (ap (λ s. to_come_in s new.offset rest) state)

  pub next-last : (cut : Option Cut) → old.state ≡ Reading → ReadsFirst reads old.offset device device' cut → state_after cut ≡ Ended → new.state ≡ Ended → Told reads device device' (new.state ≡ Ended) (NextIs old new cut)
  next-last None reading read last state = next-cut None reading read state (none-behind state)
  next-last (Some (Whole r)) reading read last state = absurd cc
  next-last (Some (Broken offset fault)) reading read last state = next-cut (Some (Broken offset fault)) reading read state (none-behind state)

  pub next-whole : (r : _) → old.state ≡ Reading → ReadsFirst reads old.offset device device' (Some (Whole r)) → StandsAt old.offset (Whole r) → new.state ≡ Reading → new.offset ≡ old.offset + (header_size + length r.body)
      → Told reads device device' (new.state ≡ Ended) (NextIs old new (Some (Whole r)))
  next-whole r reading read at state offset =
      next-cut (Some (Whole r)) reading read state
      (λ rest. ap (λ (n : ℕ). cuts n rest) (ap (λ (n : ℕ). n + (header_size + length r.body)) at.0 ∙ sym offset) ∙ sym (ap (λ s. to_come_in s new.offset rest) state))

  -- ---- the same, of a result

  pub next-last_by : (result : Result (Option Cut) ReplayError) → old.state ≡ Reading → IfOk result (ReadsFirst reads old.offset device device') → IfOk result (λ cut. state_after cut ≡ Ended) → new.state ≡ Ended
      → IfOk result (λ cut. Told reads device device' (new.state ≡ Ended) (NextIs old new cut))
  next-last_by (Ok cut) reading read last state = next-last cut reading read last state
  next-last_by (Err e) reading read last state = tt

  pub next-whole_by : (r : _) (result : Result (Option Cut) ReplayError) → result ≡ Ok (Some (Whole r)) → old.state ≡ Reading → IfOk result (ReadsFirst reads old.offset device device')
      → IfOk result (λ cut. IfSome cut (StandsAt old.offset)) → new.state ≡ Reading → new.offset ≡ old.offset + (header_size + length r.body) → IfOk result (λ cut. Told reads device device' (new.state ≡ Ended) (NextIs old new cut))
  next-whole_by r result is reading read at state offset =
      subst (λ res. IfOk res (λ cut. Told reads device device' (new.state ≡ Ended) (NextIs old new cut))) (sym is)
      (next-whole r reading (subst (λ res. IfOk res (ReadsFirst reads old.offset device device')) is read) (subst (λ res. IfOk res (λ cut. IfSome cut (StandsAt old.offset))) is at) state offset)

-- a reading that has ended reads nothing
pub next-none : {R : Type 0} (reads : R → List ℕ → Bool → R → Type 0) (none : (device : R) → reads device [] false device) (old : Position) (device : R) → old.state ≡ Ended
    → Told reads device device (old.state ≡ Ended) (NextIs old old None)
next-none reads none old device ended = record {
  bytes = [];
  ended = false;
  given = none device;
  last = λ e. absurd cc;
  holds = λ told left known. (takes_told old old told left [] false [] known (λ rest _. refl), ([], known.0, omega arith));
}

-- what was told between two readings, one behind the other
told_between : (told left : Option (List ℕ)) (bytes more : List ℕ) → Consumes told left (bytes ++ more) → (mid : Option (List ℕ)) × Consumes told mid bytes × Consumes mid left more
told_between None left bytes more gave = (None, tt, tt)
told_between (Some told) None bytes more gave = absurd gave
told_between (Some told) (Some left) bytes more gave = (Some (more ++ left), gave ∙ append_assoc bytes more left, refl)

-- What holds of two readings, one behind the other, holds of both. Where the first has seen the end, the second reads nothing.
pub told_more : {R : Type 0} (reads : R → List ℕ → Bool → R → Type 0)
    (join : (old mid new : R) (bytes others : List ℕ) (ended : Bool) → reads old bytes false mid → reads mid others ended new → reads old (bytes ++ others) ended new)
    (x y z : R) (closed closed' : Type 0) (P Q S : Option (List ℕ) → Option (List ℕ) → Type 0) → ((told mid left : Option (List ℕ)) → P told mid → Q mid left → S told left)
    → Told reads x y closed P → Told reads y z closed' Q → (closed → (z ≡ y) × closed' × ((left : Option (List ℕ)) → Q left left)) → Told reads x z closed' S
told_more {R} reads join x y z closed closed' P Q S both p q stays = by_end p.ended refl
  where
    by_end : (ended : Bool) → p.ended ≡ ended → Told reads x z closed' S
    by_end false is = record {
      bytes = p.bytes ++ q.bytes;
      ended = q.ended;
      given = join x y z p.bytes q.bytes q.ended (subst (λ e. reads x p.bytes e y) is p.given) q.given;
      last = q.last;
      holds = λ told left known.
          let t = told_between told left p.bytes q.bytes known.0 in
          both told t.0 left (p.holds told t.0 (t.1, λ e. let none : false ≡ true = sym is ∙ e in absurd cc)) (q.holds t.0 left (t.2, known.1));
    }
    by_end true is =
        let same = stays (p.last is) in record {
          bytes = p.bytes;
          ended = p.ended;
          given = subst (λ d. reads x p.bytes p.ended d) (sym same.0) p.given;
          last = λ _. same.1;
          holds = λ told left known. both told left left (p.holds told left known) (same.2 left);
        }

-- of a reading that stays as it is nothing is taken
pub takes_nothing : (old new : Position) (left : Option (List ℕ)) (taken : List Cut) → new ≡ old → taken ≡ [] → TakesCuts old left new left taken
takes_nothing old new None taken same none = tt
takes_nothing old new (Some left) taken same none = ap (λ s. to_come s left) (sym same) ∙ ap (λ l. l ++ to_come new left) (sym none)
