-- What the calls of a buffer do to the text.
use Rattle.std.proofs.Common.{◌≡◌, ℕ, inl, inr, true, false, List, [], ◌++◌, Option, Result, Ok, Err, refl, sym, ap, ◌∙◌, subst, append_assoc, append-nil, arith, length, take, drop, take-append-drop, length-append}
use Rattle.std.proofs.lemmas.Bool.{cases_lt, false≢true}
use Rattle.std.proofs.lemmas.List.{take_at, nil_from_length}
use Rattle.std.specs.Io.KnownBytes.{Appends}
use Rattle.std.proofs.KnownBytes.{Appends-trans, Appends-nil}
use Rattle.mrt_frame.specs.Devices.{HasFailed, one_more, greatest_count}
use Rattle.mrt_frame.specs.Writes.{WritesFront}
use Rattle.mrt_frame.specs.declared.error.ReplayError.{ReplayError}
use Rattle.mrt_frame.specs.declared.error.ReplayError.TheVariants.{Write}
use Rattle.report_lines.specs.Texts.{TextState, empty_buffer, IsText, Adds, IsOutput}
use Rattle.ip_text.specs.Formats.{Formats}

pub Adds_trans : {s t u : TextState} {p q : List ℕ} → Adds s t p → Adds t u q → Adds s u (p ++ q)
Adds_trans {p = p} {q = q} f g = record { same = g.same ∙ f.same; adds = λ contents failures text h. subst (IsText contents failures _) (append_assoc text p q) (g.adds contents failures (text ++ p) (f.adds contents failures text h)) }

-- the same text, written another way
pub Adds_as : {s t : TextState} {p q : List ℕ} → p ≡ q → Adds s t p → Adds s t q
Adds_as {s = s} {t = t} e f = subst (Adds s t) e f

-- a piece joined to those that wait
pub Adds_grown : {s t : TextState} {p : List ℕ} → t.writer ≡ s.writer → t.contents ≡ s.contents → t.failures ≡ s.failures → t.buffer.waiting ≡ s.buffer.waiting ++ p → t.buffer.failed ≡ s.buffer.failed → Adds s t p
Adds_grown {s = s} {t = t} {p = p} one same count more failed = record {
  same = one;
  adds = λ contents failures text h. record {
    front = h.front;
    rest = h.rest ++ p;
    held = subst (λ c. Appends contents c h.front) (sym same) h.held;
    whole = ap (λ l. l ++ p) h.whole ∙ append_assoc h.front h.rest p;
    waits = λ e. ap (λ l. l ++ p) (h.waits (sym failed ∙ e)) ∙ sym more;
    sound = λ e. count ∙ h.sound (sym failed ∙ e);
    risen = λ e. subst (HasFailed failures) (sym count) (h.risen (sym failed ∙ e));
  };
}

pub Adds_none : {s : TextState} → Adds s s []
Adds_none {s = s} = Adds_grown refl refl refl (sym (append-nil s.buffer.waiting)) refl

-- all that waited was written
pub Adds_handed : {s t : TextState} → t.writer ≡ s.writer → s.buffer.failed ≡ false → Appends s.contents t.contents s.buffer.waiting → t.failures ≡ s.failures → t.buffer.waiting ≡ [] → t.buffer.failed ≡ false → Adds s t []
Adds_handed {s = s} {t = t} one well held count none still = record {
  same = one;
  adds = λ contents failures text h. record {
    front = h.front ++ s.buffer.waiting;
    rest = [];
    held = Appends-trans _ _ _ h.front s.buffer.waiting h.held held;
    whole = append-nil text ∙ h.whole ∙ ap (λ l. h.front ++ l) (h.waits well) ∙ sym (append-nil (h.front ++ s.buffer.waiting));
    waits = λ e. sym none;
    sound = λ e. count ∙ h.sound well;
    risen = λ e. cc;
  };
}

risen-one_more : (old new : ℕ) → new ≡ one_more old → HasFailed old new
risen-one_more old new e = elim (cases_lt old greatest_count) [ inl lt ↦ inl (omega (arith, e)) | inr le ↦ inr le ]

-- the write of what waited failed
pub Adds_lost : {s t : TextState} → t.writer ≡ s.writer → s.buffer.failed ≡ false → WritesFront s.contents t.contents s.buffer.waiting → t.failures ≡ one_more s.failures → t.buffer.failed ≡ true → Adds s t []
Adds_lost {s = s} {t = t} one well front count lost = record {
  same = one;
  adds = λ contents failures text h. record {
    front = h.front ++ take front.0 s.buffer.waiting;
    rest = drop front.0 s.buffer.waiting;
    held = Appends-trans _ _ _ h.front (take front.0 s.buffer.waiting) h.held front.2;
    whole = append-nil text ∙ h.whole ∙ ap (λ l. h.front ++ l) (h.waits well ∙ sym (take-append-drop front.0 s.buffer.waiting)) ∙ sym (append_assoc h.front (take front.0 s.buffer.waiting) (drop front.0 s.buffer.waiting));
    waits = λ e. cc;
    sound = λ e. cc;
    risen = λ e. subst (λ n. HasFailed n t.failures) (h.sound well) (risen-one_more s.failures t.failures count);
  };
}

-- a piece was written of which nothing waits
pub Adds_written : {s t : TextState} {p : List ℕ} → t.writer ≡ s.writer → s.buffer.waiting ≡ [] → s.buffer.failed ≡ false → Appends s.contents t.contents p → t.failures ≡ s.failures → t.buffer.waiting ≡ [] → t.buffer.failed ≡ false → Adds s t p
Adds_written {s = s} {t = t} {p = p} one before well held count none still =
    let waits : TextState = record { writer = s.writer; contents = s.contents; failures = s.failures; buffer = record { waiting = p; failed = false } } in
    Adds_as (append-nil p) (Adds_trans (Adds_grown {t = waits} refl refl refl (ap (λ l. l ++ p) (sym before)) (sym well)) (Adds_handed {s = waits} one refl held count none still))

-- the write of that piece failed
pub Adds_unwritten : {s t : TextState} {p : List ℕ} → t.writer ≡ s.writer → s.buffer.waiting ≡ [] → s.buffer.failed ≡ false → WritesFront s.contents t.contents p → t.failures ≡ one_more s.failures → t.buffer.failed ≡ true → Adds s t p
Adds_unwritten {s = s} {t = t} {p = p} one before well front count lost =
    let waits : TextState = record { writer = s.writer; contents = s.contents; failures = s.failures; buffer = record { waiting = p; failed = false } } in
    Adds_as (append-nil p) (Adds_trans (Adds_grown {t = waits} refl refl refl (ap (λ l. l ++ p) (sym before)) (sym well)) (Adds_lost {s = waits} one refl front count lost))

-- after a failure what waits is dropped
pub Adds_dropped : {s t : TextState} {p : List ℕ} → t.writer ≡ s.writer → s.buffer.failed ≡ true → t.contents ≡ s.contents → t.failures ≡ s.failures → t.buffer.failed ≡ true → Adds s t p
Adds_dropped {s = s} {t = t} {p = p} one lost same count still = record {
  same = one;
  adds = λ contents failures text h. record {
    front = h.front;
    rest = h.rest ++ p;
    held = subst (λ c. Appends contents c h.front) (sym same) h.held;
    whole = ap (λ l. l ++ p) h.whole ∙ append_assoc h.front h.rest p;
    waits = λ e. cc;
    sound = λ e. cc;
    risen = λ e. subst (HasFailed failures) (sym count) (h.risen lost);
  };
}

-- all was written at the end
pub output_whole : {s t : TextState} (contents : Option (List ℕ)) (failures : ℕ) (text : List ℕ) → Adds s t [] → length t.buffer.waiting ≡ 0 → t.buffer.failed ≡ false → IsText contents failures s text
    → IsOutput contents failures t.contents t.failures text (Ok tt)
output_whole {t = t} contents failures text f none well h =
    let k = f.adds contents failures text h in
    let waits : k.rest ≡ [] = k.waits well ∙ nil_from_length t.buffer.waiting none in
    let whole : text ≡ k.front = sym (append-nil text) ∙ k.whole ∙ ap (λ l. k.front ++ l) waits ∙ append-nil k.front in
    record { ok = subst (Appends contents t.contents) (sym whole) k.held; front = tt; write = λ e. absurd cc; sound = k.sound well; risen = tt }

-- a write failed on the way
pub output_cut_off : {s t : TextState} (contents : Option (List ℕ)) (failures : ℕ) (text : List ℕ) → Adds s t [] → t.buffer.failed ≡ true → IsText contents failures s text
    → IsOutput contents failures t.contents t.failures text (Err Write)
output_cut_off {t = t} contents failures text f lost h =
    let k = f.adds contents failures text h in
    let whole : text ≡ k.front ++ k.rest = sym (append-nil text) ∙ k.whole in
    let front : k.front ≡ take (length k.front) text = sym (take_at k.front k.rest (length k.front) refl) ∙ ap (take (length k.front)) (sym whole) in
    let written : WritesFront contents t.contents text = (length k.front, omega (arith, ap length whole, length-append k.front k.rest), subst (Appends contents _) front k.held) in
    record { ok = tt; front = written; write = λ e. refl; sound = tt; risen = k.risen lost }

-- what a fresh buffer was given
pub text_begun : {s t : TextState} {p : List ℕ} → s.buffer ≡ empty_buffer → Adds s t p → IsText s.contents s.failures t p
text_begun {s = s} fresh f = f.adds s.contents s.failures [] (record {
  front = [];
  rest = [];
  held = Appends-nil s.contents;
  whole = refl;
  waits = λ _. sym (ap (λ b. b.waiting) fresh);
  sound = λ _. refl;
  risen = λ e. absurd (false≢true (sym (ap (λ b. b.failed) fresh) ∙ e));
})

-- the writer as it is when the text is over
pub output_at : {W : Type 0} (held : W → Option (List ℕ)) (count : W → ℕ) {contents : Option (List ℕ)} {failures : ℕ} {now end : W} {text : List ℕ} {result : Result (Unit {0}) ReplayError}
    → end ≡ now → IsOutput contents failures (held now) (count now) text result → IsOutput contents failures (held end) (count end) text result
output_at held count {contents = contents} {failures = failures} {text = text} {result = result} e output =
    subst (λ w. IsOutput contents failures (held w) (count w) text result) (sym e) output

-- a field behind the bytes that wait, in the same block
pub Adds_formatted : {s t u : TextState} {old new : List ℕ} {at end most : ℕ} {p : List ℕ} → Adds s t [] → Formats old at new end most p → t.buffer.waiting ≡ take at old
    → u ≡ record { writer = t.writer; contents = t.contents; failures = t.failures; buffer = record { waiting = take end new; failed = t.buffer.failed } } → Adds s u p
Adds_formatted {s = s} {t = t} {p = p} f text before after =
    subst (λ u. Adds s u p) (sym after) (Adds_trans f (Adds_grown refl refl refl (text.text ∙ ap (λ l. l ++ p) (sym before)) refl))
