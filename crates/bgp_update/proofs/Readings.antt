-- Readings one after the other, fields that repeat, and calls that return what a reading gives.
use Rattle.std.proofs.Common.{◌≡◌, ℕ, ◌<◌, List, [], ◌∷◌, ◌++◌, length, Result, Ok, Err, refl, sym, ◌∙◌, append-nil, append_assoc}
use Rattle.std.specs.Prelude.{IfOk}
use Rattle.std.specs.List.{fold, flat_map, AllByRecursion}
use Rattle.mrt_frame.specs.declared.fault.Fault.{Fault}
use Rattle.mrt_frame.specs.Fields.{Reading, ◌>>=◌, items_in}
use Rattle.mrt_frame.proofs.Items.{AreGood, items_after-is, items_after-spelled}
use Rattle.mrt_frame.proofs.FieldLaws.{IsBytes}
use Rattle.bgp_update.specs.declared.attr_error.AttrError.{AttrError}
use Rattle.bgp_update.specs.Results.{Gives}

pub bind_assoc : {A B C : Type 0} (r : Result A Fault) (f : A → Result B Fault) (g : B → Result C Fault) → ((r >>= f) >>= g) ≡ (r >>= λ x. f x >>= g)
bind_assoc (Ok x) f g = refl
bind_assoc (Err fault) f g = refl

-- a reading whose value is mapped fails as it does
pub mapped_err : {A B : Type 0} (r : Result A Fault) (f : A → B) (fault : Fault) → (r >>= λ x. Ok (f x)) ≡ Err fault → r ≡ Err fault
mapped_err (Ok x) f fault e = absurd cc
mapped_err (Err other) f fault e = cc

-- what a call returned has what every value has that the reading gives
pub given : {X : Type 0} (r : Result X AttrError) (read : Result X Fault) (P : X → Type 0) → Gives (λ x. x) r read → ((x : X) → read ≡ Ok x → P x) → IfOk r P
given (Ok x) read P e law = law x e
given (Err error) read P e law = tt

-- ---- items one behind the other

abbrev pub push : {A : Type 0} → List A → A → List A
push front x = front ++ x ∷ []

pub fold_push : {A : Type 0} (front xs : List A) → fold push front xs ≡ front ++ xs
fold_push front [] = sym (append-nil front)
fold_push front (x ∷ xs) = fold_push (front ++ x ∷ []) xs ∙ append_assoc front (x ∷ []) xs

-- ---- items that don't depend on those before them

module _ {A : Type 0} (read : List ℕ → Reading A) (fault : Fault) (spell : A → List ℕ) (IsItem : A → Type 0) where
  abbrev Good : List A → Type 0
  Good xs = AreGood {S = Unit {0}} (λ s. read) (λ s x. s) fault spell (λ s. IsItem) IsBytes tt xs

  each_good : (xs : List A) → AllByRecursion IsItem xs → Good xs
  each_good [] h = tt
  each_good (x ∷ xs) h = (h.0, each_good xs h.1)

  good_each : (xs : List A) → Good xs → AllByRecursion IsItem xs
  good_each [] h = tt
  good_each (x ∷ xs) h = (h.0, good_each xs h.1)

  -- what is read was written so
  pub items_in-is : ((bytes : List ℕ) (x : A × List ℕ) → IsBytes bytes → read bytes ≡ Ok x → (bytes ≡ spell x.0 ++ x.1) × IsItem x.0 × IsBytes x.1)
      → (bytes : List ℕ) (xs : List A) → IsBytes bytes → items_in read fault bytes ≡ Ok xs → (bytes ≡ flat_map spell xs) × AllByRecursion IsItem xs
  items_in-is takes bytes xs fine e =
      let both = items_after-is {S = Unit {0}} (λ s. read) (λ s x. s) fault spell (λ s. IsItem) IsBytes (λ s. takes) tt bytes xs fine e in
      (both.0, good_each xs both.1)

  -- what is written is read
  pub items_in-spelled : ((x : A) → 0 < length (spell x)) → ((x : A) (rest : List ℕ) → IsItem x → read (spell x ++ rest) ≡ Ok (x, rest)) → (xs : List A) → AllByRecursion IsItem xs → items_in read fault (flat_map spell xs) ≡ Ok xs
  items_in-spelled pos again xs h = items_after-spelled {S = Unit {0}} (λ s. read) (λ s x. s) fault spell (λ s. IsItem) IsBytes pos (λ s. again) tt xs (each_good xs h)
