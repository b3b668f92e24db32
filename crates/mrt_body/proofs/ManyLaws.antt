-- Items as often as a count says, as a loop reads them.
use Rattle.std.proofs.Common.{◌≡◌, ℕ, zero, suc, ◌+◌, ◌-◌, ◌<◌, ◌≤◌, Bool, true, false, cond, eqb, List, [], ◌∷◌, ◌++◌, length, map, Result, Ok, Err, refl, sym, ap, subst, ◌∙◌, arith, append_assoc, ◌⊎◌, inl, inr}
use Rattle.std.specs.List.{flat_map, AllByRecursion}
use Rattle.mrt_frame.specs.declared.fault.Fault.{Fault}
use Rattle.mrt_frame.specs.declared.fault.Fault.TheVariants.{TrailingBytes}
use Rattle.mrt_frame.specs.Fields.{Reading, ◌>>=◌}
use Rattle.mrt_frame.proofs.Items.{bind_ok, ok_is, still}
use Rattle.mrt_frame.proofs.FieldLaws.{IsBytes}
use Rattle.bgp_update.proofs.Readings.{push, fold_push, mapped_err}
use Rattle.mrt_body.specs.Many.{many}

still_cons : {A B : Type 0} (step : B → A → B) (b : B) (x : A) (r : Result (List A) Fault) → still step b (r >>= λ others. Ok (x ∷ others)) ≡ still step (step b x) r
still_cons step b x (Ok xs) = refl
still_cons step b x (Err e) = refl

-- a step that failed, or one after it
pub bind_err : {A B : Type 0} (r : Result A Fault) (f : A → Result B Fault) (fault : Fault) → (r >>= f) ≡ Err fault → (r ≡ Err fault) ⊎ ((x : A) × (r ≡ Ok x) × (f x ≡ Err fault))
bind_err (Ok x) f fault e = inr (x, refl, e)
bind_err (Err other) f fault e = inl cc

abbrev failed : {A : Type 0} → Fault → Result (List A) Fault
failed fault = Err fault

-- what is read, seen by f
abbrev pub seen : {A B : Type 0} → (A → B) → Reading A → Reading B
seen {A} {B} f r = ◌>>=◌ {A = A × List ℕ} {B = B × List ℕ} r (λ x. Ok (f x.0, x.1))

module _ {A : Type 0} (read : List ℕ → Reading A) where
  -- the first item, and the others
  pub many-first : (n : ℕ) (bytes : List ℕ) (xs : List A) → many read (suc n) bytes ≡ Ok xs → (first : A × List ℕ) × (read bytes ≡ Ok first) × (others : List A) × (many read n first.1 ≡ Ok others) × (xs ≡ first.0 ∷ others)
  many-first n bytes xs e =
      let a = bind_ok (read bytes) (λ first. many read n first.1 >>= λ others. Ok (first.0 ∷ others)) xs e in
      let b = bind_ok (many read n a.0.1) (λ others. Ok (a.0.0 ∷ others)) xs a.2 in
      (a.0, a.1, b.0, b.1, sym (ok_is (a.0.0 ∷ b.0) xs b.2))

  pub many-with : (n : ℕ) (bytes : List ℕ) (x : A) (after : List ℕ) → read bytes ≡ Ok (x, after) → many read (suc n) bytes ≡ (many read n after >>= λ others. Ok (x ∷ others))
  many-with n bytes x after h = rw h refl

  pub many-length : (n : ℕ) (bytes : List ℕ) (xs : List A) → many read n bytes ≡ Ok xs → length xs ≡ n
  many-length zero bytes xs e = none (eqb (length bytes) 0) xs e
    where
      none : (b : Bool) (ys : List A) → cond b (Ok []) (Err TrailingBytes) ≡ Ok ys → length ys ≡ 0
      none true ys h = ap length (sym (ok_is [] ys h))
      none false ys h = absurd cc
  many-length (suc n) bytes xs e =
      let f = many-first n bytes xs e in
      ap length f.4 ∙ ap suc (many-length n f.0.1 f.2 f.3)

  -- ---- a loop over the items

  pub goes_on : {B : Type 0} (step : B → A → B) (b : B) (count i : ℕ) (bytes : List ℕ) (x : A) (after : List ℕ) (total : Result B Fault) → i < count → read bytes ≡ Ok (x, after)
      → still step b (many read (count - i) bytes) ≡ total → still step (step b x) (many read (count - (i + 1)) after) ≡ total
  goes_on step b count i bytes x after total lt h so_far =
      let k : count - i ≡ suc (count - (i + 1)) = omega arith in
      sym (ap (λ (n : ℕ). still step b (many read n bytes)) k ∙ ap (still step b) (many-with (count - (i + 1)) bytes x after h) ∙ still_cons step b x (many read (count - (i + 1)) after)) ∙ so_far

  pub fails : {B : Type 0} (step : B → A → B) (b : B) (count i : ℕ) (bytes : List ℕ) (f : Fault) (total : Result B Fault) → i < count → read bytes ≡ Err f
      → still step b (many read (count - i) bytes) ≡ total → total ≡ Err f
  fails step b count i bytes f total lt h so_far =
      let k : count - i ≡ suc (count - (i + 1)) = omega arith in
      let none : many read (suc (count - (i + 1))) bytes ≡ Err f = rw h refl in
      sym so_far ∙ ap (λ (n : ℕ). still step b (many read n bytes)) k ∙ ap (still step b) none

  pub is_done : {B : Type 0} (step : B → A → B) (b : B) (count i : ℕ) (bytes : List ℕ) (total : Result B Fault) → count ≤ i → eqb (length bytes) 0 ≡ true
      → still step b (many read (count - i) bytes) ≡ total → total ≡ Ok b
  is_done step b count i bytes total le none so_far =
      let k : count - i ≡ 0 = omega arith in
      let all : many read 0 bytes ≡ Ok [] = rw none refl in
      sym so_far ∙ ap (λ (n : ℕ). still step b (many read n bytes)) k ∙ ap (still step b) all

  -- items that are each read and then seen by f
  pub many-map : {B : Type 0} (f : A → B) (n : ℕ) (bytes : List ℕ) → many (λ (b : List ℕ). seen f (read b)) n bytes ≡ (many read n bytes >>= λ xs. Ok (map f xs))
  many-map {B} f zero bytes = whole (eqb (length bytes) 0)
    where
      whole : (b : Bool) → cond b (Ok []) (Err TrailingBytes) ≡ (cond b (Ok []) (Err TrailingBytes) >>= λ (xs : List A). Ok (map f xs))
      whole true = refl
      whole false = refl
  many-map {B} f (suc n) bytes = one (many-map f n) (read bytes)
    where
      others : (x : A) (r : Result (List A) Fault) → ((r >>= λ xs. Ok (map f xs)) >>= λ os. Ok (f x ∷ os)) ≡ ((r >>= λ os. Ok (x ∷ os)) >>= λ xs. Ok (map f xs))
      others x (Ok xs) = refl
      others x (Err e) = refl

      one : ((bytes : List ℕ) → many (λ (b : List ℕ). seen f (read b)) n bytes ≡ (many read n bytes >>= λ xs. Ok (map f xs))) → (r : Reading A)
          → (seen f r >>= λ first. many (λ (b : List ℕ). seen f (read b)) n first.1 >>= λ os. Ok (first.0 ∷ os)) ≡ ((r >>= λ first. many read n first.1 >>= λ os. Ok (first.0 ∷ os)) >>= λ xs. Ok (map f xs))
      one same (Ok x) = ap (λ (r : Result (List B) Fault). r >>= λ os. Ok (f x.0 ∷ os)) (same x.1) ∙ others x.0 (many read n x.1)
      one same (Err e) = refl

-- ---- items that are seen by f

abbrev pub done : {A : Type 0} → A → Result A Fault
done x = Ok x

pub seen_ok : {A B : Type 0} (f : A → B) (r : Reading A) (y : B) (after : List ℕ) → seen f r ≡ Ok (y, after) → (x : A) × (r ≡ Ok (x, after)) × (f x ≡ y)
seen_ok {A} {B} f (Ok x) y after e =
    let same = ok_is (f x.0, x.1) (y, after) e in
    let rest : x.1 ≡ after = ap (λ (p : B × List ℕ). p.1) same in
    (x.0, ap (λ (l : List ℕ). done (x.0, l)) rest, ap (λ (p : B × List ℕ). p.0) same)
seen_ok {A} {B} f (Err fault) y after e = absurd cc

-- ---- how loops begin

pub starts : {A : Type 0} (r : Result (List A) Fault) (front : List A) → front ≡ [] → still push front r ≡ r
starts {A} (Ok xs) front e = ap (λ (l : List A). done l) (fold_push front xs ∙ ap (λ (l : List A). l ++ xs) e)
starts {A} (Err fault) front e = refl

pub no_minus : (n : ℕ) → n - 0 ≡ n
no_minus n = omega arith

-- ---- what is read was written so, and what is written is read

module _ {A : Type 0} (read : List ℕ → Reading A) (spell : A → List ℕ) (IsGood : A → Type 0) where
  abbrev pub Takes : Type 0
  Takes = (bytes : List ℕ) (x : A × List ℕ) → IsBytes bytes → read bytes ≡ Ok x → (bytes ≡ spell x.0 ++ x.1) × IsGood x.0 × IsBytes x.1

  abbrev pub Again : Type 0
  Again = (x : A) (rest : List ℕ) → IsGood x → read (spell x ++ rest) ≡ Ok (x, rest)

  many-nil : (bytes : List ℕ) (xs : List A) → many read 0 bytes ≡ Ok xs → (bytes ≡ []) × (xs ≡ [])
  many-nil [] xs e = (refl, sym (ok_is [] xs e))
  many-nil (b ∷ bytes) xs e =
      let some : eqb (length (b ∷ bytes)) 0 ≡ false = grind arith in
      let h = rw some at e in
      absurd cc

  -- so many items, and nothing behind them
  pub record AreMany (n : ℕ) (bytes : List ℕ) (xs : List A) : Type 0 where
    pub parts : bytes ≡ flat_map spell xs
    pub good : AllByRecursion IsGood xs
    pub number : length xs ≡ n

  pub many-is : Takes → (n : ℕ) (bytes : List ℕ) (xs : List A) → IsBytes bytes → many read n bytes ≡ Ok xs → AreMany n bytes xs
  many-is takes zero bytes xs fine e =
      let none = many-nil bytes xs e in
      subst (AreMany 0 bytes) (sym none.1) (record { parts = none.0; good = tt; number = refl })
  many-is takes (suc n) bytes xs fine e =
      let f = many-first read n bytes xs e in
      let t = takes bytes f.0 fine f.1 in
      let others = many-is takes n f.0.1 f.2 t.2 f.3 in
      subst (AreMany (suc n) bytes) (sym f.4) (record {
        parts = t.0 ∙ ap (λ (l : List ℕ). spell f.0.0 ++ l) others.parts;
        good = (t.1, others.good);
        number = ap suc others.number;
      })

  pub many-again : Again → (xs : List A) → AllByRecursion IsGood xs → many read (length xs) (flat_map spell xs) ≡ Ok xs
  many-again again [] good = refl
  many-again again (x ∷ xs) good = rw (again x (flat_map spell xs) good.0, many-again again xs good.1) refl

-- ---- what is not read

module _ {A : Type 0} (read : List ℕ → Reading A) (spell : A → List ℕ) (IsGood : A → Type 0) where
  -- fewer items, and then bytes that begin with none
  pub record BreaksOff (n : ℕ) (bytes : List ℕ) (fault : Fault) : Type 0 where
    pub front : List A
    pub rest : List ℕ
    pub good : AllByRecursion IsGood front
    pub fewer : length front < n
    pub parts : bytes ≡ flat_map spell front ++ rest
    pub fine : IsBytes rest
    pub refused : read rest ≡ Err fault

  -- so many items, and then more bytes
  pub record GoesOn (n : ℕ) (bytes : List ℕ) : Type 0 where
    pub items : List A
    pub more : List ℕ
    pub good : AllByRecursion IsGood items
    pub number : length items ≡ n
    pub parts : bytes ≡ flat_map spell items ++ more
    pub some : 0 < length more

  abbrev pub IsUnread : ℕ → List ℕ → Fault → Type 0
  IsUnread n bytes fault = BreaksOff n bytes fault ⊎ ((fault ≡ TrailingBytes) × GoesOn n bytes)

  none-unread : (bytes : List ℕ) (fault : Fault) → many read 0 bytes ≡ Err fault → IsUnread 0 bytes fault
  none-unread [] fault e = absurd cc
  none-unread (b ∷ bytes) fault e =
      let some : eqb (length (b ∷ bytes)) 0 ≡ false = grind arith in
      let h = rw some at e in
      inr (cc, record { items = []; more = b ∷ bytes; good = tt; number = refl; parts = refl; some = omega arith })

  more-unread : (n : ℕ) (bytes : List ℕ) (x : A × List ℕ) (fault : Fault) → bytes ≡ spell x.0 ++ x.1 → IsGood x.0 → IsUnread n x.1 fault → IsUnread (suc n) bytes fault
  more-unread n bytes x fault parts good (inl b) = inl (record {
    front = x.0 ∷ b.front;
    rest = b.rest;
    good = (good, b.good);
    fewer = (let lt = b.fewer in omega arith);
    parts = parts ∙ ap (λ (l : List ℕ). spell x.0 ++ l) b.parts ∙ sym (append_assoc (spell x.0) (flat_map spell b.front) b.rest);
    fine = b.fine;
    refused = b.refused;
  })
  more-unread n bytes x fault parts good (inr m) = inr (
    m.0,
    record {
      items = x.0 ∷ m.1.items;
      more = m.1.more;
      good = (good, m.1.good);
      number = ap suc m.1.number;
      parts = parts ∙ ap (λ (l : List ℕ). spell x.0 ++ l) m.1.parts ∙ sym (append_assoc (spell x.0) (flat_map spell m.1.items) m.1.more);
      some = m.1.some;
    },
  )

  pub many-unread : Takes read spell IsGood → (n : ℕ) (bytes : List ℕ) (fault : Fault) → IsBytes bytes → many read n bytes ≡ Err fault → IsUnread n bytes fault
  many-unread takes zero bytes fault fine e = none-unread bytes fault e
  many-unread takes (suc n) bytes fault fine e = first (λ others f h. many-unread takes n others fault f h) (bind_err (read bytes) (λ x. many read n x.1 >>= λ others. Ok (x.0 ∷ others)) fault e)
    where
      first : ((others : List ℕ) → IsBytes others → many read n others ≡ Err fault → IsUnread n others fault) → (read bytes ≡ Err fault) ⊎ ((x : A × List ℕ) × (read bytes ≡ Ok x) × ((many read n x.1 >>= λ others. Ok (x.0 ∷ others)) ≡ Err fault)) → IsUnread (suc n) bytes fault
      first others (inl h) = inl (record { front = []; rest = bytes; good = tt; fewer = omega arith; parts = refl; fine = fine; refused = h })
      first others (inr h) = let t = takes bytes h.0 fine h.1 in more-unread n bytes h.0 fault t.0 t.1 (others h.0.1 t.2 (mapped_err (many read n h.0.1) (λ others. h.0.0 ∷ others) fault h.2))

  pub many-goes_on : Again read spell IsGood → (xs : List A) (more : List ℕ) → AllByRecursion IsGood xs → 0 < length more → many read (length xs) (flat_map spell xs ++ more) ≡ Err TrailingBytes
  many-goes_on again [] [] good some = absurd (omega (arith, some))
  many-goes_on again [] (b ∷ more) good some = let long : eqb (length (b ∷ more)) 0 ≡ false = grind arith in rw long refl
  many-goes_on again (x ∷ xs) more good some =
      ap (λ (l : List ℕ). many read (suc (length xs)) l) (append_assoc (spell x) (flat_map spell xs) more) ∙ rw (again x (flat_map spell xs ++ more) good.0, many-goes_on again xs more good.1 some) refl

  pub many-breaks_off : Again read spell IsGood → (xs : List A) (n : ℕ) (rest : List ℕ) (fault : Fault) → AllByRecursion IsGood xs → length xs < n → read rest ≡ Err fault → many read n (flat_map spell xs ++ rest) ≡ Err fault
  many-breaks_off again [] zero rest fault good fewer e = absurd (omega (arith, fewer))
  many-breaks_off again [] (suc n) rest fault good fewer e = rw e refl
  many-breaks_off again (x ∷ xs) zero rest fault good fewer e = absurd (omega (arith, fewer))
  many-breaks_off again (x ∷ xs) (suc n) rest fault good fewer e =
      ap (λ (l : List ℕ). many read (suc n) l) (append_assoc (spell x) (flat_map spell xs) rest) ∙ rw (again x (flat_map spell xs ++ rest) good.0, many-breaks_off again xs n rest fault good.1 (omega (arith, fewer)) e) refl
