-- What is left of each of some values, position by position.
use Rattle.std.proofs.Common.{◌≡◌, ℕ, zero, suc, ◌+◌, ◌<◌, List, [], ◌∷◌, ◌++◌, map, length, set, get_or, Result, Ok, Err, OnOk, refl, sym, ap, subst, ◌∙◌, arith}
use Rattle.std.specs.List.{AllZip}
use Rattle.peer_units.specs.Choices.{Choices}
use Rattle.peer_tables.specs.Tables.{Seat, chosen_seat}

head_same : {A : Type 0} {x y : A} {xs ys : List A} → (x ∷ xs) ≡ (y ∷ ys) → x ≡ y
head_same e = cc

tail_same : {A : Type 0} {x y : A} {xs ys : List A} → (x ∷ xs) ≡ (y ∷ ys) → xs ≡ ys
tail_same e = cc

module _ {A : Type 0} (R : A → A → Type 0) where
  -- two halves
  both_halves : (xs ys us vs : List A) → AllZip R xs ys → AllZip R us vs → AllZip R (xs ++ us) (ys ++ vs)
  both_halves [] [] us vs p q = q
  both_halves [] (y ∷ ys) us vs p q = absurd p
  both_halves (x ∷ xs) [] us vs p q = absurd p
  both_halves (x ∷ xs) (y ∷ ys) us vs p q = (p.0, both_halves xs ys us vs p.1 q)

  -- the same where both halves are known on success alone
  pub both_halves_ok : {T E : Type 0} (r : Result T E) (xs ys us vs : List A) → OnOk r (AllZip R xs ys) → OnOk r (AllZip R us vs) → OnOk r (AllZip R (xs ++ us) (ys ++ vs))
  both_halves_ok (Ok x) xs ys us vs p q = both_halves xs ys us vs p q
  both_halves_ok (Err e) xs ys us vs p q = p

  -- The first ones are changed, the others are as they were.
  abbrev pub AreChanged : ℕ → List A → List A → Type 0
  AreChanged zero xs ys = xs ≡ ys
  AreChanged (suc n) [] [] = Unit {0}
  AreChanged (suc n) [] (y ∷ ys) = ⊥
  AreChanged (suc n) (x ∷ xs) [] = ⊥
  AreChanged (suc n) (x ∷ xs) (y ∷ ys) = R x y × AreChanged n xs ys

  changed_next : (n : ℕ) (xs ys : List A) (d y : A) → AreChanged n xs ys → n < length xs → R (get_or ys n d) y → AreChanged (suc n) xs (set ys n y)
  changed_next n [] ys d y p lt new = absurd (omega (arith, lt))
  changed_next zero (x ∷ xs) [] d y p lt new = absurd cc
  changed_next zero (x ∷ xs) (z ∷ ys) d y p lt new = (subst (λ (w : A). R w y) (sym (head_same p)) new, tail_same p)
  changed_next (suc n) (x ∷ xs) [] d y p lt new = absurd p
  changed_next (suc n) (x ∷ xs) (z ∷ ys) d y p lt new = (p.0, changed_next n xs ys d y p.1 (omega (arith, lt)) new)

  -- one more is changed
  pub changed_more : (n m : ℕ) (xs ys : List A) (d y : A) → AreChanged n xs ys → n < length xs → m ≡ n + 1 → R (get_or ys n d) y → AreChanged m xs (set ys n y)
  changed_more n m xs ys d y p lt up new =
      let one : suc n ≡ m = omega (arith, up) in
      subst (λ k. AreChanged k xs (set ys n y)) one (changed_next n xs ys d y p lt new)

  -- all are changed
  pub changed_all : (n : ℕ) (xs ys : List A) → AreChanged n xs ys → n ≡ length xs → AllZip R xs ys
  changed_all zero [] [] p e = tt
  changed_all zero [] (y ∷ ys) p e = absurd cc
  changed_all zero (x ∷ xs) ys p e = absurd (omega (arith, e))
  changed_all (suc n) [] [] p e = p
  changed_all (suc n) [] (y ∷ ys) p e = absurd p
  changed_all (suc n) (x ∷ xs) [] p e = absurd p
  changed_all (suc n) (x ∷ xs) (y ∷ ys) p e = (p.0, changed_all n xs ys p.1 (omega (arith, e)))

-- seats of which the chosen routes are left
module _ {B : Type 0} (seat_of : B → Seat) (choices : Choices) where
  pub chosen_seats : (xs ys : List B) → AllZip (λ before after. seat_of after ≡ chosen_seat choices (seat_of before)) xs ys → map seat_of ys ≡ map (chosen_seat choices) (map seat_of xs)
  chosen_seats [] [] p = refl
  chosen_seats [] (y ∷ ys) p = absurd p
  chosen_seats (x ∷ xs) [] p = absurd p
  chosen_seats (x ∷ xs) (y ∷ ys) p =
      ap (λ (s : Seat). s ∷ map seat_of ys) p.0 ∙ ap (λ (l : List Seat). chosen_seat choices (seat_of x) ∷ l) (chosen_seats xs ys p.1)
