-- Lists of the items of each class, put together.
use Rattle.std.proofs.Common.{◌≡◌, ◌≢◌, ℕ, zero, suc, ◌+◌, ◌<◌, ◌≤◌, inl, inr, Bool, true, false, cond, eqb, List, [], ◌∷◌, ◌++◌, refl, sym, ap, ◌∙◌, arith}
use Rattle.std.specs.List.{filter, flat_map, list_any, range_with_len, AllByRecursion}
use Rattle.std.proofs.lemmas.Bool.{eq-eqb, ne_eqb, cases_lt}
use Rattle.std.proofs.lemmas.List.{append-nil}
use Rattle.std.proofs.lemmas.List.Elements.{filter-append}
use Rattle.std.proofs.lemmas.Map.Views.{any-filter_same}
use Rattle.unit_rings.proofs.Lists.{all_more, all_pass, all_push, none_pass}
use Rattle.lane_deal.proofs.Classes.{of_class}

-- ---- filters

-- lists of which a test keeps the same
pub any_alike : {X : Type 0} (p : X → Bool) (xs ys : List X) → filter p xs ≡ filter p ys → list_any p xs ≡ list_any p ys
any_alike p xs ys e = sym (any-filter_same p p true (λ x h. h) xs) ∙ ap (list_any p) e ∙ any-filter_same p p true (λ x h. h) ys

-- two tests, one after the other
pub filters_swapped : {X : Type 0} (c p q : X → Bool) (xs : List X) → ((x : X) → c x ≡ true → p x ≡ q x) → filter p (filter c xs) ≡ filter c (filter q xs)
filters_swapped c p q [] h = refl
filters_swapped c p q (x ∷ xs) h =
    let later = filters_swapped c p q xs h in
    elim (c x) as (λ b. c x ≡ b → filter p (cond b (x ∷ filter c xs) (filter c xs)) ≡ filter c (cond (q x) (x ∷ filter q xs) (filter q xs))) [
      | true ↦ λ in_class.
          ap (λ b. cond b (x ∷ filter p (filter c xs)) (filter p (filter c xs))) (h x in_class)
          ∙ elim (q x) as (λ b. cond b (x ∷ filter p (filter c xs)) (filter p (filter c xs)) ≡ filter c (cond b (x ∷ filter q xs) (filter q xs))) [
            | true ↦ ap (λ l. x ∷ l) later ∙ sym (ap (λ b. cond b (x ∷ filter c (filter q xs)) (filter c (filter q xs))) in_class)
            | false ↦ later
          ]
      | false ↦ λ out.
          elim (q x) as (λ b. filter p (filter c xs) ≡ filter c (cond b (x ∷ filter q xs) (filter q xs))) [
            | true ↦ later ∙ sym (ap (λ b. cond b (x ∷ filter c (filter q xs)) (filter c (filter q xs))) out)
            | false ↦ later
          ]
    ] refl

-- ---- classes

module _ {X : Type 0} (class : X → ℕ) where
  all_own : (xs : List X) (c : ℕ) → AllByRecursion (λ x. class x ≡ c) xs → of_class class xs c ≡ xs
  all_own xs c h = all_pass (λ x. eqb (class x) c) xs (all_more xs (λ x e. eq-eqb (class x) c e) h)

  none_own : (xs : List X) (c e : ℕ) → c ≢ e → AllByRecursion (λ x. class x ≡ e) xs → of_class class xs c ≡ []
  none_own xs c e ne h = none_pass (λ x. eqb (class x) c) xs (all_more xs (λ x is. ne_eqb (class x) c (λ same. ne (sym same ∙ is))) h)

module _ {X : Type 0} (class : X → ℕ) (lists : ℕ → List X) (own : (c : ℕ) → AllByRecursion (λ x. class x ≡ c) (lists c)) where
  one_more : (first count c : ℕ) → of_class class (flat_map lists (range_with_len first (suc count))) c ≡ of_class class (lists first) c ++ of_class class (flat_map lists (range_with_len (first + 1) count)) c
  one_more first count c = filter-append (λ x. eqb (class x) c) (lists first) (flat_map lists (range_with_len (first + 1) count))

  elsewhere : (first count c : ℕ) → ((e : ℕ) → first ≤ e → e < first + count → c ≢ e) → of_class class (flat_map lists (range_with_len first count)) c ≡ []
  elsewhere first zero c h = refl
  elsewhere first (suc count) c h =
      one_more first count c ∙ ap (λ l. l ++ of_class class (flat_map lists (range_with_len (first + 1) count)) c) (none_own class (lists first) c first (h first (omega arith) (omega arith)) (own first))
      ∙ elsewhere (first + 1) count c (λ e low high. h e (omega (arith, low)) (omega (arith, high)))

  inside : (first count c : ℕ) → first ≤ c → c < first + count → of_class class (flat_map lists (range_with_len first count)) c ≡ lists c
  inside first zero c low high = absurd (omega (arith, low, high))
  inside first (suc count) c low high =
      one_more first count c
      ∙ elim (cases_lt first c) [
        | inl more ↦
            ap (λ l. l ++ of_class class (flat_map lists (range_with_len (first + 1) count)) c) (none_own class (lists first) c first (λ e. omega (arith, more, e)) (own first))
            ∙ inside (first + 1) count c (omega (arith, more)) (omega (arith, high))
        | inr less ↦
            let same : first ≡ c = omega (arith, low, less) in
            ap (λ l. of_class class (lists first) c ++ l) (elsewhere (first + 1) count c (λ e below above is. omega (arith, same, below, is))) ∙ append-nil (of_class class (lists first) c)
            ∙ ap (λ n. of_class class (lists n) c) same ∙ all_own class (lists c) c (own c)
      ]

  -- of the lists of all classes together, each class has its own
  pub of_lists : (count : ℕ) → ((c : ℕ) → count ≤ c → lists c ≡ []) → (c : ℕ) → of_class class (flat_map lists (range_with_len 0 count)) c ≡ lists c
  of_lists count past c =
      elim (cases_lt c count) [
        | inl l ↦ inside 0 count c (omega arith) (omega (arith, l))
        | inr l ↦ elsewhere 0 count c (λ e low high is. omega (arith, l, high, is)) ∙ sym (past c l)
      ]

  lists_below : (first count bound : ℕ) → first + count ≤ bound → AllByRecursion (λ x. class x < bound) (flat_map lists (range_with_len first count))
  lists_below first zero bound h = tt
  lists_below first (suc count) bound h =
      all_push (λ x. class x < bound) (lists first) (flat_map lists (range_with_len (first + 1) count)) (all_more (lists first) (λ x is. omega (arith, h, is)) (own first)) (lists_below (first + 1) count bound (omega (arith, h)))

  -- and no item is of another class
  pub in_lists : (count : ℕ) → AllByRecursion (λ x. class x < count) (flat_map lists (range_with_len 0 count))
  in_lists count = lists_below 0 count count (omega arith)
