-- Keys in order, each once, and lists that rise.
use Rattle.std.proofs.Common.{◌≡◌, Bool, true, false, cond, ◌||◌, List, [], ◌∷◌, T, refl, sym, ap, ◌∙◌, map}
use Rattle.std.specs.Prelude.{Some}
use Rattle.std.specs.declared.cmp.Ordering.{Ordering}
use Rattle.std.specs.declared.cmp.Ordering.TheVariants.{Less, Equal, Greater}
use Rattle.std.specs.Ordering.{is_lt, eq_by_cmp}
use Rattle.std.specs.Cmp.{IsTotalOrder}
use Rattle.std.specs.List.{AllByRecursion, dedup, dedup_from, list_any}
use Rattle.std.specs.List.Sorted.{IsSorted, IsStrictlySortedBy, IsPermutation}
use Rattle.std.specs.FinMap.Entries.{by_order, put, is_sorted, below_all}
use Rattle.std.proofs.lemmas.List.Kept.{IsStrictlySortedBy-dedup}
use Rattle.std.proofs.lemmas.List.Sorted.{list_any-IsPermutation}
use Rattle.bgp_prefix.specs.Ordered.{in_order}
use Rattle.bgp_prefix.proofs.OrderedLaws.{is_sorted-tabulated}
use Rattle.rib_report.proofs.RunLaws.{set_of, set_same, below_set, put_front}
use Rattle.rib_report.proofs.MergeLaws.{first_of, second_of, is_less, equal_of}

twice : (b c : Bool) → (b || c) ≡ (b || (b || c))
twice true c = refl
twice false c = refl

either_way : (a b c : Bool) → (a || (b || c)) ≡ (b || (a || c))
either_way true true c = refl
either_way true false c = refl
either_way false b c = refl

abbrev keys_of : {K : Type 0} → List (K × Unit {0}) → List K
keys_of es = map (λ e. e.0) es

module _ {K : Type 0} {cmp : K → K → Ordering} (o : IsTotalOrder cmp) (exact : (x y : K) → cmp x y ≡ Equal → x ≡ y) where
  any_put : (f : K → Bool) (k : K) (es : List (K × Unit {0})) → list_any f (keys_of (put cmp k tt es)) ≡ (f k || list_any f (keys_of es))
  any_put f k [] = refl
  any_put f k (e ∷ es) =
      elim (cmp k e.0) as (λ r. cmp k e.0 ≡ r → list_any f (keys_of (by_order r ((k, tt) ∷ e ∷ es) ((e.0, tt) ∷ es) (e ∷ put cmp k tt es))) ≡ (f k || (f e.0 || list_any f (keys_of es)))) [
        | Less ↦ λ _. refl
        | Equal ↦ λ same. twice (f e.0) (list_any f (keys_of es)) ∙ ap (λ x. f x || (f e.0 || list_any f (keys_of es))) (sym (exact k e.0 same))
        | Greater ↦ λ _. ap (λ b. f e.0 || b) (any_put f k es) ∙ either_way (f e.0) (f k) (list_any f (keys_of es))
      ] refl

  -- in order, what stands in a list is the same
  pub any_in_order : (f : K → Bool) (xs : List K) → list_any f (in_order cmp xs) ≡ list_any f xs
  any_in_order f [] = refl
  any_in_order f (x ∷ xs) = any_put f x (set_of cmp xs) ∙ ap (λ b. f x || b) (any_in_order f xs)

  above_all : (x : K) (es : List (K × Unit {0})) → T (below_all cmp x es) → AllByRecursion (λ y. cmp x y ≡ Less) (keys_of es)
  above_all x [] h = tt
  above_all x (e ∷ es) h = (is_less (cmp x e.0) (first_of _ (below_all cmp x es) h), above_all x es (second_of (is_lt (cmp x e.0)) _ h))

  keys_rise : (es : List (K × Unit {0})) → T (is_sorted cmp es) → IsStrictlySortedBy cmp (keys_of es)
  unfolding IsStrictlySortedBy
  keys_rise [] h = tt
  keys_rise (e ∷ es) h = (above_all e.0 es (first_of _ (is_sorted cmp es) h), keys_rise es (second_of (below_all cmp e.0 es) _ h))

  pub in_order_rises : (xs : List K) → IsStrictlySortedBy cmp (in_order cmp xs)
  in_order_rises xs = keys_rise (set_of cmp xs) (is_sorted-tabulated o (λ _. Some tt) xs)

  -- what rises is in order
  pub rising : (xs : List K) → IsStrictlySortedBy cmp xs → in_order cmp xs ≡ xs
  unfolding IsStrictlySortedBy
  rising [] h = refl
  rising (x ∷ xs) h = ap keys_of (put_front o x (set_of cmp xs) (below_set o x xs h.0)) ∙ ap (λ l. x ∷ l) (rising xs h.1)

  -- lists with the same keys have the same order
  pub in_order_same : (xs ys : List K) → ((q : K) → list_any (eq_by_cmp cmp q) xs ≡ list_any (eq_by_cmp cmp q) ys) → in_order cmp xs ≡ in_order cmp ys
  in_order_same xs ys same = ap keys_of (set_same o exact xs ys same)

  module _ (eq : K → K → Bool) (ties : (x y : K) → eq x y ≡ eq_by_cmp cmp x y) where
    same_key : (x y : K) → eq x y ≡ true → x ≡ y
    same_key x y e = exact x y (equal_of (cmp x y) (sym (ties x y) ∙ e))

    any_from : (f : K → Bool) (k : K) (xs : List K) → list_any f (dedup_from eq k xs) ≡ (f k || list_any f xs)
    any_from f k [] = refl
    any_from f k (x ∷ xs) =
        elim (eq x k) as (λ b. eq x k ≡ b → list_any f (cond b (dedup_from eq k xs) (k ∷ dedup_from eq x xs)) ≡ (f k || (f x || list_any f xs))) [
          | true ↦ λ same. any_from f k xs ∙ twice (f k) (list_any f xs) ∙ ap (λ y. f k || (f y || list_any f xs)) (sym (same_key x k same))
          | false ↦ λ _. ap (λ b. f k || b) (any_from f x xs)
        ] refl

    any_dedup : (f : K → Bool) (xs : List K) → list_any f (dedup eq xs) ≡ list_any f xs
    any_dedup f [] = refl
    any_dedup f (x ∷ xs) = any_from f x xs

    -- a sorted list without repeats has the keys of another list in order
    pub deduped_in_order : (sorted xs : List K) → IsSorted cmp sorted → IsPermutation xs sorted → dedup eq sorted ≡ in_order cmp xs
    deduped_in_order sorted xs up moved =
        sym (rising (dedup eq sorted) (IsStrictlySortedBy-dedup o ties sorted up))
        ∙ in_order_same (dedup eq sorted) xs (λ q. any_dedup (eq_by_cmp cmp q) sorted ∙ sym (list_any-IsPermutation (eq_by_cmp cmp q) xs sorted moved))
