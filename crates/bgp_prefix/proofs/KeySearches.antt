-- The keys that tie are equal, and a binary search among keys in order finds exactly those that are among them.
use Rattle.std.proofs.Common.{◌≡◌, ℕ, true, false, List, length, Result, Ok, Err, get_or, ltb, refl, sym, ap, ◌∙◌, arith}
use Rattle.std.specs.Prelude.{is_ok}
use Rattle.std.specs.List.Sorted.{IsSorted, IsSearchInRange, IsBinarySearchResult}
use Rattle.std.specs.Ordering.{is_eq, eq_by_cmp}
use Rattle.std.specs.Cmp.{eq_by_cmp_equiv}
use Rattle.std.proofs.lemmas.List.Sorted.{searchable_from_sorted}
use Rattle.std.proofs.lemmas.List.Folds.{list_any_at, list_any_none}
use Rattle.std.proofs.lemmas.Bool.{ltb-true, ltb-false, eqb-true, eq-eqb, and_parts, and_from}
use Rattle.bgp_prefix.specs.Keys.{key_cmp, key_eq, among, RouteKey}
use Rattle.bgp_prefix.proofs.KeyLaws.{key_cmp_total, tied_same, same_prefix, not_true}

pub key_itself : (k : RouteKey) → key_eq k k ≡ true
key_itself k = and_from _ _ (and_from _ _ (eq-eqb k.prefix.addr k.prefix.addr refl) (eq-eqb k.prefix.len k.prefix.len refl)) (eq-eqb k.id k.id refl)

pub same_key : (j k : RouteKey) → key_eq j k ≡ true → j ≡ k
same_key j k e =
    let parts = and_parts _ _ e in
    let prefixes : j.prefix ≡ k.prefix = same_prefix _ _ parts.0 in
    let ids : j.id ≡ k.id = eqb-true _ _ parts.1 in
    λ i. record { prefix = prefixes i; id = ids i }

-- the keys that tie are those whose fields are equal
pub key_tied : (j k : RouteKey) → eq_by_cmp key_cmp j k ≡ key_eq j k
key_tied j k = elim (eq_by_cmp key_cmp j k) as (λ b. eq_by_cmp key_cmp j k ≡ b → b ≡ key_eq j k) [
  | true ↦ λ tied. sym (ap (key_eq j) (sym (tied_same j k tied)) ∙ key_itself j)
  | false ↦ λ apart. not_true (key_eq j k) (λ e.
      let clash : false ≡ true = sym apart ∙ ap (eq_by_cmp key_cmp j) (sym (same_key j k e)) ∙ (eq_by_cmp_equiv key_cmp_total).refl j in
      cc)
] refl

turned : (j k : RouteKey) → key_eq j k ≡ is_eq (key_cmp k j)
turned j k = sym (key_tied j k) ∙ (eq_by_cmp_equiv key_cmp_total).symm j k

pub found_is_among : (keys : List RouteKey) (k : RouteKey) (r : Result ℕ ℕ) → IsSorted key_cmp keys → IsSearchInRange r (length keys) → IsBinarySearchResult (λ y. key_cmp y k) keys r → is_ok r ≡ among keys k
found_is_among keys k (Ok i) up range found = sym (list_any_at (key_eq k) keys i k range (turned k (get_or keys i k) ∙ ap is_eq (found k)))
found_is_among keys k (Err i) up range found =
    let parts = found (searchable_from_sorted key_cmp_total (λ q. q) keys k up) in
    sym (list_any_none (key_eq k) keys (λ j d h. turned k (get_or keys j d) ∙ elim (ltb j i) as (λ b. ltb j i ≡ b → is_eq (key_cmp (get_or keys j d) k) ≡ false) [
      | true ↦ λ low. ap is_eq (parts.0 j d (omega arith) (ltb-true j i low))
      | false ↦ λ high. ap is_eq (parts.1 j d (ltb-false j i high) h)
    ] refl))
