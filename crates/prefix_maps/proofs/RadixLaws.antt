-- How many routes a change leaves.
use Rattle.std.proofs.Common.{◌≡◌, ℕ, ◌+◌, true, false, cond, not, List, length, Option, Some, None, is_some, refl, sym, ap, ◌∙◌, T}
use Rattle.std.specs.Ordering.{eq_by_cmp}
use Rattle.std.specs.FinMap.{find, put, is_sorted}
use Rattle.std.specs.FinMap.Entries.{where_key, same_entries, is_sorted-put, is_sorted-where_key, length-put, length_without}
use Rattle.bgp_prefix.specs.Keys.{key_cmp, Changes, RouteKey}
use Rattle.bgp_prefix.proofs.KeyLaws.{key_cmp_total, key_cmp_exact}
use Rattle.prefix_maps.proofs.MapLaws.{Changes-put, Changes-without}

module _ {V : Type 0} (old new : List (RouteKey × V)) (key : RouteKey) (before : T (is_sorted key_cmp old)) (after : T (is_sorted key_cmp new)) where
  pub length_inserted : (v : V) → Changes old new key (Some v) → length new ≡ cond (is_some (find key_cmp key old)) (length old) (length old + 1)
  length_inserted v is =
      let there = put key_cmp key v old in
      ap length (same_entries key_cmp key_cmp_total key_cmp_exact new there after (is_sorted-put key_cmp key_cmp_total key v old before) (λ q. is q ∙ sym (Changes-put old there key v refl q)))
      ∙ length-put key_cmp key_cmp_total key v old before

  pub length_removed : Changes old new key None → cond (is_some (find key_cmp key old)) 1 0 + length new ≡ length old
  length_removed is =
      let left = where_key key_cmp (λ x. not (eq_by_cmp key_cmp key x)) old in
      ap (λ (n : ℕ). cond (is_some (find key_cmp key old)) 1 0 + n) (ap length (same_entries key_cmp key_cmp_total key_cmp_exact new left after (is_sorted-where_key key_cmp (λ x. not (eq_by_cmp key_cmp key x)) old before) (λ q. is q ∙ sym (Changes-without old left key refl q))))
      ∙ length_without key_cmp key_cmp_total key old before

  -- by what was held before
  module _ (held : Option V) (was : held ≡ find key_cmp key old) where
    pub length_added : (v : V) → Changes old new key (Some v) → is_some held ≡ false → length new ≡ length old + 1
    length_added v is none = length_inserted v is ∙ ap (λ b. cond b (length old) (length old + 1)) (sym (ap is_some was) ∙ none)

    pub length_replaced : (v : V) → Changes old new key (Some v) → is_some held ≡ true → length new ≡ length old
    length_replaced v is some = length_inserted v is ∙ ap (λ b. cond b (length old) (length old + 1)) (sym (ap is_some was) ∙ some)

    pub length_taken : Changes old new key None → is_some held ≡ true → 1 + length new ≡ length old
    length_taken is some = ap (λ b. cond b 1 0 + length new) (sym some ∙ ap is_some was) ∙ length_removed is

    pub length_kept : Changes old new key None → is_some held ≡ false → 0 + length new ≡ length old
    length_kept is none = ap (λ b. cond b 1 0 + length new) (sym none ∙ ap is_some was) ∙ length_removed is
