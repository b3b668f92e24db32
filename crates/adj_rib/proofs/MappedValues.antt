-- A finite map whose values are mapped.
use Rattle.std.proofs.Common.{◌≡◌, suc, Bool, true, false, cond, ◌&&◌, List, [], ◌∷◌, length, Option, Some, None, T, refl, sym, ap, subst, ◌∙◌}
use Rattle.std.specs.Option.{option_map, IfSome}
use Rattle.std.specs.Ordering.{eq_by_cmp, is_lt}
use Rattle.std.specs.FinMap as finite
use Rattle.std.specs.FinMap.Entries.{find, is_sorted, below_all}
use Rattle.bgp_prefix.specs.Keys.{key_cmp}
use Rattle.bgp_prefix.specs.Keys.{RouteKey}
use Rattle.bgp_prefix.proofs.KeyLaws.{key_cmp_total, key_cmp_exact}
use Rattle.adj_rib.specs.MappedValues.{mapped_entries, map_values}

module _ {A B : Type 0} (f : A → B) where
  below_all-mapped : (k : RouteKey) (es : List (RouteKey × A)) → below_all key_cmp k (mapped_entries f es) ≡ below_all key_cmp k es
  below_all-mapped k [] = refl
  below_all-mapped k (e ∷ es) = ap (λ (b : Bool). is_lt (key_cmp k e.0) && b) (below_all-mapped k es)

  is_sorted-mapped : (es : List (RouteKey × A)) → is_sorted key_cmp (mapped_entries f es) ≡ is_sorted key_cmp es
  is_sorted-mapped [] = refl
  is_sorted-mapped (e ∷ es) = λ i. below_all-mapped e.0 es i && is_sorted-mapped es i

  find-mapped : (q : RouteKey) (es : List (RouteKey × A)) → find key_cmp q (mapped_entries f es) ≡ option_map f (find key_cmp q es)
  find-mapped q [] = refl
  find-mapped q (e ∷ es) =
      elim (eq_by_cmp key_cmp q e.0) as (λ b. cond b (Some (f e.1)) (find key_cmp q (mapped_entries f es)) ≡ option_map f (cond b (Some e.1) (find key_cmp q es))) [
        | true ↦ refl
        | false ↦ find-mapped q es
      ]

  pub entries-map_values : (m : finite.FinMap key_cmp A) → finite.entries (map_values f m) ≡ mapped_entries f (finite.entries m)
  unfolding map_values
  entries-map_values m = finite.entries-from_sorted key_cmp (mapped_entries f (finite.entries m)) (subst T (sym (is_sorted-mapped (finite.entries m))) (finite.entries_sorted m))

  pub get-map_values : (m : finite.FinMap key_cmp A) (q : RouteKey) → finite.get (map_values f m) q ≡ option_map f (finite.get m q)
  get-map_values m q =
      finite.get-entries (map_values f m) q ∙ ap (find key_cmp q) (entries-map_values m) ∙ find-mapped q (finite.entries m) ∙ ap (option_map f) (sym (finite.get-entries m q))

  pub map_values-empty : (m : finite.FinMap key_cmp A) → m ≡ finite.empty → map_values f m ≡ finite.empty
  map_values-empty m e =
      finite.same_map key_cmp_total key_cmp_exact (map_values f m) finite.empty (λ q. get-map_values m q ∙ ap (λ (n : finite.FinMap key_cmp A). option_map f (finite.get n q)) e ∙ ap (option_map f) (finite.get-empty key_cmp q) ∙ sym (finite.get-empty key_cmp q))

  mapped_cond : (b : Bool) (x : Option A) (y : Option A) → option_map f (cond b x y) ≡ cond b (option_map f x) (option_map f y)
  mapped_cond true x y = refl
  mapped_cond false x y = refl

  pub map_values-insert : (m : finite.FinMap key_cmp A) (k : RouteKey) (v : A) → map_values f (finite.insert m k v) ≡ finite.insert (map_values f m) k (f v)
  map_values-insert m k v =
      finite.same_map key_cmp_total key_cmp_exact (map_values f (finite.insert m k v)) (finite.insert (map_values f m) k (f v))
      (λ q. get-map_values (finite.insert m k v) q ∙ ap (option_map f) (finite.get-insert key_cmp_total m k v q)
      ∙ mapped_cond (eq_by_cmp key_cmp q k) (Some v) (finite.get m q)
      ∙ ap (cond (eq_by_cmp key_cmp q k) (Some (f v))) (sym (get-map_values m q))
      ∙ sym (finite.get-insert key_cmp_total (map_values f m) k (f v) q))

  pub map_values-remove : (m : finite.FinMap key_cmp A) (k : RouteKey) → map_values f (finite.remove m k) ≡ finite.remove (map_values f m) k
  map_values-remove m k =
      finite.same_map key_cmp_total key_cmp_exact (map_values f (finite.remove m k)) (finite.remove (map_values f m) k)
      (λ q. get-map_values (finite.remove m k) q ∙ ap (option_map f) (finite.get-remove key_cmp_total m k q)
      ∙ mapped_cond (eq_by_cmp key_cmp q k) None (finite.get m q)
      ∙ ap (cond (eq_by_cmp key_cmp q k) None) (sym (get-map_values m q))
      ∙ sym (finite.get-remove key_cmp_total (map_values f m) k q))

  length-mapped : (es : List (RouteKey × A)) → length (mapped_entries f es) ≡ length es
  length-mapped [] = refl
  length-mapped (e ∷ es) = ap suc (length-mapped es)

  pub len-map_values : (m : finite.FinMap key_cmp A) → finite.len (map_values f m) ≡ finite.len m
  len-map_values m = finite.len-entries (map_values f m) ∙ ap length (entries-map_values m) ∙ length-mapped (finite.entries m) ∙ sym (finite.len-entries m)

-- two functions that agree on each value make the same map
pub map_values-same : {A B : Type 0} (f g : A → B) (m : finite.FinMap key_cmp A) → ((k : RouteKey) → IfSome (finite.get m k) (λ v. f v ≡ g v)) → map_values f m ≡ map_values g m
map_values-same {A = A} {B = B} f g m h =
    finite.same_map key_cmp_total key_cmp_exact (map_values f m) (map_values g m)
    (λ q. get-map_values f m q ∙ agree (finite.get m q) (h q) ∙ sym (get-map_values g m q))
  where
    agree : (o : Option A) → IfSome o (λ v. f v ≡ g v) → option_map f o ≡ option_map g o
    agree None h = refl
    agree (Some v) h = ap (λ (w : B). Some w) h
