-- The entries of a map, put into an empty one in their order, make the same map.
use Rattle.std.proofs.Common.{◌≡◌, Bool, true, false, cond, ◌&&◌, List, [], ◌∷◌, Option, Some, None, T, refl, sym, ap, subst, ◌∙◌}
use Rattle.std.specs.List.{fold}
use Rattle.std.specs.Option.{option_or}
use Rattle.std.specs.Ordering.{eq_by_cmp, is_lt, is_eq}
use Rattle.std.specs.declared.cmp.Ordering.TheVariants.{Less, Equal, Greater}
use Rattle.std.specs.FinMap as finite
use Rattle.std.specs.FinMap.Entries.{find, is_sorted, below_all}
use Rattle.bgp_prefix.specs.Keys.{key_cmp}
use Rattle.bgp_prefix.specs.Keys.{RouteKey}
use Rattle.bgp_prefix.proofs.KeyLaws.{key_cmp_total, key_cmp_exact, tied_same, or_none}
use Rattle.bgp_prefix.proofs.SearchLaws.{first, second}
use Rattle.adj_rib.specs.MappedValues.{put_entry}

module _ {V : Type 0} where
  none_below : (q : RouteKey) (es : List (RouteKey × V)) → T (below_all key_cmp q es) → find key_cmp q es ≡ None
  none_below q [] h = refl
  none_below q (e ∷ es) h =
      elim (key_cmp q e.0) as (λ r. T (is_lt r && below_all key_cmp q es) → cond (is_eq r) (Some e.1) (find key_cmp q es) ≡ None) [
        | Less ↦ λ g. none_below q es g
        | Equal ↦ λ g. absurd g
        | Greater ↦ λ g. absurd g
      ] h

  one_put : (q : RouteKey) (e : RouteKey × V) (es : List (RouteKey × V)) (o : Option V) (b : Bool) → eq_by_cmp key_cmp q e.0 ≡ b → T (below_all key_cmp e.0 es) → option_or (find key_cmp q es) (cond b (Some e.1) o) ≡ option_or (cond b (Some e.1) (find key_cmp q es)) o
  one_put q e es o true t below = ap (λ (x : Option V). option_or x (Some e.1)) (none_below q es (subst (λ (k : RouteKey). T (below_all key_cmp k es)) (sym (tied_same q e.0 t)) below))
  one_put q e es o false t below = refl

  get_put_all : (es : List (RouteKey × V)) (m : finite.FinMap key_cmp V) (q : RouteKey) → T (is_sorted key_cmp es) → finite.get (fold put_entry m es) q ≡ option_or (find key_cmp q es) (finite.get m q)
  get_put_all [] m q h = refl
  get_put_all (e ∷ es) m q h =
      let below : T (below_all key_cmp e.0 es) = first _ _ h in
      let rest : T (is_sorted key_cmp es) = second _ _ h in
      get_put_all es (put_entry m e) q rest ∙ ap (option_or (find key_cmp q es)) (finite.get-insert key_cmp_total m e.0 e.1 q) ∙ one_put q e es (finite.get m q) (eq_by_cmp key_cmp q e.0) refl below

  pub refolded : (m : finite.FinMap key_cmp V) → fold put_entry finite.empty (finite.entries m) ≡ m
  refolded m =
      finite.same_map key_cmp_total key_cmp_exact (fold put_entry finite.empty (finite.entries m)) m
      (λ q. get_put_all (finite.entries m) finite.empty q (finite.entries_sorted m) ∙ ap (option_or (find key_cmp q (finite.entries m))) (finite.get-empty key_cmp q) ∙ or_none (find key_cmp q (finite.entries m)) ∙ sym (finite.get-entries m q))
