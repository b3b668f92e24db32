-- The routes of three arrays, and what an edit of the arrays does to them.
use Rattle.std.proofs.Common.{◌≡◌, ℕ, zero, suc, ◌+◌, ◌-◌, ◌<◌, ◌≤◌, Bool, true, false, T, List, [], ◌∷◌, ◌++◌, length, get_or, set, take, drop, map, cond, refl, sym, ap, ◌∙◌, subst, arith, inl, inr, ◌⊎◌}
use Rattle.std.specs.List.{insert, remove}
use Rattle.std.specs.List.Sorted.{IsPartitionPoint}
use Rattle.std.specs.declared.cmp.Ordering.TheVariants.{Less, Greater}
use Rattle.std.specs.Ordering.{is_le}
use Rattle.std.specs.FinMap.{is_sorted}
use Rattle.std.proofs.lemmas.Bool.{cases_lt}
use Rattle.std.proofs.lemmas.List.Edits.{length-insert, insert_end}
use Rattle.bgp_prefix.specs.Maps.{paths_of}
use Rattle.std.proofs.lemmas.List.{append-nil, append_assoc, map-append, length-drop, take_more}
use Rattle.std.proofs.Math.Seq.{take-nil, drop-nil}
use Rattle.bgp_prefix.specs.Prefixes.{IpPrefix, prefix_cmp, prefix_eq}
use Rattle.bgp_prefix.specs.Keys.{key_cmp, RouteKey}
use Rattle.bgp_prefix.specs.Searches.{IsGap}
use Rattle.chunked_map.specs.ChunkedMaps.{routes_in, IsArrays, ids_put, ids_removed}
use Rattle.bgp_prefix.proofs.KeyLaws.{key_cmp_total}
use Rattle.bgp_prefix.proofs.SearchLaws.{sorted_at, turn}
use Rattle.prefix_maps.proofs.JumpLaws.{first_up_to}
use Rattle.prefix_maps.proofs.ListedLaws.{paths_of-append}
use Rattle.chunked_map.proofs.KeyedLists.{IsNarrowed, narrowed}
use lib.ListN.{replicate}

length_zeros : (n : ℕ) → length {A = ℕ} (replicate n 0) ≡ n
length_zeros zero = refl
length_zeros (suc n) = ap (λ m. suc m) (length_zeros n)

module _ {V : Type 0} where
  pub length_routes : (ps : List IpPrefix) (is : List ℕ) (vs : List V) → length vs ≡ length ps → length (routes_in ps is vs) ≡ length ps
  length_routes [] is vs h = refl
  length_routes (p ∷ ps) is [] h = absurd (omega (arith, h))
  length_routes (p ∷ ps) [] (v ∷ vs) h = ap (λ n. suc n) (length_routes ps [] vs (omega (arith, h)))
  length_routes (p ∷ ps) (i ∷ is) (v ∷ vs) h = ap (λ n. suc n) (length_routes ps is vs (omega (arith, h)))

  pub route_key : (ps : List IpPrefix) (is : List ℕ) (vs : List V) (at : ℕ) (p : IpPrefix) (d : RouteKey × V) → length vs ≡ length ps → at < length ps → (get_or (routes_in ps is vs) at d).0 ≡ record { prefix = get_or ps at p; id = get_or is at 0 }
  route_key [] is vs at p d h lt = absurd (omega (arith, lt))
  route_key (q ∷ ps) is [] at p d h lt = absurd (omega (arith, h))
  route_key (q ∷ ps) [] (w ∷ vs) zero p d h lt = refl
  route_key (q ∷ ps) [] (w ∷ vs) (suc n) p d h lt = route_key ps [] vs n p d (omega (arith, h)) (omega (arith, lt))
  route_key (q ∷ ps) (i ∷ is) (w ∷ vs) zero p d h lt = refl
  route_key (q ∷ ps) (i ∷ is) (w ∷ vs) (suc n) p d h lt = route_key ps is vs n p d (omega (arith, h)) (omega (arith, lt))

  pub route_value : (ps : List IpPrefix) (is : List ℕ) (vs : List V) (at : ℕ) (v : V) (d : RouteKey × V) → length vs ≡ length ps → at < length ps → (get_or (routes_in ps is vs) at d).1 ≡ get_or vs at v
  route_value [] is vs at v d h lt = absurd (omega (arith, lt))
  route_value (q ∷ ps) is [] at v d h lt = absurd (omega (arith, h))
  route_value (q ∷ ps) [] (w ∷ vs) zero v d h lt = refl
  route_value (q ∷ ps) [] (w ∷ vs) (suc n) v d h lt = route_value ps [] vs n v d (omega (arith, h)) (omega (arith, lt))
  route_value (q ∷ ps) (i ∷ is) (w ∷ vs) zero v d h lt = refl
  route_value (q ∷ ps) (i ∷ is) (w ∷ vs) (suc n) v d h lt = route_value ps is vs n v d (omega (arith, h)) (omega (arith, lt))

  pub routes_set : (ps : List IpPrefix) (is : List ℕ) (vs : List V) (at : ℕ) (v : V) (d : RouteKey × V) → routes_in ps is (set vs at v) ≡ set (routes_in ps is vs) at ((get_or (routes_in ps is vs) at d).0, v)
  routes_set [] is vs at v d = refl
  routes_set (q ∷ ps) is [] at v d = refl
  routes_set (q ∷ ps) [] (w ∷ vs) zero v d = refl
  routes_set (q ∷ ps) [] (w ∷ vs) (suc n) v d = ap (λ t. (record { prefix = q; id = 0 }, w) ∷ t) (routes_set ps [] vs n v d)
  routes_set (q ∷ ps) (i ∷ is) (w ∷ vs) zero v d = refl
  routes_set (q ∷ ps) (i ∷ is) (w ∷ vs) (suc n) v d = ap (λ t. (record { prefix = q; id = i }, w) ∷ t) (routes_set ps is vs n v d)

  pub routes_take : (n : ℕ) (ps : List IpPrefix) (is : List ℕ) (vs : List V) → routes_in (take n ps) (take n is) (take n vs) ≡ take n (routes_in ps is vs)
  routes_take zero ps is vs = refl
  routes_take (suc n) [] is vs = refl
  routes_take (suc n) (q ∷ ps) is [] = refl
  routes_take (suc n) (q ∷ ps) [] (w ∷ vs) = ap (λ t. (record { prefix = q; id = 0 }, w) ∷ t) (ap (λ t. routes_in (take n ps) t (take n vs)) (sym (take-nil {A = ℕ} n)) ∙ routes_take n ps [] vs)
  routes_take (suc n) (q ∷ ps) (i ∷ is) (w ∷ vs) = ap (λ t. (record { prefix = q; id = i }, w) ∷ t) (routes_take n ps is vs)

  no_values : (ps : List IpPrefix) (is : List ℕ) → routes_in {V = V} ps is [] ≡ []
  no_values [] is = refl
  no_values (p ∷ ps) is = refl

  pub routes_drop : (n : ℕ) (ps : List IpPrefix) (is : List ℕ) (vs : List V) → routes_in (drop n ps) (drop n is) (drop n vs) ≡ drop n (routes_in ps is vs)
  routes_drop zero ps is vs = refl
  routes_drop (suc n) [] is vs = refl
  routes_drop (suc n) (q ∷ ps) is [] = no_values (drop n ps) (drop (suc n) is)
  routes_drop (suc n) (q ∷ ps) [] (w ∷ vs) = ap (λ t. routes_in (drop n ps) t (drop n vs)) (sym (drop-nil {A = ℕ} n)) ∙ routes_drop n ps [] vs
  routes_drop (suc n) (q ∷ ps) (i ∷ is) (w ∷ vs) = routes_drop n ps is vs

  none_put : (ps : List IpPrefix) (vs : List V) (at : ℕ) (p : IpPrefix) (v : V) → length vs ≡ length ps → at ≤ length ps → routes_in (insert ps at p) [] (insert vs at v) ≡ insert (routes_in ps [] vs) at (record { prefix = p; id = 0 }, v)
  none_put ps vs zero p v h le = refl
  none_put [] vs (suc n) p v h le = absurd (omega (arith, le))
  none_put (q ∷ ps) [] (suc n) p v h le = absurd (omega (arith, h))
  none_put (q ∷ ps) (w ∷ vs) (suc n) p v h le = ap (λ t. (record { prefix = q; id = 0 }, w) ∷ t) (none_put ps vs n p v (omega (arith, h)) (omega (arith, le)))

  id_put : (ps : List IpPrefix) (is : List ℕ) (vs : List V) (at : ℕ) (p : IpPrefix) (i : ℕ) (v : V) → length vs ≡ length ps → length is ≡ length ps → at ≤ length ps → routes_in (insert ps at p) (insert is at i) (insert vs at v) ≡ insert (routes_in ps is vs) at (record { prefix = p; id = i }, v)
  id_put ps is vs zero p i v h l le = refl
  id_put [] is vs (suc n) p i v h l le = absurd (omega (arith, le))
  id_put (q ∷ ps) is [] (suc n) p i v h l le = absurd (omega (arith, h))
  id_put (q ∷ ps) [] (w ∷ vs) (suc n) p i v h l le = absurd (omega (arith, l))
  id_put (q ∷ ps) (j ∷ is) (w ∷ vs) (suc n) p i v h l le = ap (λ t. (record { prefix = q; id = j }, w) ∷ t) (id_put ps is vs n p i v (omega (arith, h)) (omega (arith, l)) (omega (arith, le)))

  zeros : (n : ℕ) (ps : List IpPrefix) (vs : List V) → routes_in ps (replicate n 0) vs ≡ routes_in ps [] vs
  zeros n [] vs = refl
  zeros n (p ∷ ps) [] = refl
  zeros zero (p ∷ ps) (v ∷ vs) = refl
  zeros (suc n) (p ∷ ps) (v ∷ vs) = ap (λ t. (record { prefix = p; id = 0 }, v) ∷ t) (zeros n ps vs)

  all_ids : (j : ℕ) (is : List ℕ) (ps : List IpPrefix) (vs : List V) → IsArrays ps (j ∷ is) vs → length (j ∷ is) ≡ length ps
  all_ids j is ps vs ok = elim ok.ids [ inl none ↦ cc | inr all ↦ all ]

  pub routes_put : (ps : List IpPrefix) (is : List ℕ) (vs : List V) (at : ℕ) (p : IpPrefix) (i : ℕ) (v : V) → IsArrays ps is vs → at ≤ length ps → routes_in (insert ps at p) (ids_put (length ps) at i is) (insert vs at v) ≡ insert (routes_in ps is vs) at (record { prefix = p; id = i }, v)
  routes_put ps [] vs at p zero v ok le = none_put ps vs at p v ok.values le
  routes_put ps [] vs at p (suc i) v ok le = id_put ps (replicate (length ps) 0) vs at p (suc i) v ok.values (length_zeros (length ps)) le ∙ ap (λ t. insert t at (record { prefix = p; id = suc i }, v)) (zeros (length ps) ps vs)
  routes_put ps (j ∷ is) vs at p zero v ok le = id_put ps (j ∷ is) vs at p zero v ok.values (all_ids j is ps vs ok) le
  routes_put ps (j ∷ is) vs at p (suc i) v ok le = id_put ps (j ∷ is) vs at p (suc i) v ok.values (all_ids j is ps vs ok) le

  pub arrays_put : (ps : List IpPrefix) (is : List ℕ) (vs : List V) (at : ℕ) (p : IpPrefix) (i : ℕ) (v : V) → IsArrays ps is vs → at ≤ length ps → IsArrays (insert ps at p) (ids_put (length ps) at i is) (insert vs at v)
  arrays_put ps is vs at p i v ok le = record {
    values = omega (arith, length-insert ps at p le, length-insert vs at v (omega (arith, ok.values, le)), ok.values);
    ids = ids_after is i ok;
  }
    where
      ids_after : (is : List ℕ) (i : ℕ) → IsArrays ps is vs → (ids_put (length ps) at i is ≡ []) ⊎ (length (ids_put (length ps) at i is) ≡ length (insert ps at p))
      ids_after [] zero ok = inl refl
      ids_after [] (suc i) ok = inr (omega (arith, length-insert (replicate (length ps) 0) at (suc i) (omega (arith, le, length_zeros (length ps))), length_zeros (length ps), length-insert ps at p le))
      ids_after (j ∷ is) zero ok = inr (omega (arith, length-insert (j ∷ is) at 0 (omega (arith, le, all_ids j is ps vs ok)), all_ids j is ps vs ok, length-insert ps at p le))
      ids_after (j ∷ is) (suc i) ok = inr (omega (arith, length-insert (j ∷ is) at (suc i) (omega (arith, le, all_ids j is ps vs ok)), all_ids j is ps vs ok, length-insert ps at p le))

  pub routes_removed : (ps : List IpPrefix) (is : List ℕ) (vs : List V) (at : ℕ) → length vs ≡ length ps → at < length ps → length is ≡ length ps → routes_in (remove ps at) (remove is at) (remove vs at) ≡ remove (routes_in ps is vs) at
  routes_removed [] is vs at h lt l = absurd (omega (arith, lt))
  routes_removed (q ∷ ps) is [] at h lt l = absurd (omega (arith, h))
  routes_removed (q ∷ ps) [] (w ∷ vs) at h lt l = absurd (omega (arith, l))
  routes_removed (q ∷ ps) (i ∷ is) (w ∷ vs) zero h lt l = refl
  routes_removed (q ∷ ps) (i ∷ is) (w ∷ vs) (suc n) h lt l = ap (λ t. (record { prefix = q; id = i }, w) ∷ t) (routes_removed ps is vs n (omega (arith, h)) (omega (arith, lt)) (omega (arith, l)))

  plain_removed : (ps : List IpPrefix) (vs : List V) (at : ℕ) → length vs ≡ length ps → at < length ps → routes_in (remove ps at) [] (remove vs at) ≡ remove (routes_in ps [] vs) at
  plain_removed [] vs at h lt = absurd (omega (arith, lt))
  plain_removed (q ∷ ps) [] at h lt = absurd (omega (arith, h))
  plain_removed (q ∷ ps) (w ∷ vs) zero h lt = refl
  plain_removed (q ∷ ps) (w ∷ vs) (suc n) h lt = ap (λ t. (record { prefix = q; id = 0 }, w) ∷ t) (plain_removed ps vs n (omega (arith, h)) (omega (arith, lt)))

  removed_any : (ps : List IpPrefix) (is : List ℕ) (vs : List V) (at : ℕ) → IsArrays ps is vs → at < length ps → routes_in (remove ps at) (ids_removed at is) (remove vs at) ≡ remove (routes_in ps is vs) at
  removed_any ps [] vs at ok lt = plain_removed ps vs at ok.values lt
  removed_any ps (i ∷ is) vs at ok lt = routes_removed ps (i ∷ is) vs at ok.values lt (all_ids i is ps vs ok)

  pub arrays_drop : (n : ℕ) (ps : List IpPrefix) (is : List ℕ) (vs : List V) → IsArrays ps is vs → IsArrays (drop n ps) (drop n is) (drop n vs)
  arrays_drop n ps is vs ok = record {
    values = length-drop n vs ∙ ap (λ m. m - n) ok.values ∙ sym (length-drop n ps);
    ids = elim ok.ids [
      | inl none ↦ inl (ap (drop n) none ∙ drop-nil n)
      | inr all ↦ inr (length-drop n is ∙ ap (λ m. m - n) all ∙ sym (length-drop n ps))
    ];
  }

  -- with the list that the arrays stand for
  module _ (ps : List IpPrefix) (is : List ℕ) (vs : List V) (es : List (RouteKey × V)) (ok : IsArrays ps is vs) (view : routes_in ps is vs ≡ es) where
    pub sized : length ps ≡ length es
    sized = sym (length_routes ps is vs ok.values) ∙ ap length view

    pub key_is : (at : ℕ) (p : IpPrefix) (i : ℕ) (d : RouteKey × V) → at < length es → p ≡ get_or ps at p → i ≡ get_or is at 0 → ◌≡◌ {A = RouteKey} (record { prefix = p; id = i }) (get_or es at d).0
    key_is at p i d lt rp ri =
        ap (λ (q : IpPrefix). record { prefix = q; id = i }) rp
        ∙ ap (λ (n : ℕ). record { prefix = get_or ps at p; id = n }) ri
        ∙ sym (route_key ps is vs at p d ok.values (omega (arith, lt, sized)))
        ∙ ap (λ (xs : List (RouteKey × V)). (get_or xs at d).0) view

    pub value_is : (at : ℕ) (v : V) (d : RouteKey × V) → at < length es → v ≡ get_or vs at v → v ≡ (get_or es at d).1
    value_is at v d lt rv = rv ∙ sym (route_value ps is vs at v d ok.values (omega (arith, lt, sized))) ∙ ap (λ (xs : List (RouteKey × V)). (get_or xs at d).1) view

    pub put_is : (at : ℕ) (p : IpPrefix) (i : ℕ) (v : V) (qs : List IpPrefix) (js : List ℕ) (ws : List V) → at ≤ length es → qs ≡ insert ps at p → js ≡ ids_put (length ps) at i is → ws ≡ insert vs at v → routes_in qs js ws ≡ insert es at (record { prefix = p; id = i }, v)
    put_is at p i v qs js ws le rq rj rw' =
        rw (rq, rj, rw') (routes_put ps is vs at p i v ok (omega (arith, le, sized)) ∙ ap (λ t. insert t at (record { prefix = p; id = i }, v)) view)

    pub push_is : (p : IpPrefix) (i : ℕ) (v : V) (qs : List IpPrefix) (js : List ℕ) (ws : List V) → qs ≡ ps ++ p ∷ [] → js ≡ ids_put (length ps) (length ps) i is → ws ≡ vs ++ v ∷ [] → routes_in qs js ws ≡ es ++ (record { prefix = p; id = i }, v) ∷ []
    push_is p i v qs js ws rq rj rw' =
        let e : RouteKey × V = (record { prefix = p; id = i }, v) in
        put_is (length ps) p i v qs js ws (omega (arith, sized)) (rq ∙ sym (insert_end ps p)) rj (rw' ∙ sym (insert_end vs v) ∙ ap (λ n. insert vs n v) ok.values)
        ∙ ap (λ n. insert es n e) sized
        ∙ insert_end es e

    pub push_kept : (p : IpPrefix) (i : ℕ) (v : V) (qs : List IpPrefix) (js : List ℕ) (ws : List V) → qs ≡ ps ++ p ∷ [] → js ≡ ids_put (length ps) (length ps) i is → ws ≡ vs ++ v ∷ [] → IsArrays qs js ws
    push_kept p i v qs js ws rq rj rw' =
        rw (rq ∙ sym (insert_end ps p), rj, rw' ∙ sym (insert_end vs v) ∙ ap (λ n. insert vs n v) ok.values) (arrays_put ps is vs (length ps) p i v ok (omega arith))

    pub removed_is : (at : ℕ) (qs : List IpPrefix) (js : List ℕ) (ws : List V) → at < length es → qs ≡ remove ps at → js ≡ ids_removed at is → ws ≡ remove vs at → routes_in qs js ws ≡ remove es at
    removed_is at qs js ws lt rq rj rw' =
        rw (rq, rj, rw') (removed_any ps is vs at ok (omega (arith, lt, sized)) ∙ ap (λ t. remove t at) view)

-- where a key would go in a list in order, by its neighbours
pub gap_between : {V : Type 0} (es : List (RouteKey × V)) (k : RouteKey) (i high : ℕ) → T (is_sorted key_cmp es) → IsNarrowed (λ e. key_cmp e.0 k ≡ Less) (λ e. key_cmp e.0 k ≡ Greater) es i high → high ≤ i → IsGap key_cmp es k i
gap_between {V} es k i high sorted left met =
    let n = narrowed (λ (e : RouteKey × V). key_cmp e.0 k ≡ Less) (λ e. key_cmp e.0 k ≡ Greater) es i high left met in
    record {
      in_range = n.inside;
      before = λ j d lt. elim (cases_lt j (i - 1)) [
        | inl less ↦ key_cmp_total.trans (get_or es j d).0 (get_or es (i - 1) d).0 k (sorted_at key_cmp key_cmp_total es j (i - 1) d sorted less (omega (arith, lt, n.inside))) (n.below (omega (arith, lt)) d)
        | inr ge ↦ let same : i - 1 ≡ j = omega (arith, lt, ge) in subst (λ (n : ℕ). key_cmp (get_or es n d).0 k ≡ Less) same (n.below (omega (arith, lt)) d)
      ];
      after = λ j d le lt. elim (cases_lt i j) [
        | inl less ↦
            let here = turn key_cmp key_cmp_total (get_or es i d).0 k Greater (n.above (omega (arith, le, lt)) d) in
            turn key_cmp key_cmp_total k (get_or es j d).0 Less (key_cmp_total.trans k (get_or es i d).0 (get_or es j d).0 here (sorted_at key_cmp key_cmp_total es i j d sorted less lt))
        | inr ge ↦ let same : i ≡ j = omega (arith, le, ge) in subst (λ (n : ℕ). key_cmp (get_or es n d).0 k ≡ Greater) same (n.above (omega (arith, le, lt)) d)
      ];
    }

pub point_between : {V : Type 0} (es : List (RouteKey × V)) (p : IpPrefix) (i high : ℕ) → T (is_sorted key_cmp es) → IsNarrowed (λ e. is_le (prefix_cmp e.0.prefix p) ≡ true) (λ e. is_le (prefix_cmp e.0.prefix p) ≡ false) es i high → high ≤ i → IsPartitionPoint (λ e. is_le (prefix_cmp e.0.prefix p) ≡ true) (λ e. is_le (prefix_cmp e.0.prefix p) ≡ false) es i
point_between {V} es p i high sorted left met =
    let n = narrowed (λ (e : RouteKey × V). is_le (prefix_cmp e.0.prefix p) ≡ true) (λ e. is_le (prefix_cmp e.0.prefix p) ≡ false) es i high left met in (
      λ k d low high. first_up_to es p sorted k (i - 1) d (omega (arith, high)) (omega (arith, high, n.inside)) (n.below (omega (arith, high)) d),
      λ k d low high. untrue (is_le (prefix_cmp (get_or es k d).0.prefix p)) (λ yes. let up = first_up_to es p sorted i k d low high yes in let no = n.above (omega (arith, low, high)) d in let clash : true ≡ false = sym up ∙ no in clash),
    )
  where
    untrue : (b : Bool) → (b ≡ true → true ≡ false) → b ≡ false
    untrue true h = h refl
    untrue false h = refl

-- one route more
module _ {V : Type 0} (p : IpPrefix) (es : List (RouteKey × V)) (i : ℕ) (k : RouteKey) (v : V) (lt : i < length es) (key : (d : RouteKey × V) → k ≡ (get_or es i d).0) (value : (d : RouteKey × V) → v ≡ (get_or es i d).1) where
  entry : get_or es i (k, v) ≡ (k, v)
  entry = ap (λ (x : RouteKey). (x, (get_or es i (k, v)).1)) (sym (key (k, v))) ∙ ap (λ (y : V). (k, y)) (sym (value (k, v)))

  pub one_more : take (i + 1) es ≡ take i es ++ (k, v) ∷ []
  one_more = take_more es i (k, v) lt ∙ ap (λ e. take i es ++ e ∷ []) entry

  paths_more : paths_of p (take (i + 1) es) ≡ paths_of p (take i es) ++ paths_of p ((k, v) ∷ [])
  paths_more = ap (paths_of p) one_more ∙ paths_of-append p (take i es) ((k, v) ∷ [])

  pub path_more : prefix_eq p k.prefix ≡ true → paths_of p (take (i + 1) es) ≡ paths_of p (take i es) ++ (k.id, v) ∷ []
  path_more same = paths_more ∙ ap (λ b. paths_of p (take i es) ++ map (λ (e : RouteKey × V). (e.0.id, e.1)) (cond b ((k, v) ∷ []) [])) same

  pub path_same : prefix_eq p k.prefix ≡ false → paths_of p (take (i + 1) es) ≡ paths_of p (take i es)
  path_same other = paths_more ∙ ap (λ b. paths_of p (take i es) ++ map (λ (e : RouteKey × V). (e.0.id, e.1)) (cond b ((k, v) ∷ []) [])) other ∙ append-nil _

-- a list of what was read, with one more
pub read_more : {A B : Type 0} (f : A → B) (xs ys : List A) (x : A) (before node more : List B) → ys ≡ xs ++ x ∷ [] → map f xs ≡ before ++ node → more ≡ node ++ f x ∷ [] → map f ys ≡ before ++ more
read_more f xs ys x before node more pushed so_far is = ap (map f) pushed ∙ map-append f xs (x ∷ []) ∙ ap (λ t. t ++ f x ∷ []) so_far ∙ append_assoc before node (f x ∷ []) ∙ ap (λ t. before ++ t) (sym is)
