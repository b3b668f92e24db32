-- Lists of routes in leaves: where a key lies, and changes of a leaf.
use Rattle.std.proofs.Common.{◌≡◌, ◌≢◌, ℕ, zero, suc, ◌+◌, ◌-◌, ◌<◌, ◌≤◌, true, false, cond, not, T, List, [], ◌∷◌, ◌++◌, length, get_or, set, take, drop, map, refl, sym, ap, ◌∙◌, subst, arith}
use Rattle.std.specs.List.{All, insert, remove}
use Rattle.std.specs.Ordering.{is_lt, is_le, eq_by_cmp}
use Rattle.std.specs.declared.cmp.Ordering.TheVariants.{Less, Equal, Greater}
use Rattle.std.specs.FinMap.{find, put, is_sorted}
use Rattle.std.specs.FinMap.Entries.{by_order, is_sorted-put, is_sorted-where_key}
use Rattle.std.proofs.lemmas.List.{append_assoc, append-nil, map-append, map-set, take-append-drop, take_more, length-append, take-map, length-take, length-drop, length-map, get_or-drop, get_or-map, drop-map, nil_from_length}
use Rattle.std.proofs.lemmas.List.Edits.{insert_end}
use Rattle.std.proofs.lemmas.List.Elements.{All-head, All-tail, All-cons, All-set, All-take, All-drop, All-append, All-filter, filter-append}
use Rattle.std.proofs.Math.Seq.{map-set_same}
use Rattle.bgp_prefix.specs.Prefixes.{IpPrefix, IsIpPrefix, prefix_cmp}
use Rattle.bgp_prefix.specs.Keys.{key_cmp, is_nil, RouteKey}
use Rattle.chunked_map.specs.ChunkedMaps.{in_leaves, first_key, AreNodes, EachKey, IsIndexOfKey, IsIndexOfPrefix, IsCut, lesser_key}
use Rattle.std.specs.Option.{option_or}
use Rattle.bgp_prefix.proofs.KeyLaws.{key_cmp_total, find-parts, or_none}
use Rattle.prefix_maps.proofs.OrderLaws.{sorted_parts, All-parts}
use Rattle.bgp_prefix.proofs.SearchLaws.{first}
use Rattle.bgp_prefix.proofs.SortedMaps.{of_put}
use Rattle.prefix_maps.proofs.RemoveLaws.{without}
use Rattle.chunked_map.proofs.KeyedLists.{IsNarrowed, narrowed, map_remove, less_past, more_past, All-insert, up_to_pair, up_to_false, each_second, each_weaker, find_below, find_above, put_below, put_above, put_last, each_first, without_below, without_above, each_before, each_below_all, node_read}

module _ {V : Type 0} where
  pub leaves_append : (cs ds : List (List (RouteKey × V))) → in_leaves (cs ++ ds) ≡ in_leaves cs ++ in_leaves ds
  leaves_append [] ds = refl
  leaves_append (c ∷ cs) ds = ap (λ t. c ++ t) (leaves_append cs ds) ∙ sym (append_assoc c (in_leaves cs) (in_leaves ds))

  -- around a leaf
  pub around : (cs : List (List (RouteKey × V))) (i : ℕ) (d : List (RouteKey × V)) → i < length cs → in_leaves cs ≡ in_leaves (take i cs) ++ (get_or cs i d ++ in_leaves (drop (suc i) cs))
  around [] i d lt = absurd (omega (arith, lt))
  around (c ∷ cs) zero d lt = refl
  around (c ∷ cs) (suc i) d lt = ap (λ t. c ++ t) (around cs i d (omega (arith, lt))) ∙ sym (append_assoc c (in_leaves (take i cs)) (get_or cs i d ++ in_leaves (drop (suc i) cs)))

  pub around_set : (cs : List (List (RouteKey × V))) (i : ℕ) (c : List (RouteKey × V)) → i < length cs → in_leaves (set cs i c) ≡ in_leaves (take i cs) ++ (c ++ in_leaves (drop (suc i) cs))
  around_set [] i c lt = absurd (omega (arith, lt))
  around_set (b ∷ cs) zero c lt = refl
  around_set (b ∷ cs) (suc i) c lt = ap (λ t. b ++ t) (around_set cs i c (omega (arith, lt))) ∙ sym (append_assoc b (in_leaves (take i cs)) (c ++ in_leaves (drop (suc i) cs)))

  module _ (cs : List (List (RouteKey × V))) (k : RouteKey) (i : ℕ) (is : IsIndexOfKey cs k i) (d : List (RouteKey × V)) where
    abbrev leaf : List (RouteKey × V)
    leaf = get_or cs i d

    pub find_in : find key_cmp k (in_leaves cs) ≡ find key_cmp k (get_or cs i d)
    find_in =
        let bs = in_leaves (take i cs) in
        let as' = in_leaves (drop (suc i) cs) in
        let whole : find key_cmp k (in_leaves cs) ≡ option_or (find key_cmp k bs) (find key_cmp k (leaf ++ as')) = ap (find key_cmp k) (around cs i d is.in_range) ∙ find-parts k bs (leaf ++ as') in
        let outer : option_or (find key_cmp k bs) (find key_cmp k (leaf ++ as')) ≡ find key_cmp k (leaf ++ as') = ap (λ o. option_or o (find key_cmp k (leaf ++ as'))) (find_below k bs is.before) in
        let inner : find key_cmp k (leaf ++ as') ≡ find key_cmp k leaf = find-parts k leaf as' ∙ ap (λ o. option_or (find key_cmp k leaf) o) (find_above k as' is.after) ∙ or_none (find key_cmp k leaf) in
        whole ∙ outer ∙ inner

    pub put_in : (v : V) → in_leaves (set cs i (put key_cmp k v (get_or cs i d))) ≡ put key_cmp k v (in_leaves cs)
    put_in v =
        around_set cs i (put key_cmp k v leaf) is.in_range
        ∙ ap (λ t. in_leaves (take i cs) ++ t) (sym (put_above k v leaf (in_leaves (drop (suc i) cs)) is.after))
        ∙ sym (put_below k v (in_leaves (take i cs)) (leaf ++ in_leaves (drop (suc i) cs)) is.before)
        ∙ ap (put key_cmp k v) (sym (around cs i d is.in_range))

    pub without_in : in_leaves (set cs i (without k (get_or cs i d))) ≡ without k (in_leaves cs)
    without_in =
        around_set cs i (without k leaf) is.in_range
        ∙ ap (λ t. in_leaves (take i cs) ++ (without k leaf ++ t)) (sym (without_above k (in_leaves (drop (suc i) cs)) is.after))
        ∙ ap (λ t. in_leaves (take i cs) ++ t) (sym (filter-append (λ (e : RouteKey × V). not (eq_by_cmp key_cmp k e.0)) leaf (in_leaves (drop (suc i) cs))))
        ∙ ap (λ t. t ++ without k (leaf ++ in_leaves (drop (suc i) cs))) (sym (without_below k (in_leaves (take i cs)) is.before))
        ∙ sym (filter-append (λ (e : RouteKey × V). not (eq_by_cmp key_cmp k e.0)) (in_leaves (take i cs)) (leaf ++ in_leaves (drop (suc i) cs)))
        ∙ ap (without k) (sym (around cs i d is.in_range))

  pub leaf_sorted : (cs : List (List (RouteKey × V))) (i : ℕ) (d : List (RouteKey × V)) → T (is_sorted key_cmp (in_leaves cs)) → i < length cs → T (is_sorted key_cmp (get_or cs i d))
  leaf_sorted cs i d sorted lt =
      let whole : T (is_sorted key_cmp (in_leaves (take i cs) ++ (get_or cs i d ++ in_leaves (drop (suc i) cs)))) = subst (λ (es : List (RouteKey × V)). T (is_sorted key_cmp es)) (around cs i d lt) sorted in
      (sorted_parts (get_or cs i d) (in_leaves (drop (suc i) cs)) (sorted_parts (in_leaves (take i cs)) (get_or cs i d ++ in_leaves (drop (suc i) cs)) whole).1).0

  drop_sorted : (n : ℕ) (cs : List (List (RouteKey × V))) → T (is_sorted key_cmp (in_leaves cs)) → T (is_sorted key_cmp (in_leaves (drop n cs)))
  drop_sorted n cs sorted = (sorted_parts (in_leaves (take n cs)) (in_leaves (drop n cs)) (subst (λ (es : List (RouteKey × V)). T (is_sorted key_cmp es)) (ap in_leaves (sym (take-append-drop n cs)) ∙ leaves_append (take n cs) (drop n cs)) sorted)).1

  -- by what holds of the first key of a leaf: what follows for the keys before, and for those after
  module _ (ks : List RouteKey) (cs : List (List (RouteKey × V))) (branches : AreNodes ks cs) (A P Q : RouteKey → Type 0) (down : (k j : RouteKey) → key_cmp k j ≡ Less → A j → P k) (up : (j k : RouteKey) → key_cmp j k ≡ Less → Q j → Q k) where
    before_head : (es c bs : List (RouteKey × V)) → T (is_sorted key_cmp (es ++ (c ++ bs))) → is_nil c ≡ false → A (first_key c) → EachKey P es
    before_head es [] bs sorted held h = cc
    before_head es (e ∷ c) bs sorted held h = each_weaker (λ k. key_cmp k e.0 ≡ Less) P es (λ k less. down k e.0 less h) (each_before e.0 e.1 es (c ++ bs) sorted)

    pub keys_before : (n : ℕ) → n ≤ length cs → (0 < n → (d : RouteKey) → A (get_or ks (n - 1) d)) → EachKey P (in_leaves (take (n - 1) cs))
    keys_before zero inside h = tt
    keys_before (suc m) inside h =
        let one : suc m - 1 ≡ m = omega arith in
        let lt : m < length cs = omega (arith, inside) in
        let none = first_key {V = V} [] in
        let head : get_or ks m none ≡ first_key (get_or cs m []) = ap (λ (t : List RouteKey). get_or t m none) branches.firsts ∙ get_or-map first_key cs m [] none lt in
        rw one (before_head (in_leaves (take m cs)) (get_or cs m []) (in_leaves (drop (suc m) cs)) (subst (λ (es : List (RouteKey × V)). T (is_sorted key_cmp es)) (around cs m [] lt) branches.sorted) (branches.held m [] lt) (subst A head (rw one at (h (omega arith) none))))

    after_heads : (ds : List (List (RouteKey × V))) → T (is_sorted key_cmp (in_leaves ds)) → All (λ c. is_nil c ≡ false) ds → (0 < length ds → Q (first_key (get_or ds 0 []))) → EachKey Q (in_leaves ds)
    after_heads [] sorted held h = tt
    after_heads ([] ∷ ds) sorted held h = let no = All-head (λ (c : List (RouteKey × V)). is_nil c ≡ false) [] ds held in cc
    after_heads ((e ∷ c) ∷ ds) sorted held h = let q = h (omega arith) in (q, each_weaker (λ k. key_cmp e.0 k ≡ Less) Q (c ++ in_leaves ds) (λ k less. up e.0 k less q) (each_below_all e.0 (c ++ in_leaves ds) (first _ _ sorted)))

    pub keys_from : (n : ℕ) → (n < length ks → (d : RouteKey) → Q (get_or ks n d)) → EachKey Q (in_leaves (drop n cs))
    keys_from n h = after_heads (drop n cs) (drop_sorted n cs branches.sorted) (All-drop (λ c. is_nil c ≡ false) n cs branches.held) (λ some.
        let lt : n < length cs = omega (arith, some, length-drop n cs) in
        let none = first_key {V = V} [] in
        let head : get_or ks n none ≡ first_key (get_or cs n []) = ap (λ (t : List RouteKey). get_or t n none) branches.firsts ∙ get_or-map first_key cs n [] none lt in
        let here : n + 0 ≡ n = omega arith in
        let same : get_or cs n [] ≡ get_or (drop n cs) 0 [] = ap (λ (m : ℕ). get_or cs m []) (sym here) ∙ sym (get_or-drop n cs 0 []) in
        let long : n < length ks = omega (arith, lt, ap length branches.firsts, length-map cs (first_key {V = V})) in
        subst Q (head ∙ ap first_key same) (h long none))

    rest_of : (cs' : List (List (RouteKey × V))) → EachKey Q (in_leaves cs') → EachKey Q (in_leaves (drop 1 cs'))
    rest_of [] h = tt
    rest_of (c ∷ cs') h = each_second Q c (in_leaves cs') h

    pub keys_after : (n : ℕ) → (n < length ks → (d : RouteKey) → Q (get_or ks n d)) → EachKey Q (in_leaves (drop (suc (n - 1)) cs))
    keys_after zero h = rest_of cs (keys_from 0 h)
    keys_after (suc m) h = let one : suc m - 1 ≡ m = omega arith in rw one (keys_from (suc m) h)

  -- where the first key before is no greater, and the one after is
  pub index_of_key : (ks : List RouteKey) (cs : List (List (RouteKey × V))) (key : RouteKey) (low high : ℕ) → AreNodes ks cs → 0 < length cs → IsNarrowed (λ k. key_cmp k key ≢ Greater) (λ k. key_cmp k key ≡ Greater) ks low high → high ≤ low → IsIndexOfKey cs key (low - 1)
  index_of_key ks cs key low high branches some left met =
      let n = narrowed (λ k. key_cmp k key ≢ Greater) (λ k. key_cmp k key ≡ Greater) ks low high left met in
      let long : low ≤ length cs = omega (arith, n.inside, ap length branches.firsts, length-map cs (first_key {V = V})) in
      record {
        in_range = omega (arith, some, long);
        before = keys_before ks cs branches (λ j. key_cmp j key ≢ Greater) (λ k. key_cmp k key ≡ Less) (λ k. key_cmp k key ≡ Greater) (less_past key) (more_past key) low long n.below;
        after = keys_after ks cs branches (λ j. key_cmp j key ≢ Greater) (λ k. key_cmp k key ≡ Less) (λ k. key_cmp k key ≡ Greater) (less_past key) (more_past key) low n.above;
      }

  pub index_of_prefix : (ks : List RouteKey) (cs : List (List (RouteKey × V))) (p : IpPrefix) (low high : ℕ) → AreNodes ks cs → 0 < length cs → IsNarrowed (λ k. is_le (prefix_cmp k.prefix p) ≡ true) (λ k. is_le (prefix_cmp k.prefix p) ≡ false) ks low high → high ≤ low → IsIndexOfPrefix cs p (low - 1)
  index_of_prefix ks cs p low high branches some left met =
      let up_to : RouteKey → Type 0 = λ k. is_le (prefix_cmp k.prefix p) ≡ true in
      let past : RouteKey → Type 0 = λ k. is_le (prefix_cmp k.prefix p) ≡ false in
      let n = narrowed up_to past ks low high left met in
      let long : low ≤ length cs = omega (arith, n.inside, ap length branches.firsts, length-map cs (first_key {V = V})) in
      record {
        in_range = omega (arith, some, long);
        before = keys_before ks cs branches up_to up_to past (up_to_pair p) (up_to_false p) low long n.below;
        after = keys_after ks cs branches up_to up_to past (up_to_pair p) (up_to_false p) low n.above;
        start = λ later d.
            let none = first_key {V = V} [] in
            let head : get_or ks (low - 1) none ≡ first_key (get_or cs (low - 1) d) = ap (λ (t : List RouteKey). get_or t (low - 1) none) branches.firsts ∙ get_or-map first_key cs (low - 1) d none (omega (arith, some, long)) in
            subst up_to head (n.below (omega (arith, later)) none);
      }

  pub put_held : (k : RouteKey) (v : V) (es : List (RouteKey × V)) → is_nil (put key_cmp k v es) ≡ false
  put_held k v [] = refl
  put_held k v (e ∷ es) = elim (key_cmp k e.0) as (λ r. is_nil (by_order r ((k, v) ∷ e ∷ es) ((e.0, v) ∷ es) (e ∷ put key_cmp k v es)) ≡ false) [ Less ↦ refl | Equal ↦ refl | Greater ↦ refl ]

  -- the first key of the routes of nodes, and of nodes of which none is empty
  pub first_in : (ks : List RouteKey) (cs : List (List (RouteKey × V))) (k : RouteKey) → AreNodes ks cs → 0 < length (in_leaves cs) → ((d : RouteKey) → k ≡ get_or ks 0 d) → k ≡ first_key (in_leaves cs)
  first_in ks cs k branches some read = read k ∙ ap (λ (t : List RouteKey). get_or t 0 k) branches.firsts ∙ head cs branches.held some
    where
      head : (cs : List (List (RouteKey × V))) → All (λ c. is_nil c ≡ false) cs → 0 < length (in_leaves cs) → get_or (map first_key cs) 0 k ≡ first_key (in_leaves cs)
      head [] held some = absurd (omega (arith, some))
      head ([] ∷ cs) held some = let no = All-head (λ (c : List (RouteKey × V)). is_nil c ≡ false) [] cs held in cc
      head ((e ∷ c) ∷ cs) held some = refl

  pub some_in : (ks : List RouteKey) (cs : List (List (RouteKey × V))) → AreNodes ks cs → 0 < length (in_leaves cs) → 0 < length ks
  some_in ks [] branches some = absurd (omega (arith, some))
  some_in ks (c ∷ cs) branches some = omega (arith, ap length branches.firsts)

  pub nodes_one : (k : RouteKey) (v : V) → IsIpPrefix k.prefix → AreNodes (k ∷ []) (((k, v) ∷ []) ∷ [])
  nodes_one k v known = record {
    sorted = tt;
    known = All-cons (λ (e : RouteKey × V). IsIpPrefix e.0.prefix) (k, v) [] known (λ j d lt. absurd (omega (arith, lt)));
    held = All-cons (λ (c : List (RouteKey × V)). is_nil c ≡ false) ((k, v) ∷ []) [] refl (λ j d lt. absurd (omega (arith, lt)));
    firsts = refl;
  }

  pub empty_in : (cs : List (List (RouteKey × V))) → All (λ c. is_nil c ≡ false) cs → is_nil cs ≡ is_nil (in_leaves cs)
  empty_in [] held = refl
  empty_in ([] ∷ cs) held = let no = All-head (λ (c : List (RouteKey × V)). is_nil c ≡ false) [] cs held in cc
  empty_in ((e ∷ c) ∷ cs) held = refl

  pub first_put : (k : RouteKey) (v : V) (es : List (RouteKey × V)) → is_nil es ≡ false → first_key (put key_cmp k v es) ≡ lesser_key k (first_key es)
  first_put k v [] held = cc
  first_put k v (e ∷ es) held = elim (key_cmp k e.0) as (λ r. first_key (by_order r ((k, v) ∷ e ∷ es) ((e.0, v) ∷ es) (e ∷ put key_cmp k v es)) ≡ cond (is_lt r) k e.0) [ Less ↦ refl | Equal ↦ refl | Greater ↦ refl ]

  -- the first key of a node in which one was put
  pub lesser_at : (ks : List RouteKey) (cs : List (List (RouteKey × V))) (k : RouteKey) (i : ℕ) (v : V) (d : List (RouteKey × V)) (z : RouteKey) → AreNodes ks cs → i < length cs → lesser_key k (get_or ks i z) ≡ first_key (put key_cmp k v (get_or cs i d))
  lesser_at ks cs k i v d z branches lt = ap (lesser_key k) (ap (λ (t : List RouteKey). get_or t i z) branches.firsts ∙ get_or-map first_key cs i d z lt) ∙ sym (first_put k v (get_or cs i d) (branches.held i d lt))

  -- a leaf with a route put
  pub nodes_put : (ks : List RouteKey) (cs : List (List (RouteKey × V))) (k : RouteKey) (i : ℕ) (v : V) (d : List (RouteKey × V)) → AreNodes ks cs → IsIndexOfKey cs k i → IsIpPrefix k.prefix → AreNodes (set ks i (first_key (put key_cmp k v (get_or cs i d)))) (set cs i (put key_cmp k v (get_or cs i d)))
  nodes_put ks cs k i v d branches is known = record {
    sorted = subst (λ (es : List (RouteKey × V)). T (is_sorted key_cmp es)) (sym (put_in cs k i is d v)) (is_sorted-put key_cmp key_cmp_total k v (in_leaves cs) branches.sorted);
    known = subst (λ (es : List (RouteKey × V)). All (λ e. IsIpPrefix e.0.prefix) es) (sym (put_in cs k i is d v)) (of_put (λ j. IsIpPrefix j.prefix) k v (in_leaves cs) known branches.known);
    held = All-set (λ c. is_nil c ≡ false) cs i (put key_cmp k v (get_or cs i d)) (put_held k v (get_or cs i d)) branches.held;
    firsts = ap (λ (t : List RouteKey). set t i (first_key (put key_cmp k v (get_or cs i d)))) branches.firsts ∙ sym (map-set first_key cs i (put key_cmp k v (get_or cs i d)));
  }

  split_leaves : (cs : List (List (RouteKey × V))) (i : ℕ) (a b : List (RouteKey × V)) (d : List (RouteKey × V)) → i < length cs → a ++ b ≡ get_or cs i d → in_leaves (insert (set cs i a) (suc i) b) ≡ in_leaves cs
  split_leaves [] i a b d lt is = absurd (omega (arith, lt))
  split_leaves (c ∷ cs) zero a b d lt is = sym (append_assoc a b (in_leaves cs)) ∙ ap (λ t. t ++ in_leaves cs) is
  split_leaves (c ∷ cs) (suc i) a b d lt is = ap (λ t. c ++ t) (split_leaves cs i a b d (omega (arith, lt)) is)

  split_firsts : (cs : List (List (RouteKey × V))) (i : ℕ) (a b : List (RouteKey × V)) (d : List (RouteKey × V)) → i < length cs → first_key a ≡ first_key (get_or cs i d) → map first_key (insert (set cs i a) (suc i) b) ≡ insert (map first_key cs) (suc i) (first_key b)
  split_firsts [] i a b d lt is = absurd (omega (arith, lt))
  split_firsts (c ∷ cs) zero a b d lt is = ap (λ t. t ∷ first_key b ∷ map first_key cs) is
  split_firsts (c ∷ cs) (suc i) a b d lt is = ap (λ t. first_key c ∷ t) (split_firsts cs i a b d (omega (arith, lt)) is)

  held_of : (es : List (RouteKey × V)) → 0 < length es → is_nil es ≡ false
  held_of [] lt = absurd (omega (arith, lt))
  held_of (e ∷ es) lt = refl

  pub length_nil : (es : List (RouteKey × V)) → is_nil es ≡ true → length es ≡ 0
  length_nil [] h = refl
  length_nil (e ∷ es) h = cc

  pub length_held : (es : List (RouteKey × V)) → is_nil es ≡ false → 0 < length es
  length_held [] h = cc
  length_held (e ∷ es) h = omega arith

  pub first_is : (es : List (RouteKey × V)) (k : RouteKey) → 0 < length es → ((d : RouteKey × V) → k ≡ (get_or es 0 d).0) → k ≡ first_key es
  first_is [] k lt h = absurd (omega (arith, lt))
  first_is (e ∷ es) k lt h = h e

  first_of_both : (a b c : List (RouteKey × V)) → 0 < length a → a ++ b ≡ c → first_key a ≡ first_key c
  first_of_both [] b c some whole = absurd (omega (arith, some))
  first_of_both (e ∷ a) b c some whole = ap first_key whole

  -- a node in two
  pub nodes_split : (ks : List RouteKey) (cs : List (List (RouteKey × V))) (i : ℕ) (a b : List (RouteKey × V)) (d : List (RouteKey × V)) → AreNodes ks cs → i < length cs → IsCut (get_or cs i d) a b → (in_leaves (insert (set cs i a) (i + 1) b) ≡ in_leaves cs) × AreNodes (insert ks (i + 1) (first_key b)) (insert (set cs i a) (i + 1) b)
  nodes_split ks cs i a b d branches lt cut =
      let one : i + 1 ≡ suc i = omega arith in
      let same : in_leaves (insert (set cs i a) (suc i) b) ≡ in_leaves cs = split_leaves cs i a b d lt cut.whole in
      rw one (
        same,
        record {
          sorted = subst (λ (es : List (RouteKey × V)). T (is_sorted key_cmp es)) (sym same) branches.sorted;
          known = subst (λ (es : List (RouteKey × V)). All (λ e. IsIpPrefix e.0.prefix) es) (sym same) branches.known;
          held = All-insert (λ x. is_nil x ≡ false) (set cs i a) (suc i) b (held_of b cut.high_held) (All-set (λ x. is_nil x ≡ false) cs i a (held_of a cut.low_held) branches.held);
          firsts = ap (λ (t : List RouteKey). insert t (suc i) (first_key b)) branches.firsts ∙ sym (split_firsts cs i a b d lt (first_of_both a b (get_or cs i d) cut.low_held cut.whole));
        },
      )

  length_all : (cs : List (List (RouteKey × V))) → All (λ c. is_nil c ≡ false) cs → length cs ≤ length (in_leaves cs)
  length_all [] held = omega arith
  length_all (c ∷ cs) held =
      let one = length_held c (All-head (λ (x : List (RouteKey × V)). is_nil x ≡ false) c cs held) in
      omega (arith, length-append c (in_leaves cs), one, length_all cs (All-tail (λ (x : List (RouteKey × V)). is_nil x ≡ false) c cs held))

  -- the first nodes, and the others
  pub nodes_cut : (ks : List RouteKey) (cs : List (List (RouteKey × V))) (n : ℕ) → AreNodes ks cs → 0 < n → n < length cs → record { low : AreNodes (take n ks) (take n cs); high : AreNodes (drop n ks) (drop n cs); cut : IsCut (in_leaves cs) (in_leaves (take n cs)) (in_leaves (drop n cs)) }
  nodes_cut ks cs n branches some less =
      let whole : in_leaves (take n cs) ++ in_leaves (drop n cs) ≡ in_leaves cs = sym (leaves_append (take n cs) (drop n cs)) ∙ ap in_leaves (take-append-drop n cs) in
      let nodes = sorted_parts (in_leaves (take n cs)) (in_leaves (drop n cs)) (subst (λ (es : List (RouteKey × V)). T (is_sorted key_cmp es)) (sym whole) branches.sorted) in
      let known = All-parts (λ (e : RouteKey × V). IsIpPrefix e.0.prefix) (in_leaves (take n cs)) (in_leaves (drop n cs)) (subst (λ (es : List (RouteKey × V)). All (λ e. IsIpPrefix e.0.prefix) es) (sym whole) branches.known) in
      let low : All (λ (c : List (RouteKey × V)). is_nil c ≡ false) (take n cs) = All-take (λ c. is_nil c ≡ false) n cs branches.held in
      let high : All (λ (c : List (RouteKey × V)). is_nil c ≡ false) (drop n cs) = All-drop (λ c. is_nil c ≡ false) n cs branches.held in
      record {
        low = record { sorted = nodes.0; known = known.0; held = low; firsts = ap (take n) branches.firsts ∙ take-map first_key n cs };
        high = record { sorted = nodes.1; known = known.1; held = high; firsts = ap (drop n) branches.firsts ∙ drop-map first_key n cs };
        cut = record {
          whole = whole;
          low_held = omega (arith, some, less, length-take n cs, length_all (take n cs) low);
          high_held = omega (arith, less, length-drop n cs, length_all (drop n cs) high);
        };
      }

  -- one more leaf at the end
  pub nodes_push : (ks : List RouteKey) (cs : List (List (RouteKey × V))) (k : RouteKey) (v : V) → AreNodes ks cs → EachKey (λ j. key_cmp j k ≡ Less) (in_leaves cs) → IsIpPrefix k.prefix → (in_leaves (insert cs (length cs) ((k, v) ∷ [])) ≡ put key_cmp k v (in_leaves cs)) × AreNodes (insert ks (length ks) k) (insert cs (length cs) ((k, v) ∷ []))
  nodes_push ks cs k v branches last known =
      let one : List (RouteKey × V) = (k, v) ∷ [] in
      let is : in_leaves (cs ++ one ∷ []) ≡ put key_cmp k v (in_leaves cs) = leaves_append cs (one ∷ []) ∙ sym (put_below k v (in_leaves cs) [] last) ∙ ap (put key_cmp k v) (append-nil (in_leaves cs)) in
      rw (insert_end cs one, insert_end ks k) (
        is,
        record {
          sorted = subst (λ (es : List (RouteKey × V)). T (is_sorted key_cmp es)) (sym is) (is_sorted-put key_cmp key_cmp_total k v (in_leaves cs) branches.sorted);
          known = subst (λ (es : List (RouteKey × V)). All (λ e. IsIpPrefix e.0.prefix) es) (sym is) (of_put (λ j. IsIpPrefix j.prefix) k v (in_leaves cs) known branches.known);
          held = All-append (λ x. is_nil x ≡ false) cs (one ∷ []) branches.held (All-cons (λ x. is_nil x ≡ false) one [] refl (λ j d lt. absurd (omega (arith, lt))));
          firsts = ap (λ (t : List RouteKey). t ++ k ∷ []) branches.firsts ∙ sym (map-append first_key cs (one ∷ []));
        },
      )

  -- what holds of each key holds of those of a leaf
  pub each_of_leaf : (P : RouteKey → Type 0) (cs : List (List (RouteKey × V))) (i : ℕ) (d : List (RouteKey × V)) → i < length cs → EachKey P (in_leaves cs) → EachKey P (get_or cs i d)
  each_of_leaf P cs i d lt h = each_first P (get_or cs i d) (in_leaves (drop (suc i) cs)) (each_second P (in_leaves (take i cs)) (get_or cs i d ++ in_leaves (drop (suc i) cs)) (subst (λ (es : List (RouteKey × V)). EachKey P es) (around cs i d lt) h))

  first_pushed : (es fs : List (RouteKey × V)) → is_nil es ≡ false → first_key (es ++ fs) ≡ first_key es
  first_pushed [] fs held = cc
  first_pushed (e ∷ es) fs held = refl

  held_pushed : (es : List (RouteKey × V)) (e : RouteKey × V) → is_nil (es ++ e ∷ []) ≡ false
  held_pushed [] e = refl
  held_pushed (x ∷ es) e = refl

  -- one more route at the end of the last leaf
  pub leaf_pushed : (cs : List (List (RouteKey × V))) (i : ℕ) (d : List (RouteKey × V)) (e : RouteKey × V) → i + 1 ≡ length cs → in_leaves (set cs i (get_or cs i d ++ e ∷ [])) ≡ in_leaves cs ++ e ∷ []
  leaf_pushed [] i d e last = absurd (omega (arith, last))
  leaf_pushed (c ∷ []) zero d e last = append-nil (c ++ e ∷ []) ∙ ap (λ t. t ++ e ∷ []) (sym (append-nil c))
  leaf_pushed (c ∷ b ∷ cs) zero d e last = absurd (omega (arith, last))
  leaf_pushed (c ∷ cs) (suc i) d e last = ap (λ t. c ++ t) (leaf_pushed cs i d e (omega (arith, last))) ∙ sym (append_assoc c (in_leaves cs) (e ∷ []))

  pub nodes_pushed : (ks : List RouteKey) (cs : List (List (RouteKey × V))) (k : RouteKey) (v : V) (i : ℕ) (d : List (RouteKey × V)) → AreNodes ks cs → i + 1 ≡ length cs → EachKey (λ j. key_cmp j k ≡ Less) (in_leaves cs) → IsIpPrefix k.prefix → AreNodes ks (set cs i (get_or cs i d ++ (k, v) ∷ []))
  nodes_pushed ks cs k v i d branches last below known =
      let c = get_or cs i d ++ (k, v) ∷ [] in
      let is : in_leaves (set cs i c) ≡ put key_cmp k v (in_leaves cs) = leaf_pushed cs i d (k, v) last ∙ sym (put_last k v (in_leaves cs) below) in
      record {
        sorted = subst (λ (es : List (RouteKey × V)). T (is_sorted key_cmp es)) (sym is) (is_sorted-put key_cmp key_cmp_total k v (in_leaves cs) branches.sorted);
        known = subst (λ (es : List (RouteKey × V)). All (λ e. IsIpPrefix e.0.prefix) es) (sym is) (of_put (λ j. IsIpPrefix j.prefix) k v (in_leaves cs) known branches.known);
        held = All-set (λ x. is_nil x ≡ false) cs i c (held_pushed (get_or cs i d) (k, v)) branches.held;
        firsts = branches.firsts ∙ sym (map-set_same first_key cs i c d (first_pushed (get_or cs i d) ((k, v) ∷ []) (branches.held i d (omega (arith, last)))));
      }

  without_known : (k : RouteKey) (es : List (RouteKey × V)) → All (λ e. IsIpPrefix e.0.prefix) es → All (λ e. IsIpPrefix e.0.prefix) (without k es)
  without_known k es all = All-filter (λ (e : RouteKey × V). not (eq_by_cmp key_cmp k e.0)) (λ e. IsIpPrefix e.0.prefix) es all

  -- a leaf without a key, where it still holds some
  pub nodes_without : (ks : List RouteKey) (cs : List (List (RouteKey × V))) (k : RouteKey) (i : ℕ) (d : List (RouteKey × V)) → AreNodes ks cs → IsIndexOfKey cs k i → 0 < length (without k (get_or cs i d)) → AreNodes (set ks i (first_key (without k (get_or cs i d)))) (set cs i (without k (get_or cs i d)))
  nodes_without ks cs k i d branches is some =
      let c = without k (get_or cs i d) in
      record {
        sorted = subst (λ (es : List (RouteKey × V)). T (is_sorted key_cmp es)) (sym (without_in cs k i is d)) (is_sorted-where_key key_cmp (λ x. not (eq_by_cmp key_cmp k x)) (in_leaves cs) branches.sorted);
        known = subst (λ (es : List (RouteKey × V)). All (λ e. IsIpPrefix e.0.prefix) es) (sym (without_in cs k i is d)) (without_known k (in_leaves cs) branches.known);
        held = All-set (λ x. is_nil x ≡ false) cs i c (held_of c some) branches.held;
        firsts = ap (λ (t : List RouteKey). set t i (first_key c)) branches.firsts ∙ sym (map-set first_key cs i c);
      }

  leaf_gone : (cs : List (List (RouteKey × V))) (i : ℕ) (c : List (RouteKey × V)) → i < length cs → c ≡ [] → in_leaves (remove (set cs i c) i) ≡ in_leaves (set cs i c)
  leaf_gone [] i c lt none = absurd (omega (arith, lt))
  leaf_gone (b ∷ cs) zero c lt none = ap (λ t. t ++ in_leaves cs) (sym none)
  leaf_gone (b ∷ cs) (suc i) c lt none = ap (λ t. b ++ t) (leaf_gone cs i c (omega (arith, lt)) none)

  remove_set : (cs : List (List (RouteKey × V))) (i : ℕ) (c : List (RouteKey × V)) → remove (set cs i c) i ≡ remove cs i
  remove_set [] i c = refl
  remove_set (b ∷ cs) zero c = refl
  remove_set (b ∷ cs) (suc i) c = ap (λ t. b ∷ t) (remove_set cs i c)

  -- a leaf that goes with its last key
  pub nodes_gone : (ks : List RouteKey) (cs : List (List (RouteKey × V))) (k : RouteKey) (i : ℕ) (d : List (RouteKey × V)) → AreNodes ks cs → IsIndexOfKey cs k i → length (without k (get_or cs i d)) ≡ 0 → (in_leaves (remove (set cs i (without k (get_or cs i d))) i) ≡ without k (in_leaves cs)) × AreNodes (remove ks i) (remove (set cs i (without k (get_or cs i d))) i)
  nodes_gone ks cs k i d branches is none =
      let c = without k (get_or cs i d) in
      let same : in_leaves (remove (set cs i c) i) ≡ without k (in_leaves cs) = leaf_gone cs i c is.in_range (nil_from_length c none) ∙ without_in cs k i is d in (
        same,
        record {
          sorted = subst (λ (es : List (RouteKey × V)). T (is_sorted key_cmp es)) (sym same) (is_sorted-where_key key_cmp (λ x. not (eq_by_cmp key_cmp k x)) (in_leaves cs) branches.sorted);
          known = subst (λ (es : List (RouteKey × V)). All (λ e. IsIpPrefix e.0.prefix) es) (sym same) (without_known k (in_leaves cs) branches.known);
          held = subst (λ (t : List (List (RouteKey × V))). All (λ x. is_nil x ≡ false) t) (sym (remove_set cs i c)) (All-append (λ x. is_nil x ≡ false) (take i cs) (drop (suc i) cs) (All-take (λ x. is_nil x ≡ false) i cs branches.held) (All-drop (λ x. is_nil x ≡ false) (suc i) cs branches.held));
          firsts = ap (λ (t : List RouteKey). remove t i) branches.firsts ∙ sym (map_remove first_key cs i) ∙ ap (map first_key) (sym (remove_set cs i c));
        },
      )

  pub leaves_more : (cs : List (List (RouteKey × V))) (i : ℕ) (c : List (RouteKey × V)) → i < length cs → c ≡ get_or cs i c → in_leaves (take (i + 1) cs) ≡ in_leaves (take i cs) ++ c
  leaves_more cs i c lt read = ap in_leaves (take_more cs i c lt) ∙ leaves_append (take i cs) (get_or cs i c ∷ []) ∙ ap (λ t. in_leaves (take i cs) ++ t) (append-nil (get_or cs i c) ∙ sym read)

  -- a leaf and those before it are no longer than all of them
  pub leaf_within : (cs : List (List (RouteKey × V))) (i : ℕ) (c : List (RouteKey × V)) → i < length cs → c ≡ get_or cs i c → length (in_leaves (take i cs)) + length c ≤ length (in_leaves cs)
  leaf_within cs i c lt read =
      let rest = in_leaves (drop (suc i) cs) in
      let whole : length (in_leaves cs) ≡ length (in_leaves (take i cs)) + (length c + length rest) = ap length (around cs i c lt ∙ ap (λ t. in_leaves (take i cs) ++ (t ++ rest)) (sym read)) ∙ length-append (in_leaves (take i cs)) (c ++ rest) ∙ ap (λ n. length (in_leaves (take i cs)) + n) (length-append c rest) in
      omega (arith, whole)

  -- the node that is listed next has room where all of them have
  pub node_fits : {A : Type 0} (f : A → List (RouteKey × V)) (ps : List A) (i : ℕ) (x : A) → i < length ps → x ≡ get_or ps i x → length (in_leaves (take i (map f ps))) + length (f x) ≤ length (in_leaves (map f ps))
  node_fits f ps i x lt read = leaf_within (map f ps) i (f x) (omega (arith, lt, length-map ps f)) (node_read f ps i x lt read)

  -- the routes of one node more
  pub node_listed : {A : Type 0} (f : A → List (RouteKey × V)) (ps : List A) (i : ℕ) (x : A) → i < length ps → x ≡ get_or ps i x → in_leaves (take (i + 1) (map f ps)) ≡ in_leaves (take i (map f ps)) ++ f x
  node_listed f ps i x lt read = leaves_more (map f ps) i (f x) (omega (arith, lt, length-map ps f)) (node_read f ps i x lt read)
