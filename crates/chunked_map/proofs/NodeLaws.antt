-- What holds of a level by one of its nodes, which was read or changed.
use Rattle.std.proofs.Common.{◌≡◌, ℕ, ◌+◌, ◌<◌, true, false, T, List, [], ◌∷◌, ◌++◌, length, get_or, set, map, sym, ap, ◌∙◌, subst, arith, take, drop}
use Rattle.std.specs.List.{insert, remove}
use Rattle.std.specs.declared.cmp.Ordering.TheVariants.{Less}
use Rattle.std.specs.FinMap.{find, put, is_sorted}
use Rattle.std.proofs.lemmas.List.{get_or-set_same, length-map, map-set, take-map, drop-map}
use Rattle.std.proofs.Math.Seq.{map-set_same}
use Rattle.bgp_prefix.specs.Prefixes.{IsIpPrefix}
use Rattle.bgp_prefix.specs.Keys.{key_cmp, is_nil, RouteKey}
use Rattle.prefix_maps.proofs.RemoveLaws.{without}
use Rattle.chunked_map.specs.ChunkedMaps.{in_leaves, first_key, lesser_key, AreNodes, EachKey, IsIndexOfKey, IsCut}
use Rattle.chunked_map.proofs.KeyedLists.{node_read, map_insert, map_remove}
use Rattle.chunked_map.proofs.ChunkedMapLaws.{leaf_sorted, find_in, put_in, nodes_put, lesser_at, without_in, nodes_gone, nodes_without, nodes_split, each_of_leaf, leaf_pushed, nodes_pushed, length_nil, length_held, nodes_push, nodes_cut}
use Rattle.chunked_map.proofs.LastPrefixes.{last_of}

module _ {A V : Type 0} (f : A → List (RouteKey × V)) (ps : List A) (ks : List RouteKey) (nodes : AreNodes ks (map f ps)) where
  -- the first nodes, and the others
  pub nodes_halved : (n : ℕ) → 0 < n → n < length ps → record { low : AreNodes (take n ks) (map f (take n ps)); high : AreNodes (drop n ks) (map f (drop n ps)); cut : IsCut (in_leaves (map f ps)) (in_leaves (map f (take n ps))) (in_leaves (map f (drop n ps))) }
  nodes_halved n some less = rw (← take-map f n ps, ← drop-map f n ps) (nodes_cut ks (map f ps) n nodes some (omega (arith, less, length-map ps f)))

  -- one more at the end
  pub node_added : (k : RouteKey) (v : V) (node : A) (n m : ℕ) → f node ≡ (k, v) ∷ [] → n ≡ length ps → m ≡ length ks → EachKey (λ j. key_cmp j k ≡ Less) (in_leaves (map f ps)) → IsIpPrefix k.prefix → (in_leaves (map f (insert ps n node)) ≡ put key_cmp k v (in_leaves (map f ps))) × AreNodes (insert ks m k) (map f (insert ps n node))
  node_added k v node n m single at at_key last known = rw (map_insert f ps n node, single, at ∙ sym (length-map ps f), at_key) (nodes_push ks (map f ps) k v nodes last known)

-- node i of nodes, whose routes are told by f
module _ {A V : Type 0} (f : A → List (RouteKey × V)) (ps : List A) (i : ℕ) (x : A) (read : x ≡ get_or ps i x) where
  pub node_is : i < length (map f ps) → f x ≡ get_or (map f ps) i (f x)
  node_is lt = node_read f ps i x (omega (arith, lt, length-map ps f)) read

  pub node_sorted : i < length (map f ps) → T (is_sorted key_cmp (in_leaves (map f ps))) → T (is_sorted key_cmp (f x))
  node_sorted lt sorted = rw (node_is lt) (leaf_sorted (map f ps) i (f x) sorted lt)

  pub node_each : (P : RouteKey → Type 0) → i < length (map f ps) → EachKey P (in_leaves (map f ps)) → EachKey P (f x)
  node_each P lt each = rw (node_is lt) (each_of_leaf P (map f ps) i (f x) lt each)

  -- of the last node what holds of all
  pub node_last : (ks : List RouteKey) (k : RouteKey) → AreNodes ks (map f ps) → i + 1 ≡ length ps → EachKey (λ j. key_cmp j k ≡ Less) (f x) → EachKey (λ j. key_cmp j k ≡ Less) (in_leaves (map f ps))
  node_last ks k nodes last below =
      let count = length-map ps f in
      last_of ks (map f ps) k i (f x) nodes (omega arith) (subst (EachKey (λ j. key_cmp j k ≡ Less)) (node_is (omega arith)) below)

  -- a change that leaves its routes
  pub node_kept : (new : A) → f new ≡ f x → map f (set ps i new) ≡ map f ps
  node_kept new same = map-set_same f ps i new x (same ∙ ap f read)

  -- a route at the end of the last one
  module _ (k : RouteKey) (v : V) (new : A) (last : i + 1 ≡ length ps) (pushed : f new ≡ f x ++ (k, v) ∷ []) where
    count : i + 1 ≡ length (map f ps)
    count = last ∙ sym (length-map ps f)

    pushed_is : f new ≡ get_or (map f ps) i (f x) ++ (k, v) ∷ []
    pushed_is = pushed ∙ ap (λ es. es ++ (k, v) ∷ []) (node_is (omega (arith, count)))

    pub node_pushed : in_leaves (map f (set ps i new)) ≡ in_leaves (map f ps) ++ (k, v) ∷ []
    node_pushed = rw (map-set f ps i new, pushed_is) (leaf_pushed (map f ps) i (f x) (k, v) count)

    pub nodes_with_pushed : (ks : List RouteKey) → AreNodes ks (map f ps) → EachKey (λ j. key_cmp j k ≡ Less) (in_leaves (map f ps)) → IsIpPrefix k.prefix → AreNodes ks (map f (set ps i new))
    nodes_with_pushed ks nodes below known = rw (map-set f ps i new, pushed_is) (nodes_pushed ks (map f ps) k v i (f x) nodes count below known)

  -- the node in two
  pub node_split : (ks : List RouteKey) (low high : A) → AreNodes ks (map f ps) → i < length ps → IsCut (f x) (f low) (f high) → (in_leaves (map f (insert (set ps i low) (i + 1) high)) ≡ in_leaves (map f ps)) × AreNodes (insert ks (i + 1) (first_key (f high))) (map f (insert (set ps i low) (i + 1) high))
  node_split ks low high nodes within cut =
      let lt : i < length (map f ps) = omega (arith, within, length-map ps f) in
      rw (map_insert f (set ps i low) (i + 1) high, map-set f ps i low) (nodes_split ks (map f ps) i (f low) (f high) (f x) nodes lt (subst (λ (es : List (RouteKey × V)). IsCut es (f low) (f high)) (node_is lt) cut))

  -- the node of a key
  module _ (k : RouteKey) (is : IsIndexOfKey (map f ps) k i) where
    pub node_found : find key_cmp k (f x) ≡ find key_cmp k (in_leaves (map f ps))
    node_found = ap (find key_cmp k) (node_is is.in_range) ∙ sym (find_in (map f ps) k i is (f x))

    module _ (new : A) (v : V) (stored : f new ≡ put key_cmp k v (f x)) where
      stored_is : f new ≡ put key_cmp k v (get_or (map f ps) i (f x))
      stored_is = stored ∙ ap (put key_cmp k v) (node_is is.in_range)

      pub node_put : in_leaves (map f (set ps i new)) ≡ put key_cmp k v (in_leaves (map f ps))
      node_put = rw (map-set f ps i new, stored_is) (put_in (map f ps) k i is (f x) v)

      pub nodes_with_put : (ks : List RouteKey) → AreNodes ks (map f ps) → IsIpPrefix k.prefix → AreNodes (set ks i (lesser_key k (get_or ks i k))) (map f (set ps i new))
      nodes_with_put ks nodes known = rw (lesser_at ks (map f ps) k i v (f x) k nodes is.in_range, map-set f ps i new, stored_is) (nodes_put ks (map f ps) k i v (f x) nodes is known)

    module _ (new : A) (removed : f new ≡ without k (f x)) where
      left : f new ≡ without k (get_or (map f ps) i (f x))
      left = removed ∙ ap (without k) (node_is is.in_range)

      -- it is read again
      left_in : (y : A) → y ≡ get_or (set ps i new) i y → f y ≡ without k (get_or (map f ps) i (f x))
      left_in y again = ap f (again ∙ get_or-set_same ps i new y (omega (arith, is.in_range, length-map ps f))) ∙ left

      pub node_without : in_leaves (map f (set ps i new)) ≡ without k (in_leaves (map f ps))
      node_without = rw (map-set f ps i new, left) (without_in (map f ps) k i is (f x))

      pub node_gone : (ks : List RouteKey) (y : A) → AreNodes ks (map f ps) → y ≡ get_or (set ps i new) i y → is_nil (f y) ≡ true → (in_leaves (map f (remove (set ps i new) i)) ≡ without k (in_leaves (map f ps))) × AreNodes (remove ks i) (map f (remove (set ps i new) i))
      node_gone ks y nodes again none = rw (map_remove f (set ps i new) i, map-set f ps i new, left) (nodes_gone ks (map f ps) k i (f x) nodes is (length_nil _ (ap is_nil (sym (left_in y again)) ∙ none)))

      pub nodes_left : (ks : List RouteKey) (y z : A) (first : RouteKey) → AreNodes ks (map f ps) → y ≡ get_or (set ps i new) i y → is_nil (f y) ≡ false → z ≡ get_or (set ps i new) i z → first ≡ first_key (f z) → AreNodes (set ks i first) (map f (set ps i new))
      nodes_left ks y z first nodes again some later head = rw (head ∙ ap first_key (left_in z later), map-set f ps i new, left) (nodes_without ks (map f ps) k i (f x) nodes is (length_held _ (ap is_nil (sym (left_in y again)) ∙ some)))
