-- Lists of routes in leaves: their ends, the last prefix up to one, and the routes of a prefix.
use Rattle.std.proofs.Common.{◌≡◌, ◌≢◌, ℕ, zero, suc, ◌+◌, ◌-◌, ◌<◌, ◌≤◌, true, false, cond, T, List, [], ◌∷◌, ◌++◌, length, get_or, take, drop, map, Option, Some, None, refl, sym, ap, ◌∙◌, subst, arith, inl, inr}
use Rattle.std.specs.Ordering.{is_le, ordering_index}
use Rattle.std.specs.declared.cmp.Ordering.TheVariants.{Less, Greater}
use Rattle.std.specs.FinMap.{is_sorted}
use Rattle.std.proofs.lemmas.Bool.{cases_lt}
use Rattle.std.proofs.lemmas.List.{append-nil, take-append-drop, drop_all, length-append, get_or_append_left, get_or-append_right, get_or_default}
use Rattle.bgp_prefix.specs.Prefixes.{IpPrefix, prefix_cmp, prefix_eq, contains, leading_bits}
use Rattle.bgp_prefix.specs.Keys.{key_cmp, is_nil, RouteKey}
use Rattle.chunked_map.specs.ChunkedMaps.{in_leaves, first_key, AreNodes, EachKey, IsIndexOfPrefix, IsLastUpTo, IsBefore}
use Rattle.std.specs.List.Sorted.{IsPartitionPoint}
use Rattle.prefix_maps.proofs.JumpLaws.{IsLimit, none_found, match_found, falls, IsLimit-miss}
use Rattle.prefix_maps.proofs.NetworkLaws.{network}
use Rattle.bgp_prefix.specs.Maps.{IsLongestMatch, HasNoMatch, paths_of}
use Rattle.std.specs.FinMap as finite
use Rattle.std.specs.List.{filter}
use Rattle.bgp_prefix.proofs.KeyLaws.{key_cmp_total}
use Rattle.bgp_prefix.proofs.SearchLaws.{sorted_at}
use Rattle.bgp_prefix.proofs.SortedMaps.{other_of_less, other_of_greater, lesser_prefix, prefix_rises, greatest}
use Rattle.prefix_maps.proofs.ListedLaws.{paths_of-append}
use Rattle.chunked_map.proofs.KeyedLists.{le, EachBelow, each_append, each_weaker, each_before}
use Rattle.chunked_map.proofs.ChunkedMapLaws.{leaves_append, around, keys_from, length_held, leaves_more}

module _ {V : Type 0} where
  each_from : (k : RouteKey) (es : List (RouteKey × V)) → ((j : ℕ) (d : RouteKey × V) → j < length es → key_cmp (get_or es j d).0 k ≡ Less) → EachBelow k es
  each_from k [] h = tt
  each_from k (e ∷ es) h = (h 0 e (omega arith), each_from k es (λ j d lt. h (suc j) d (omega (arith, lt))))

  pub ends_in : (es : List (RouteKey × V)) (k last : RouteKey) → T (is_sorted key_cmp es) → 0 < length es → ((d : RouteKey × V) → last ≡ (get_or es (length es - 1) d).0) → key_cmp last k ≡ Less → EachBelow k es
  ends_in es k last sorted some read less = each_from k es (λ j d lt. elim (cases_lt j (length es - 1)) [
    | inl early ↦ key_cmp_total.trans (get_or es j d).0 last k (subst (λ (q : RouteKey). key_cmp (get_or es j d).0 q ≡ Less) (sym (read d)) (sorted_at key_cmp key_cmp_total es j (length es - 1) d sorted early (omega (arith, some)))) less
    | inr late ↦ let same : length es - 1 ≡ j = omega (arith, lt, late) in subst (λ (n : ℕ). key_cmp (get_or es n d).0 k ≡ Less) same (subst (λ (q : RouteKey). key_cmp q k ≡ Less) (read d) less)
  ])

  -- a key above the last node is above all
  pub last_of : (ks : List RouteKey) (cs : List (List (RouteKey × V))) (k : RouteKey) (i : ℕ) (d : List (RouteKey × V)) → AreNodes ks cs → i + 1 ≡ length cs → EachBelow k (get_or cs i d) → EachBelow k (in_leaves cs)
  last_of ks cs k i d branches last below =
      let lt : i < length cs = omega (arith, last) in
      let rest : drop (suc i) cs ≡ [] = drop_all (suc i) cs (omega (arith, last)) in
      let whole : in_leaves cs ≡ in_leaves (take i cs) ++ (get_or cs i d ++ in_leaves (drop (suc i) cs)) = around cs i d lt in
      let after : EachBelow k (in_leaves (drop (suc i) cs)) = subst (λ (t : List (List (RouteKey × V))). EachBelow k (in_leaves t)) (sym rest) tt in
      let before : EachBelow k (in_leaves (take i cs)) = front (in_leaves (take i cs)) (get_or cs i d) (in_leaves (drop (suc i) cs)) (subst (λ (es : List (RouteKey × V)). T (is_sorted key_cmp es)) whole branches.sorted) (branches.held i d lt) below in
      subst (λ (es : List (RouteKey × V)). EachBelow k es) (sym whole) (each_append (λ j. key_cmp j k ≡ Less) (in_leaves (take i cs)) (get_or cs i d ++ in_leaves (drop (suc i) cs)) before (each_append (λ j. key_cmp j k ≡ Less) (get_or cs i d) (in_leaves (drop (suc i) cs)) below after))
    where
      front : (es c bs : List (RouteKey × V)) → T (is_sorted key_cmp (es ++ (c ++ bs))) → is_nil c ≡ false → EachBelow k c → EachBelow k es
      front es [] bs sorted held below = cc
      front es (e ∷ c) bs sorted held below = each_weaker (λ j. key_cmp j e.0 ≡ Less) (λ j. key_cmp j k ≡ Less) es (λ j less. key_cmp_total.trans j e.0 k less below.0) (each_before e.0 e.1 es (c ++ bs) sorted)

  each_at : (P : RouteKey → Type 0) (es : List (RouteKey × V)) (j : ℕ) (d : RouteKey × V) → EachKey P es → j < length es → P (get_or es j d).0
  each_at P [] j d h lt = absurd (omega (arith, lt))
  each_at P (e ∷ es) zero d h lt = h.0
  each_at P (e ∷ es) (suc j) d h lt = each_at P es j d h.1 (omega (arith, lt))

  abbrev pub IsEnd : IpPrefix → List (RouteKey × V) → ℕ → Type 0
  IsEnd p es n = IsPartitionPoint (λ e. is_le (prefix_cmp e.0.prefix p) ≡ true) (λ e. is_le (prefix_cmp e.0.prefix p) ≡ false) es n

  -- in three nodes
  end_of : (p : IpPrefix) (as' c bs : List (RouteKey × V)) (n : ℕ) → n ≤ length c → EachKey (λ k. le p k ≡ true) as' → IsEnd p c n → EachKey (λ k. le p k ≡ false) bs → IsEnd p (as' ++ (c ++ bs)) (length as' + n)
  end_of p as' c bs n inside low mid high = (
    λ k d z lt. elim (cases_lt k (length as')) [
      | inl early ↦ subst (λ (e : RouteKey × V). le p e.0 ≡ true) (sym (get_or_append_left as' (c ++ bs) d k early)) (each_at (λ j. le p j ≡ true) as' k d low early)
      | inr late ↦
          let at : get_or (as' ++ (c ++ bs)) k d ≡ get_or c (k - length as') d = get_or-append_right as' (c ++ bs) (length as') k d refl late ∙ get_or_append_left c bs d (k - length as') (omega (arith, lt, late, inside)) in
          subst (λ (e : RouteKey × V). le p e.0 ≡ true) (sym at) (mid.0 (k - length as') d (omega arith) (omega (arith, lt, late)))
    ],
    λ k d past lt.
        let late : length as' ≤ k = omega (arith, past) in
        let first' : get_or (as' ++ (c ++ bs)) k d ≡ get_or (c ++ bs) (k - length as') d = get_or-append_right as' (c ++ bs) (length as') k d refl late in
        elim (cases_lt (k - length as') (length c)) [
          | inl early ↦ subst (λ (e : RouteKey × V). le p e.0 ≡ false) (sym (first' ∙ get_or_append_left c bs d (k - length as') early)) (mid.1 (k - length as') d (omega (arith, past)) early)
          | inr after ↦
              let second' : get_or (c ++ bs) (k - length as') d ≡ get_or bs (k - length as' - length c) d = get_or-append_right c bs (length c) (k - length as') d refl after in
              subst (λ (e : RouteKey × V). le p e.0 ≡ false) (sym (first' ∙ second')) (each_at (λ j. le p j ≡ false) bs (k - length as' - length c) d high (omega (arith, after, late, lt, length-append as' (c ++ bs), length-append c bs)))
        ],
  )

  module _ (ks : List RouteKey) (cs : List (List (RouteKey × V))) (p : IpPrefix) (i n : ℕ) (c : List (RouteKey × V)) (branches : AreNodes ks cs) (is : IsIndexOfPrefix cs p i) (read : c ≡ get_or cs i c) (inside : n ≤ length c) (end : IsEnd p c n) where
    whole : in_leaves cs ≡ in_leaves (take i cs) ++ (c ++ in_leaves (drop (suc i) cs))
    whole = around cs i c is.in_range ∙ ap (λ t. in_leaves (take i cs) ++ (t ++ in_leaves (drop (suc i) cs))) (sym read)

    point : IsEnd p (in_leaves cs) (length (in_leaves (take i cs)) + n)
    point = subst (λ (es : List (RouteKey × V)). IsEnd p es (length (in_leaves (take i cs)) + n)) (sym whole) (end_of p (in_leaves (take i cs)) c (in_leaves (drop (suc i) cs)) n inside is.before end is.after)

    within : length (in_leaves (take i cs)) + n ≤ length (in_leaves cs)
    within = omega (arith, ap length whole, length-append (in_leaves (take i cs)) (c ++ in_leaves (drop (suc i) cs)), length-append c (in_leaves (drop (suc i) cs)), inside)

    pub none_before : n ≡ 0 → IsLastUpTo (in_leaves cs) p None
    none_before none = record {
      count = length (in_leaves (take i cs)) + n;
      inside = within;
      end = point;
      before = elim (cases_lt 0 i) [
        | inl later ↦
            let some : 0 < length c = subst (λ (t : List (RouteKey × V)). 0 < length t) (sym read) (length_held (get_or cs i c) (branches.held i c is.in_range)) in
            let up : le p (first_key c) ≡ true = subst (λ (t : List (RouteKey × V)). le p (first_key t) ≡ true) (sym read) (is.start later c) in
            clash c some up (λ d. end.1 0 d (omega (arith, none)) some)
        | inr zero' ↦ let first : i ≡ 0 = omega (arith, zero') in rw (first, none) refl
      ];
    }
      where
        clash : (es : List (RouteKey × V)) → 0 < length es → le p (first_key es) ≡ true → ((d : RouteKey × V) → le p (get_or es 0 d).0 ≡ false) → length (in_leaves (take i cs)) + n ≡ 0
        clash [] lt up not' = absurd (omega (arith, lt))
        clash (e ∷ es) lt up not' = let bad : true ≡ false = sym up ∙ not' e in cc

    pub some_before : 0 < n → (q : IpPrefix) → ((d : RouteKey × V) → q ≡ (get_or c (n - 1) d).0.prefix) → IsLastUpTo (in_leaves cs) p (Some q)
    some_before some q has =
        let count = length (in_leaves (take i cs)) + n in
        let at : (d : RouteKey × V) → get_or (in_leaves cs) (count - 1) d ≡ get_or c (n - 1) d = λ d.
        let right : get_or (in_leaves (take i cs) ++ (c ++ in_leaves (drop (suc i) cs))) (count - 1) d ≡ get_or (c ++ in_leaves (drop (suc i) cs)) (count - 1 - length (in_leaves (take i cs))) d = get_or-append_right (in_leaves (take i cs)) (c ++ in_leaves (drop (suc i) cs)) (length (in_leaves (take i cs))) (count - 1) d refl (omega (arith, some)) in
        let same : count - 1 - length (in_leaves (take i cs)) ≡ n - 1 = omega (arith, some) in
        ap (λ (es : List (RouteKey × V)). get_or es (count - 1) d) whole ∙ right ∙ ap (λ (m : ℕ). get_or (c ++ in_leaves (drop (suc i) cs)) m d) same ∙ get_or_append_left c (in_leaves (drop (suc i) cs)) d (n - 1) (omega (arith, some, inside)) in
        record { count = count; inside = within; end = point; before = held c refl at }
      where
        held : (es : List (RouteKey × V)) → es ≡ c → ((d : RouteKey × V) → get_or (in_leaves cs) (length (in_leaves (take i cs)) + n - 1) d ≡ get_or c (n - 1) d) → IsBefore (in_leaves cs) (length (in_leaves (take i cs)) + n) (Some q)
        held [] same at = absurd (omega (arith, ap length same, inside, some))
        held (e ∷ es) same at =
            let x : RouteKey × V = get_or c (n - 1) e in
            let lt : n - 1 < length c = omega (arith, inside, some) in
            (omega (arith, some), (x, sym (at x ∙ get_or_default c (n - 1) x e lt), sym (has e)))

  pub last_here : (es : List (RouteKey × V)) (p : IpPrefix) (n : ℕ) (q : IpPrefix) → 0 < n → n ≤ length es → IsEnd p es n → ((d : RouteKey × V) → q ≡ (get_or es (n - 1) d).0.prefix) → IsLastUpTo es p (Some q)
  last_here [] p n q some inside end has = absurd (omega (arith, some, inside))
  last_here (e ∷ es) p n q some inside end has =
      let lt : n - 1 < length (e ∷ es) = omega (arith, some, inside) in
      let x : RouteKey × V = get_or (e ∷ es) (n - 1) e in
      record { count = n; inside = inside; end = end; before = (some, (x, get_or_default (e ∷ es) (n - 1) e x lt, sym (has e))) }

  -- the last prefix up to one, by the node that has it
  pub last_in : (ks : List RouteKey) (cs : List (List (RouteKey × V))) (p : IpPrefix) (i : ℕ) (c : List (RouteKey × V)) (r : Option IpPrefix) → AreNodes ks cs → IsIndexOfPrefix cs p i → c ≡ get_or cs i c → IsLastUpTo c p r → IsLastUpTo (in_leaves cs) p r
  last_in ks cs p i c None branches is read last = none_before ks cs p i last.count c branches is read last.inside last.end last.before
  last_in ks cs p i c (Some q) branches is read last =
      let b = last.before in
      let lt : last.count - 1 < length c = omega (arith, last.inside, b.0) in
      some_before ks cs p i last.count c branches is read last.inside last.end b.0 q (λ d. sym b.1.2 ∙ ap (λ (x : RouteKey × V). x.0.prefix) (b.1.1 ∙ get_or_default c (last.count - 1) b.1.0 d lt))

  paths_none : (p : IpPrefix) (es : List (RouteKey × V)) → EachKey (λ k. prefix_eq p k.prefix ≡ false) es → paths_of p es ≡ []
  paths_none p [] h = refl
  paths_none p (e ∷ es) h = ap (λ b. map (λ (x : RouteKey × V). (x.0.id, x.1)) (cond b (e ∷ filter (λ x. prefix_eq p x.0.prefix) es) (filter (λ x. prefix_eq p x.0.prefix) es))) h.0 ∙ paths_none p es h.1

  pub paths_below : (p : IpPrefix) (es : List (RouteKey × V)) → EachBelow (record { prefix = p; id = 0 }) es → paths_of p es ≡ []
  paths_below p es h = paths_none p es (each_weaker (λ k. key_cmp k (record { prefix = p; id = 0 }) ≡ Less) (λ k. prefix_eq p k.prefix ≡ false) es (λ k less. other_of_less k.prefix p (lesser_prefix k p less)) h)

  pub paths_until : (p : IpPrefix) (ks : List RouteKey) (cs : List (List (RouteKey × V))) (n : ℕ) → AreNodes ks cs → (n < length ks → (d : RouteKey) → prefix_cmp (get_or ks n d).prefix p ≡ Greater) → paths_of p (in_leaves (take n cs)) ≡ paths_of p (in_leaves cs)
  paths_until p ks cs n branches h =
      let up : (j k : RouteKey) → key_cmp j k ≡ Less → prefix_cmp j.prefix p ≡ Greater → prefix_cmp k.prefix p ≡ Greater = λ j k less g. greatest (prefix_cmp k.prefix p) (subst (λ r. ordering_index r ≤ ordering_index (prefix_cmp k.prefix p)) g (prefix_rises j k p less)) in
      let above : EachKey (λ k. prefix_cmp k.prefix p ≡ Greater) (in_leaves (drop n cs)) = keys_from ks cs branches (λ k. Unit {0}) (λ k. Unit {0}) (λ k. prefix_cmp k.prefix p ≡ Greater) (λ k j less a. tt) up n h in
      let none : paths_of p (in_leaves (drop n cs)) ≡ [] = paths_none p (in_leaves (drop n cs)) (each_weaker (λ k. prefix_cmp k.prefix p ≡ Greater) (λ k. prefix_eq p k.prefix ≡ false) (in_leaves (drop n cs)) (λ k g. other_of_greater k.prefix p g) above) in
      sym (append-nil (paths_of p (in_leaves (take n cs)))) ∙ ap (λ t. paths_of p (in_leaves (take n cs)) ++ t) (sym none) ∙ sym (paths_of-append p (in_leaves (take n cs)) (in_leaves (drop n cs))) ∙ ap (paths_of p) (sym (leaves_append (take n cs) (drop n cs)) ∙ ap in_leaves (take-append-drop n cs))

  pub paths_on : (p : IpPrefix) (cs : List (List (RouteKey × V))) (i : ℕ) (c : List (RouteKey × V)) → i < length cs → c ≡ get_or cs i c → paths_of p (in_leaves (take (i + 1) cs)) ≡ paths_of p (in_leaves (take i cs)) ++ paths_of p c
  paths_on p cs i c lt read = ap (paths_of p) (leaves_more cs i c lt read) ∙ paths_of-append p (in_leaves (take i cs)) c

-- what the last prefix up to a network says of the match
module _ {V : Type 0} {w : ℕ} (es : List (RouteKey × V)) (addr limit : ℕ) (is : IsLimit w es addr limit) where
  pub none_last : IsLastUpTo es (network addr limit) None → HasNoMatch (finite.from_entries {R = key_cmp} es) addr
  none_last last = none_found es addr limit last.count is last.inside last.end last.before

  module _ (q : IpPrefix) (last : IsLastUpTo es (network addr limit) (Some q)) where
    pub found_last : contains q addr ≡ true → IsLongestMatch (finite.from_entries {R = key_cmp} es) addr q
    found_last in_q = let b = last.before in subst (IsLongestMatch (finite.from_entries {R = key_cmp} es) addr) b.1.2 (match_found es addr limit last.count is last.inside last.end b.1.0 b.0 b.1.1 (subst (λ (p : IpPrefix). contains p addr ≡ true) (sym b.1.2) in_q))

    pub falls_last : (shared : ℕ) → contains q addr ≡ false → shared ≤ q.len → leading_bits shared q.addr ≡ leading_bits shared addr → (shared < q.len → leading_bits (shared + 1) q.addr ≢ leading_bits (shared + 1) addr) → shared < limit
    falls_last shared = let b = last.before in subst (λ (p : IpPrefix). contains p addr ≡ false → shared ≤ p.len → leading_bits shared p.addr ≡ leading_bits shared addr → (shared < p.len → leading_bits (shared + 1) p.addr ≢ leading_bits (shared + 1) addr) → shared < limit) b.1.2 (falls es addr limit last.count is last.inside last.end b.1.0 b.0 b.1.1 shared)

    pub miss_last : (shared : ℕ) → contains q addr ≡ false → shared ≤ q.len → leading_bits shared q.addr ≡ leading_bits shared addr → (shared < q.len → leading_bits (shared + 1) q.addr ≢ leading_bits (shared + 1) addr) → IsLimit w es addr shared
    miss_last shared = let b = last.before in subst (λ (p : IpPrefix). contains p addr ≡ false → shared ≤ p.len → leading_bits shared p.addr ≡ leading_bits shared addr → (shared < p.len → leading_bits (shared + 1) p.addr ≢ leading_bits (shared + 1) addr) → IsLimit w es addr shared) b.1.2 (IsLimit-miss es addr limit last.count is last.inside last.end b.1.0 b.0 b.1.1 shared)
