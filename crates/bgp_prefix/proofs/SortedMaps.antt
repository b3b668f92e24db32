-- Lists of entries in the order of their keys, as finite maps.
use Rattle.std.proofs.Common.{Option, Some, ◌≡◌, ◌≢◌, ℕ, ◌+◌, ◌-◌, ◌<◌, ◌≤◌, Bool, true, false, cond, ◌||◌, List, [], ◌∷◌, ◌++◌, length, get_or, map, take, drop, T, refl, sym, ap, subst, ◌∙◌, arith, inl, inr, get_or-take, get_or-drop, length-drop, length-take}
use Rattle.std.proofs.lemmas.Bool.{cases_order, cases_lt}
use Rattle.std.proofs.lemmas.List.{take-append-drop, append-nil, get_or_default}
use Rattle.std.proofs.lemmas.List.Elements.{All-head, All-tail, All-cons, filter-append}
use Rattle.std.specs.List.{All, filter, list_any}
use Rattle.std.specs.List.Sorted.{IsPartitionPoint}
use Rattle.std.specs.Option.{is_some}
use Rattle.std.specs.Ordering.{nat_cmp, is_lt, is_eq, eq_by_cmp, ordering_then, ordering_index}
use Rattle.std.specs.declared.cmp.Ordering.{Ordering}
use Rattle.std.specs.declared.cmp.Ordering.TheVariants.{Less, Equal, Greater}
use Rattle.std.specs.Cmp.{ranked, tied_itself, eq_by_cmp_equiv}
use Rattle.std.specs.FinMap as finite
use Rattle.std.specs.FinMap.{find, put, get-entries, get-from_entries, len-entries, is_sorted}
use Rattle.std.specs.FinMap.Entries.{same_entries, by_order}
use Rattle.bgp_prefix.specs.Prefixes.{IpPrefix, prefix_cmp, prefix_eq}
use Rattle.bgp_prefix.specs.Keys.{key_cmp, RouteKey}
use Rattle.bgp_prefix.specs.Searches.{IsAt, IsGap}
use Rattle.bgp_prefix.specs.Maps.{paths_of}
use Rattle.bgp_prefix.proofs.KeyLaws.{key_cmp_total, key_cmp_exact, prefix_cmp_total, prefix_cmp_exact, prefix_tied, tied_same, same_prefix}
use Rattle.bgp_prefix.proofs.SearchLaws.{sorted_at, index_le, turn}

module _ {V : Type 0} (es : List (RouteKey × V)) (sorted : T (is_sorted key_cmp es)) where
  -- a list in the order of its keys is the entries of its map
  pub entries_of_sorted : finite.entries (finite.from_entries {R = key_cmp} es) ≡ es
  entries_of_sorted = same_entries key_cmp key_cmp_total key_cmp_exact _ es (finite.entries_sorted _) sorted (λ q. sym (get-entries _ q) ∙ get-from_entries key_cmp_total es q)

  pub len_of_sorted : length es ≡ finite.len (finite.from_entries {R = key_cmp} es)
  len_of_sorted = ap length (sym entries_of_sorted) ∙ sym (len-entries (finite.from_entries {R = key_cmp} es))

  pub paths_of_sorted : (p : IpPrefix) → paths_of p es ≡ paths_of p (finite.entries (finite.from_entries {R = key_cmp} es))
  paths_of_sorted p = ap (paths_of p) (sym entries_of_sorted)

-- what holds of each key of a list holds of one that is found in it
pub of_found : {V : Type 0} (P : RouteKey → Type 0) (es : List (RouteKey × V)) (k : RouteKey) → All (λ e. P e.0) es → is_some (find key_cmp k es) ≡ true → P k
of_found P [] k all found = cc
of_found {V} P (e ∷ es) k all found =
    elim (eq_by_cmp key_cmp k e.0) as (λ b. eq_by_cmp key_cmp k e.0 ≡ b → is_some (cond b (Some e.1) (find key_cmp k es)) ≡ true → P k) [
      | true ↦ λ t h. subst P (sym (tied_same k e.0 t)) (All-head (λ (d : RouteKey × V). P d.0) e es all)
      | false ↦ λ t h. of_found P es k (All-tail (λ (d : RouteKey × V). P d.0) e es all) h
    ] refl found

-- what holds of each key and of one more holds of each after the one is put
pub of_put : {V : Type 0} (P : RouteKey → Type 0) (k : RouteKey) (v : V) (es : List (RouteKey × V)) → P k → All (λ e. P e.0) es → All (λ e. P e.0) (put key_cmp k v es)
of_put {V} P k v [] one all = All-cons (λ (d : RouteKey × V). P d.0) (k, v) [] one all
of_put {V} P k v (e ∷ es) one all =
    let Q = λ (d : RouteKey × V). P d.0 in
    let rest = All-tail Q e es all in
    elim (key_cmp k e.0) as (λ r. All Q (by_order r ((k, v) ∷ e ∷ es) ((e.0, v) ∷ es) (e ∷ put key_cmp k v es))) [
      | Less ↦ All-cons Q (k, v) (e ∷ es) one all
      | Equal ↦ All-cons Q (e.0, v) es (All-head Q e es all) rest
      | Greater ↦ All-cons Q e (put key_cmp k v es) (All-head Q e es all) (of_put P k v es one rest)
    ]

pub found_here : {V : Type 0} (b : Bool) (v : V) (o : Option V) → is_some o ≡ true → is_some (cond b (Some v) o) ≡ true
found_here true v o h = refl
found_here false v o h = h

-- a prefix that an entry has is that of a key that is found
pub found_of_any : {V : Type 0} (p : IpPrefix) (es : List (RouteKey × V)) → list_any (λ e. prefix_eq p e.0.prefix) es ≡ true → (id : ℕ) × (is_some (find key_cmp (record { prefix = p; id = id }) es) ≡ true)
found_of_any p [] any = cc
found_of_any {V} p (e ∷ es) any =
    elim (prefix_eq p e.0.prefix) as (λ b. prefix_eq p e.0.prefix ≡ b → (b || list_any (λ (d : RouteKey × V). prefix_eq p d.0.prefix) es) ≡ true → (id : ℕ) × (is_some (find key_cmp (record { prefix = p; id = id }) (e ∷ es)) ≡ true)) [
      | true ↦ λ t h.
          let same : ◌≡◌ {A = RouteKey} (record { prefix = p; id = e.0.id }) e.0 = ap (λ (q : IpPrefix). record { prefix = q; id = e.0.id }) (same_prefix p e.0.prefix t) in
          (e.0.id, ap (λ (k : RouteKey). is_some (find key_cmp k (e ∷ es))) same ∙ ap (λ b. is_some (cond b (Some e.1) (find key_cmp e.0 es))) (ap is_eq (tied_itself key_cmp_total e.0)))
      | false ↦ λ t h. let rest = found_of_any p es h in (rest.0, found_here _ _ _ rest.1)
    ] refl any

pub prefix_rises : (a b : RouteKey) (p : IpPrefix) → key_cmp a b ≡ Less → ordering_index (prefix_cmp a.prefix p) ≤ ordering_index (prefix_cmp b.prefix p)
prefix_rises a b p less =
    elim (prefix_cmp a.prefix b.prefix) as (λ r. prefix_cmp a.prefix b.prefix ≡ r → ordering_then r (nat_cmp a.id b.id) ≡ Less → ordering_index (prefix_cmp a.prefix p) ≤ ordering_index (prefix_cmp b.prefix p)) [
      | Less ↦ λ e h. index_le prefix_cmp prefix_cmp_total a.prefix b.prefix p e
      | Equal ↦ λ e h. subst (λ (q : IpPrefix). ordering_index (prefix_cmp a.prefix p) ≤ ordering_index (prefix_cmp q p)) (prefix_cmp_exact a.prefix b.prefix e) (omega arith)
      | Greater ↦ λ e h. cc
    ] refl less

-- by the prefix, a later key of a list in order is no less
pub prefixes_rise : {V : Type 0} (es : List (RouteKey × V)) (p : IpPrefix) (i j : ℕ) (d : RouteKey × V) → T (is_sorted key_cmp es) → i ≤ j → j < length es → ordering_index (prefix_cmp (get_or es i d).0.prefix p) ≤ ordering_index (prefix_cmp (get_or es j d).0.prefix p)
prefixes_rise es p i j d sorted le in_range = elim (cases_order i j) [
  | inl same ↦ rw same (omega arith)
  | inr (inl lt) ↦ prefix_rises (get_or es i d).0 (get_or es j d).0 p (sorted_at key_cmp key_cmp_total es i j d sorted lt in_range)
  | inr (inr gt) ↦ absurd (omega (arith, le, gt))
]

-- a prefix that is less, or greater, is another
pub other_of_less : (q p : IpPrefix) → prefix_cmp q p ≡ Less → prefix_eq p q ≡ false
other_of_less q p e = sym (prefix_tied p q) ∙ ap is_eq (turn prefix_cmp prefix_cmp_total q p Less e)

pub other_of_greater : (q p : IpPrefix) → prefix_cmp q p ≡ Greater → prefix_eq p q ≡ false
other_of_greater q p e = sym (prefix_tied p q) ∙ ap is_eq (turn prefix_cmp prefix_cmp_total q p Greater e)

greater_of : (r : Ordering) → r ≢ Less → is_eq r ≡ false → r ≡ Greater
greater_of Less n e = absurd (n refl)
greater_of Equal n e = cc
greater_of Greater n e = refl

pub greatest : (r : Ordering) → 2 ≤ ordering_index r → r ≡ Greater
greatest Less h = absurd (omega (arith, h))
greatest Equal h = absurd (omega (arith, h))
greatest Greater h = refl

-- the first position from which no prefix is less
abbrev pub IsStart : {V : Type 0} → IpPrefix → List (RouteKey × V) → ℕ → Type 0
IsStart p es i = IsPartitionPoint (λ e. prefix_cmp e.0.prefix p ≡ Less) (λ e. prefix_cmp e.0.prefix p ≢ Less) es i

filter_none : {X : Type 0} (test : X → Bool) (xs : List X) → All (λ x. test x ≡ false) xs → filter test xs ≡ []
filter_none test [] none = refl
filter_none test (x ∷ xs) none =
    ap (λ b. cond b (x ∷ filter test xs) (filter test xs)) (All-head (λ y. test y ≡ false) x xs none)
    ∙ filter_none test xs (All-tail (λ y. test y ≡ false) x xs none)

pub less_of : (r : Ordering) → is_lt r ≡ true → r ≡ Less
less_of Less e = refl
less_of Equal e = cc
less_of Greater e = cc

-- a key above the last of a list in order would go at its end
pub gap_at_end : {V : Type 0} (es : List (RouteKey × V)) (k : RouteKey) (last : RouteKey × V) → T (is_sorted key_cmp es) → 0 < length es → last ≡ get_or es (length es - 1) last → is_lt (key_cmp last.0 k) ≡ true → IsGap key_cmp es k (length es)
gap_at_end {V} es k last sorted some at_end below = record {
  in_range = omega arith;
  before = λ j d lt. less j d lt;
  after = λ j d le lt. absurd (omega (arith, le, lt));
}
  where
    end_less : (d : RouteKey × V) → key_cmp (get_or es (length es - 1) d).0 k ≡ Less
    end_less d = ap (λ (e : RouteKey × V). key_cmp e.0 k) (get_or_default es (length es - 1) d last (omega (arith, some)) ∙ sym at_end) ∙ less_of _ below

    less : (j : ℕ) (d : RouteKey × V) → j < length es → key_cmp (get_or es j d).0 k ≡ Less
    less j d lt = elim (cases_lt j (length es - 1)) [
      | inl before ↦ key_cmp_total.trans (get_or es j d).0 (get_or es (length es - 1) d).0 k (sorted_at key_cmp key_cmp_total es j (length es - 1) d sorted before (omega (arith, some))) (end_less d)
      | inr le ↦ subst (λ (i : ℕ). key_cmp (get_or es i d).0 k ≡ Less) (omega (arith, le, lt)) (end_less d)
    ]

-- where a key stands, or would go, in a list in order, by the keys before a position and the one there
pub scanned_at : {V : Type 0} (es : List (RouteKey × V)) (k : RouteKey) (i : ℕ) (e : RouteKey × V) → i < length es → e ≡ get_or es i e → key_cmp e.0 k ≡ Equal → IsAt key_cmp es k i
scanned_at {V} es k i e in_range read equal = record { in_range = in_range; has_key = λ d. ap (λ (x : RouteKey × V). key_cmp x.0 k) (get_or_default es i d e in_range ∙ sym read) ∙ equal }

pub scanned_past : {V : Type 0} (es : List (RouteKey × V)) (k : RouteKey) (i : ℕ) (e : RouteKey × V) → T (is_sorted key_cmp es) → i < length es → ((j : ℕ) (d : RouteKey × V) → j < i → key_cmp (get_or es j d).0 k ≡ Less) → e ≡ get_or es i e → key_cmp e.0 k ≡ Greater → IsGap key_cmp es k i
scanned_past {V} es k i e sorted in_range below read greater = record {
  in_range = omega (arith, in_range);
  before = below;
  after = λ j d le lt.
      let here : key_cmp (get_or es i d).0 k ≡ Greater = ap (λ (x : RouteKey × V). key_cmp x.0 k) (get_or_default es i d e in_range ∙ sym read) ∙ greater in
      elim (cases_order i j) [
        | inl same ↦ subst (λ (n : ℕ). key_cmp (get_or es n d).0 k ≡ Greater) same here
        | inr (inl later) ↦ greatest _ (subst (λ r. ordering_index r ≤ ordering_index (key_cmp (get_or es j d).0 k)) here (index_le key_cmp key_cmp_total (get_or es i d).0 (get_or es j d).0 k (sorted_at key_cmp key_cmp_total es i j d sorted later lt)))
        | inr (inr earlier) ↦ absurd (omega (arith, le, earlier))
      ];
}

-- one key more below
pub scanned_more : {V : Type 0} (es : List (RouteKey × V)) (k : RouteKey) (i : ℕ) (e : RouteKey × V) → i < length es → ((j : ℕ) (d : RouteKey × V) → j < i → key_cmp (get_or es j d).0 k ≡ Less) → e ≡ get_or es i e → key_cmp e.0 k ≡ Less → (j : ℕ) (d : RouteKey × V) → j < i + 1 → key_cmp (get_or es j d).0 k ≡ Less
scanned_more {V} es k i e in_range below read less j d lt = elim (cases_lt j i) [
  | inl before ↦ below j d before
  | inr le ↦
      let same : i ≡ j = omega (arith, le, lt) in
      subst (λ (n : ℕ). key_cmp (get_or es n d).0 k ≡ Less) same (ap (λ (x : RouteKey × V). key_cmp x.0 k) (get_or_default es i d e in_range ∙ sym read) ∙ less)
]

-- the first key that a prefix can have
abbrev pub first_key : IpPrefix → RouteKey
first_key p = record { prefix = p; id = 0 }

none_below : (n : ℕ) → nat_cmp n 0 ≢ Less
none_below n e = omega (arith, ranked n 0 Less (sym e))

pub lesser_prefix : (k : RouteKey) (p : IpPrefix) → key_cmp k (first_key p) ≡ Less → prefix_cmp k.prefix p ≡ Less
lesser_prefix k p less =
    elim (prefix_cmp k.prefix p) as (λ r. ordering_then r (nat_cmp k.id 0) ≡ Less → r ≡ Less) [
      | Less ↦ λ h. refl
      | Equal ↦ λ h. absurd (none_below k.id h)
      | Greater ↦ λ h. h
    ] less

no_lesser_prefix : (k : RouteKey) (p : IpPrefix) → key_cmp k (first_key p) ≢ Less → prefix_cmp k.prefix p ≢ Less
no_lesser_prefix k p h less = h (ap (λ r. ordering_then r (nat_cmp k.id 0)) less)

not_less : (r : Ordering) → 1 ≤ ordering_index r → r ≢ Less
not_less Less h e = absurd (omega (arith, h))
not_less Equal h e = cc
not_less Greater h e = cc

module _ {V : Type 0} (p : IpPrefix) (es : List (RouteKey × V)) (i : ℕ) where
  -- a search for that key finds the start
  pub start_of_gap : IsGap key_cmp es (first_key p) i → IsStart p es i
  start_of_gap gap = (
    λ k d low high. lesser_prefix (get_or es k d).0 p (gap.before k d high),
    λ k d low high. no_lesser_prefix (get_or es k d).0 p (not_less _ (subst (λ r. 1 ≤ ordering_index r) (sym (gap.after k d low high)) (omega arith))),
  )

  pub start_of_found : T (is_sorted key_cmp es) → IsAt key_cmp es (first_key p) i → IsStart p es i
  start_of_found sorted at =
      (λ k d low high. lesser_prefix (get_or es k d).0 p (less_before k d high), λ k d low high. no_lesser_prefix (get_or es k d).0 p (not_less _ (no_less_after k d low high)))
    where
      less_before : (k : ℕ) (d : RouteKey × V) → k < i → key_cmp (get_or es k d).0 (first_key p) ≡ Less
      less_before k d lt =
          let here = (get_or es i d).0 in
          turn key_cmp key_cmp_total (first_key p) (get_or es k d).0 Greater (sym (key_cmp_total.congr here (first_key p) (get_or es k d).0 (at.has_key d)) ∙ turn key_cmp key_cmp_total (get_or es k d).0 here Less (sorted_at key_cmp key_cmp_total es k i d sorted lt at.in_range))

      no_less_after : (k : ℕ) (d : RouteKey × V) → i ≤ k → k < length es → 1 ≤ ordering_index (key_cmp (get_or es k d).0 (first_key p))
      no_less_after k d le lt =
          let here : ordering_index (key_cmp (get_or es i d).0 (first_key p)) ≡ 1 = ap ordering_index (at.has_key d) in
          elim (cases_order i k) [
            | inl same ↦ subst (λ (j : ℕ). 1 ≤ ordering_index (key_cmp (get_or es j d).0 (first_key p))) same (omega arith)
            | inr (inl below) ↦ subst (λ (n : ℕ). n ≤ ordering_index (key_cmp (get_or es k d).0 (first_key p))) here (index_le key_cmp key_cmp_total (get_or es i d).0 (get_or es k d).0 (first_key p) (sorted_at key_cmp key_cmp_total es i k d sorted below lt))
            | inr (inr above) ↦ absurd (omega (arith, le, above))
          ]

module _ {V : Type 0} (p : IpPrefix) (es : List (RouteKey × V)) (i : ℕ) (sorted : T (is_sorted key_cmp es)) (start : IsStart p es i) where
  abbrev has : RouteKey × V → Bool
  has e = prefix_eq p e.0.prefix

  -- before the start no entry has the prefix
  none_before : (k : ℕ) (d : RouteKey × V) → k < i → has (get_or es k d) ≡ false
  none_before k d lt = other_of_less (get_or es k d).0.prefix p (start.0 k d (omega arith) lt)

  -- nor after an entry from the start on that hasn't it
  pub none_after : (j k : ℕ) (d : RouteKey × V) → i ≤ j → has (get_or es j d) ≡ false → j ≤ k → k < length es → has (get_or es k d) ≡ false
  none_after j k d from other le in_range =
      let q = (get_or es j d).0.prefix in
      let untied : is_eq (prefix_cmp q p) ≡ false = (eq_by_cmp_equiv prefix_cmp_total).symm q p ∙ prefix_tied p q ∙ other in
      let greater : prefix_cmp q p ≡ Greater = greater_of _ (start.1 j d from (omega arith)) untied in
      let above : 2 ≤ ordering_index (prefix_cmp (get_or es k d).0.prefix p) = subst (λ r. ordering_index r ≤ ordering_index (prefix_cmp (get_or es k d).0.prefix p)) greater (prefixes_rise es p j k d sorted le in_range) in
      other_of_greater (get_or es k d).0.prefix p (greatest _ above)

  -- the entries with the prefix stand together
  pub run_of : (n : ℕ) → All (λ e. prefix_eq p e.0.prefix ≡ false) (drop n (drop i es)) → paths_of p (take n (drop i es)) ≡ paths_of p es
  run_of n rest =
      let run = take n (drop i es) in
      let whole : filter has es ≡ filter has run =
      ap (filter has) (sym (take-append-drop i es))
      ∙ filter-append has (take i es) (drop i es)
      ∙ ap (λ (xs : List (RouteKey × V)). xs ++ filter has (drop i es)) (filter_none has (take i es) early)
      ∙ ap (filter has) (sym (take-append-drop n (drop i es)))
      ∙ filter-append has run (drop n (drop i es))
      ∙ ap (λ (xs : List (RouteKey × V)). filter has run ++ xs) (filter_none has (drop n (drop i es)) rest)
      ∙ append-nil (filter has run) in
      ap (map (λ (e : RouteKey × V). (e.0.id, e.1))) (sym whole)
    where
      early : All (λ e. has e ≡ false) (take i es)
      early k e lt = let before : k < i = omega (arith, lt, length-take {A = RouteKey × V}) in ap has (get_or-take i es k e before) ∙ none_before k e before

  pub run_to_end : (n : ℕ) → length (drop i es) ≤ n → paths_of p (take n (drop i es)) ≡ paths_of p es
  run_to_end n past = run_of n (λ k d lt. absurd (omega (arith, lt, past, length-drop n (drop i es))))

  pub run_until : (n : ℕ) (d : RouteKey × V) → n < length (drop i es) → prefix_eq p (get_or (drop i es) n d).0.prefix ≡ false → paths_of p (take n (drop i es)) ≡ paths_of p es
  run_until n d in_range other = run_of n rest
    where
      long : n + i < length es
      long = omega (arith, in_range, length-drop i es)

      here : has (get_or es (i + n) d) ≡ false
      here = ap has (sym (get_or-drop i es n d)) ∙ other

      rest : All (λ e. prefix_eq p e.0.prefix ≡ false) (drop n (drop i es))
      rest k e lt =
          let within : i + (n + k) < length es = omega (arith, lt, length-drop n (drop i es), length-drop i es) in
          ap has (get_or-drop n (drop i es) k e ∙ get_or-drop i es (n + k) e)
          ∙ none_after (i + n) (i + (n + k)) e (omega arith) (ap has (get_or_default es (i + n) e d (omega (arith, long))) ∙ here) (omega arith) within
