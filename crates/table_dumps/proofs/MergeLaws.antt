-- The records of all prefixes have each peer's entries, in order.
use Rattle.std.proofs.Common.{◌≡◌, ◌⊎◌, inl, inr, ℕ, ◌+◌, ◌<◌, Bool, true, false, cond, not, ◌&&◌, ◌||◌, eqb, List, [], ◌∷◌, ◌++◌, length, map, Some, None, T, refl, sym, ap, subst, ◌∙◌, arith, append_assoc, append-nil}
use Rattle.std.specs.Prelude.{is_some}
use Rattle.std.specs.List.{filter, flat_map, list_any, AllByRecursion}
use Rattle.std.specs.Ordering.{eq_by_cmp, is_lt, is_eq, nat_cmp, ordering_then}
use Rattle.std.specs.declared.cmp.Ordering.{Ordering}
use Rattle.std.specs.declared.cmp.Ordering.TheVariants.{Less, Equal, Greater}
use Rattle.std.specs.FinMap.Entries.{find, is_sorted, below_all, is_sorted-where_key}
use Rattle.std.specs.Cmp.{tied_itself}
use Rattle.std.proofs.lemmas.List.{map-append}
use Rattle.std.proofs.lemmas.List.Folds.{list_any-append}
use Rattle.std.proofs.lemmas.Grind.{flat_map-append}
use Rattle.std.proofs.lemmas.List.Elements.{filter-append}
use Rattle.std.proofs.lemmas.Bool.{ne_eqb, eq-eqb}
use borrow.Author.Tests.{both_ways}
use Rattle.bgp_prefix.specs.Prefixes.{IpPrefix, prefix_cmp, prefix_eq}
use Rattle.bgp_prefix.specs.Keys.{RouteKey, key_cmp}
use Rattle.bgp_prefix.specs.Ordered.{tabulated}
use Rattle.bgp_prefix.proofs.KeyLaws.{prefix_cmp_total, prefix_cmp_exact, prefix_tied, same_prefix}
use Rattle.bgp_prefix.proofs.OrderedLaws.{is_sorted-tabulated, find-tabulated}
use Rattle.bgp_update.specs.declared.route.Route.{Route}
use Rattle.bgp_update.specs.Families.{FamilyOf}
use Rattle.mrt_writing.specs.RibRecords.{PrefixRoute}
use Rattle.table_dumps.specs.Checkpoints.{DumpedPeer, entries_in, prefixes_of, prefix_route, routes_at, PrefixPart, parts_of, all_parts, closed, split_after, fits_record, record_split, have_identifiers, Split, Splits, entries_of, entries_of_parts}
use Rattle.table_dumps.specs.Dumped.{is_entry}

abbrev Table : Type 0
Table = List (RouteKey × Route)

abbrev Prefixes : Type 0
Prefixes = List (IpPrefix × Unit {0})

first_of : (a b : Bool) → T (a && b) → T a
first_of true b h = tt
first_of false b h = h

second_of : (a b : Bool) → T (a && b) → T b
second_of true b h = h
second_of false b h = absurd h

both_of : (a b : Bool) → T a → T b → T (a && b)
both_of true b h k = k
both_of false b h k = h

less_of : (r : Ordering) → T (is_lt r) → r ≡ Less
less_of Less h = refl
less_of Equal h = absurd h
less_of Greater h = absurd h

-- ---- entries at or above a prefix

abbrev has : IpPrefix → RouteKey × Route → Bool
has q e = prefix_eq q e.0.prefix

abbrev hasnt : IpPrefix → RouteKey × Route → Bool
hasnt q e = not (prefix_eq q e.0.prefix)

abbrev AtOrAbove : IpPrefix → RouteKey × Route → Type 0
AtOrAbove q e = (prefix_eq q e.0.prefix ≡ true) ⊎ (prefix_cmp q e.0.prefix ≡ Less)

apart_of : (q p : IpPrefix) → prefix_cmp q p ≡ Less → prefix_eq q p ≡ false
apart_of q p h = sym (prefix_tied q p) ∙ ap is_eq h

-- what is above q stays above it for a later key
later_above : (q : IpPrefix) (j k : RouteKey) → prefix_cmp q j.prefix ≡ Less → T (is_lt (key_cmp j k)) → prefix_cmp q k.prefix ≡ Less
later_above q j k above h = by_order (prefix_cmp j.prefix k.prefix) refl h
  where
    by_order : (r : Ordering) → prefix_cmp j.prefix k.prefix ≡ r → T (is_lt (ordering_then r (nat_cmp j.id k.id))) → prefix_cmp q k.prefix ≡ Less
    by_order Less e t = prefix_cmp_total.trans q j.prefix k.prefix above e
    by_order Equal e t = ap (prefix_cmp q) (sym (prefix_cmp_exact j.prefix k.prefix e)) ∙ above
    by_order Greater e t = absurd t

none_later : (q : IpPrefix) (k : RouteKey) (es : Table) → prefix_cmp q k.prefix ≡ Less → T (below_all key_cmp k es) → (filter (has q) es ≡ []) × (filter (hasnt q) es ≡ es)
none_later q k [] above h = (refl, refl)
none_later q k (e ∷ es) above h =
    let now : prefix_eq q e.0.prefix ≡ false = apart_of q e.0.prefix (later_above q k e.0 above (first_of (is_lt (key_cmp k e.0)) (below_all key_cmp k es) h)) in
    let more = none_later q k es above (second_of (is_lt (key_cmp k e.0)) (below_all key_cmp k es) h) in (
      ap (λ (b : Bool). cond b (e ∷ filter (has q) es) (filter (has q) es)) now ∙ more.0,
      ap (λ (b : Bool). cond (not b) (e ∷ filter (hasnt q) es) (filter (hasnt q) es)) now ∙ ap (λ (l : Table). e ∷ l) more.1,
    )

-- where all are at or above a prefix, its own stand first
pub own_first : (q : IpPrefix) (es : Table) → T (is_sorted key_cmp es) → AllByRecursion (AtOrAbove q) es → filter (has q) es ++ filter (hasnt q) es ≡ es
own_first q [] h above = refl
own_first q (e ∷ es) h above = by_head above.0 (own_first q es (second_of (below_all key_cmp e.0 es) (is_sorted key_cmp es) h) above.1)
  where
    by_head : AtOrAbove q e → filter (has q) es ++ filter (hasnt q) es ≡ es → filter (has q) (e ∷ es) ++ filter (hasnt q) (e ∷ es) ≡ e ∷ es
    by_head (inl t) more = (λ i. cond (t i) (e ∷ filter (has q) es) (filter (has q) es) ++ cond (not (t i)) (e ∷ filter (hasnt q) es) (filter (hasnt q) es)) ∙ ap (λ (l : Table). e ∷ l) more
    by_head (inr less) more =
        let t = apart_of q e.0.prefix less in
        let none = none_later q e.0 es less (first_of (below_all key_cmp e.0 es) (is_sorted key_cmp es) h) in
        (λ i. cond (t i) (e ∷ filter (has q) es) (filter (has q) es) ++ cond (not (t i)) (e ∷ filter (hasnt q) es) (filter (hasnt q) es)) ∙ (λ i. none.0 i ++ (e ∷ none.1 i))

-- ---- all prefixes

abbrev Stands : Prefixes → RouteKey × Route → Type 0
Stands prefixes e = is_some (find prefix_cmp e.0.prefix prefixes) ≡ true

-- what stands among prefixes above q is above it
found_above : (q p : IpPrefix) (prefixes : Prefixes) → T (below_all prefix_cmp q prefixes) → is_some (find prefix_cmp p prefixes) ≡ true → prefix_cmp q p ≡ Less
found_above q p [] h e = absurd cc
found_above q p (x ∷ prefixes) h e = by_tie (eq_by_cmp prefix_cmp p x.0) refl e (λ f. found_above q p prefixes (second_of (is_lt (prefix_cmp q x.0)) (below_all prefix_cmp q prefixes) h) f)
  where
    by_tie : (b : Bool) → eq_by_cmp prefix_cmp p x.0 ≡ b → is_some (cond b (Some x.1) (find prefix_cmp p prefixes)) ≡ true → (is_some (find prefix_cmp p prefixes) ≡ true → prefix_cmp q p ≡ Less) → prefix_cmp q p ≡ Less
    by_tie true t f more = ap (prefix_cmp q) (same_prefix p x.0 (sym (prefix_tied p x.0) ∙ t)) ∙ less_of (prefix_cmp q x.0) (first_of (is_lt (prefix_cmp q x.0)) (below_all prefix_cmp q prefixes) h)
    by_tie false t f more = more f

itself : (p : IpPrefix) → eq_by_cmp prefix_cmp p p ≡ true
itself p = ap is_eq (tied_itself prefix_cmp_total p)

stands_above : (x : IpPrefix × Unit {0}) (prefixes : Prefixes) (e : RouteKey × Route) → T (below_all prefix_cmp x.0 prefixes) → Stands (x ∷ prefixes) e → AtOrAbove x.0 e
stands_above x prefixes e h s = by_tie (eq_by_cmp prefix_cmp e.0.prefix x.0) refl s
  where
    by_tie : (b : Bool) → eq_by_cmp prefix_cmp e.0.prefix x.0 ≡ b → is_some (cond b (Some x.1) (find prefix_cmp e.0.prefix prefixes)) ≡ true → AtOrAbove x.0 e
    by_tie true t f = inl (sym (prefix_tied x.0 e.0.prefix) ∙ ap (eq_by_cmp prefix_cmp x.0) (same_prefix e.0.prefix x.0 (sym (prefix_tied e.0.prefix x.0) ∙ t)) ∙ itself x.0)
    by_tie false t f = inr (found_above x.0 e.0.prefix prefixes h f)

all_above : (x : IpPrefix × Unit {0}) (prefixes : Prefixes) (es : Table) → T (below_all prefix_cmp x.0 prefixes) → AllByRecursion (Stands (x ∷ prefixes)) es → AllByRecursion (AtOrAbove x.0) es
all_above x prefixes [] h s = tt
all_above x prefixes (e ∷ es) h s = (stands_above x prefixes e h s.0, all_above x prefixes es h s.1)

still : (x : IpPrefix × Unit {0}) (prefixes : Prefixes) (e : RouteKey × Route) → prefix_eq x.0 e.0.prefix ≡ false → Stands (x ∷ prefixes) e → Stands prefixes e
still x prefixes e other s = by_tie (eq_by_cmp prefix_cmp e.0.prefix x.0) refl s
  where
    by_tie : (b : Bool) → eq_by_cmp prefix_cmp e.0.prefix x.0 ≡ b → is_some (cond b (Some x.1) (find prefix_cmp e.0.prefix prefixes)) ≡ true → Stands prefixes e
    by_tie false t f = f
    by_tie true t f =
        let same : e.0.prefix ≡ x.0 = same_prefix e.0.prefix x.0 (sym (prefix_tied e.0.prefix x.0) ∙ t) in
        let own : prefix_eq x.0 e.0.prefix ≡ true = sym (prefix_tied x.0 e.0.prefix) ∙ ap (eq_by_cmp prefix_cmp x.0) same ∙ itself x.0 in
        absurd (both_ways (prefix_eq x.0 e.0.prefix) other own)

-- those that aren't of the first prefix stand among the others
others_stand : (x : IpPrefix × Unit {0}) (prefixes : Prefixes) (es : Table) → AllByRecursion (Stands (x ∷ prefixes)) es → AllByRecursion (Stands prefixes) (filter (hasnt x.0) es)
others_stand x prefixes [] s = tt
others_stand x prefixes (e ∷ es) s = by_head (prefix_eq x.0 e.0.prefix) refl (others_stand x prefixes es s.1)
  where
    by_head : (b : Bool) → prefix_eq x.0 e.0.prefix ≡ b → AllByRecursion (Stands prefixes) (filter (hasnt x.0) es) → AllByRecursion (Stands prefixes) (cond (not b) (e ∷ filter (hasnt x.0) es) (filter (hasnt x.0) es))
    by_head true t more = more
    by_head false t more = (still x prefixes e t s.0, more)

-- entries of a later prefix are the same without those of the first
later_same : (q y : IpPrefix) (es : Table) → prefix_cmp q y ≡ Less → filter (has y) es ≡ filter (has y) (filter (hasnt q) es)
later_same q y [] above = refl
later_same q y (e ∷ es) above = by_head (prefix_eq q e.0.prefix) refl (later_same q y es above)
  where
    apart : prefix_eq q e.0.prefix ≡ true → prefix_eq y e.0.prefix ≡ false
    apart t = by_test (prefix_eq y e.0.prefix) refl
      where
        by_test : (b : Bool) → prefix_eq y e.0.prefix ≡ b → b ≡ false
        by_test false u = refl
        by_test true u = absurd (both_ways (prefix_eq q y) (apart_of q y above) (ap (prefix_eq q) (same_prefix y e.0.prefix u) ∙ t))

    by_head : (b : Bool) → prefix_eq q e.0.prefix ≡ b → filter (has y) es ≡ filter (has y) (filter (hasnt q) es)
        → filter (has y) (e ∷ es) ≡ filter (has y) (cond (not b) (e ∷ filter (hasnt q) es) (filter (hasnt q) es))
    by_head true t more = ap (λ (b : Bool). cond b (e ∷ filter (has y) es) (filter (has y) es)) (apart t) ∙ more
    by_head false t more = ap (λ (l : Table). cond (prefix_eq y e.0.prefix) (e ∷ l) l) more

all_same : (q : IpPrefix) (prefixes : Prefixes) (es : Table) → T (below_all prefix_cmp q prefixes)
    → flat_map (λ (y : IpPrefix × Unit {0}). filter (has y.0) es) prefixes ≡ flat_map (λ (y : IpPrefix × Unit {0}). filter (has y.0) (filter (hasnt q) es)) prefixes
all_same q [] es h = refl
all_same q (y ∷ prefixes) es h =
    λ i. later_same q y.0 es (less_of (prefix_cmp q y.0) (first_of (is_lt (prefix_cmp q y.0)) (below_all prefix_cmp q prefixes) h)) i ++ all_same q prefixes es (second_of (is_lt (prefix_cmp q y.0)) (below_all prefix_cmp q prefixes) h) i

none_stand : (es : Table) → AllByRecursion (Stands []) es → [] ≡ es
none_stand [] s = refl
none_stand (e ∷ es) s = absurd cc

-- by prefix and back
merged_back : (prefixes : Prefixes) (es : Table) → T (is_sorted prefix_cmp prefixes) → T (is_sorted key_cmp es) → AllByRecursion (Stands prefixes) es → flat_map (λ (y : IpPrefix × Unit {0}). filter (has y.0) es) prefixes ≡ es
merged_back [] es p h s = none_stand es s
merged_back (x ∷ prefixes) es p h s =
    let below = first_of (below_all prefix_cmp x.0 prefixes) (is_sorted prefix_cmp prefixes) p in
    ap (λ (l : Table). filter (has x.0) es ++ l)
    (all_same x.0 prefixes es below
    ∙ merged_back prefixes (filter (hasnt x.0) es) (second_of (below_all prefix_cmp x.0 prefixes) (is_sorted prefix_cmp prefixes) p) (is_sorted-where_key key_cmp (λ (k : RouteKey). not (prefix_eq x.0 k.prefix)) es h) (others_stand x prefixes es s))
    ∙ own_first x.0 es h (all_above x prefixes es below s)

-- ---- the prefixes in order

abbrev ordered : List IpPrefix → Prefixes
ordered ps = tabulated prefix_cmp (λ _. Some tt) ps

listed_stand : (q : IpPrefix) (ps : List IpPrefix) → list_any (eq_by_cmp prefix_cmp q) ps ≡ true → is_some (find prefix_cmp q (ordered ps)) ≡ true
listed_stand q ps h =
    ap is_some (find-tabulated prefix_cmp_total (λ (_ : IpPrefix). Some tt) (λ a b e. refl) q ps ∙ ap (λ (b : Bool). cond b (Some tt) None) h)

mapped : {A : Type 0} (f : IpPrefix → List A) (xs : Prefixes) → flat_map f (map (λ (x : IpPrefix × Unit {0}). x.0) xs) ≡ flat_map (λ (x : IpPrefix × Unit {0}). f x.0) xs
mapped f [] = refl
mapped f (x ∷ xs) = ap (λ l. f x.0 ++ l) (mapped f xs)

abbrev prefixes_in : Table → List IpPrefix
prefixes_in es = map (λ (e : RouteKey × Route). e.0.prefix) es

or_right : (a b : Bool) → b ≡ true → (a || b) ≡ true
or_right true b h = refl
or_right false b h = h

or_left : (a b : Bool) → a ≡ true → (a || b) ≡ true
or_left true b h = refl
or_left false b h = absurd cc

each_listed : (before : List IpPrefix) (es : Table) (after : List IpPrefix) → AllByRecursion (λ (e : RouteKey × Route). list_any (eq_by_cmp prefix_cmp e.0.prefix) (before ++ (prefixes_in es ++ after)) ≡ true) es
each_listed before [] after = tt
each_listed before (e ∷ es) after = (
  list_any-append (eq_by_cmp prefix_cmp e.0.prefix) before (e.0.prefix ∷ (prefixes_in es ++ after)) ∙ or_right (list_any (eq_by_cmp prefix_cmp e.0.prefix) before) _ (or_left (eq_by_cmp prefix_cmp e.0.prefix e.0.prefix) _ (itself e.0.prefix)),
  subst (λ (ps : List IpPrefix). AllByRecursion (λ (x : RouteKey × Route). list_any (eq_by_cmp prefix_cmp x.0.prefix) ps ≡ true) es) (append_assoc before (e.0.prefix ∷ []) (prefixes_in es ++ after)) (each_listed (before ++ e.0.prefix ∷ []) es after),
)

all_stand : (ps : List IpPrefix) (es : Table) → AllByRecursion (λ (e : RouteKey × Route). list_any (eq_by_cmp prefix_cmp e.0.prefix) ps ≡ true) es → AllByRecursion (Stands (ordered ps)) es
all_stand ps [] h = tt
all_stand ps (e ∷ es) h = (listed_stand e.0.prefix ps h.0, all_stand ps es h.1)

-- ---- one peer of a record's routes

entries-append : (number : ℕ) (prefix : IpPrefix) (xs ys : List PrefixRoute) → entries_of number prefix (xs ++ ys) ≡ entries_of number prefix xs ++ entries_of number prefix ys
entries-append number prefix xs ys =
    ap (map (λ (e : PrefixRoute). (record { prefix = prefix; id = e.id }, e.route))) (filter-append (λ (e : PrefixRoute). eqb e.peer number) xs ys)
    ∙ map-append (λ (e : PrefixRoute). (record { prefix = prefix; id = e.id }, e.route)) (filter (λ (e : PrefixRoute). eqb e.peer number) xs) (filter (λ (e : PrefixRoute). eqb e.peer number) ys)

own_routes : (number : ℕ) (prefix : IpPrefix) (es : Table) → entries_of number prefix (map (prefix_route number) (filter (has prefix) es)) ≡ filter (has prefix) es
own_routes number prefix [] = refl
own_routes number prefix (e ∷ es) = by_head (prefix_eq prefix e.0.prefix) refl (own_routes number prefix es)
  where
    by_head : (b : Bool) → prefix_eq prefix e.0.prefix ≡ b → entries_of number prefix (map (prefix_route number) (filter (has prefix) es)) ≡ filter (has prefix) es
        → entries_of number prefix (map (prefix_route number) (cond b (e ∷ filter (has prefix) es) (filter (has prefix) es))) ≡ cond b (e ∷ filter (has prefix) es) (filter (has prefix) es)
    by_head false t more = more
    by_head true t more =
        ap (λ (b : Bool). map (λ (x : PrefixRoute). (record { prefix = prefix; id = x.id }, x.route)) (cond b (prefix_route number e ∷ filter (λ (x : PrefixRoute). eqb x.peer number) (map (prefix_route number) (filter (has prefix) es))) (filter (λ (x : PrefixRoute). eqb x.peer number) (map (prefix_route number) (filter (has prefix) es))))) (eq-eqb number number refl)
        ∙ (λ i. (record { prefix = same_prefix prefix e.0.prefix t i; id = e.0.id }, e.1) ∷ more i)

other_routes : (number other : ℕ) (prefix : IpPrefix) (es : Table) → eqb other number ≡ false → entries_of number prefix (map (prefix_route other) es) ≡ []
other_routes number other prefix [] h = refl
other_routes number other prefix (e ∷ es) h =
    ap (λ (b : Bool). map (λ (x : PrefixRoute). (record { prefix = prefix; id = x.id }, x.route)) (cond b (prefix_route other e ∷ filter (λ (x : PrefixRoute). eqb x.peer number) (map (prefix_route other) es)) (filter (λ (x : PrefixRoute). eqb x.peer number) (map (prefix_route other) es)))) h
    ∙ other_routes number other prefix es h

none_behind : (family : FamilyOf) (prefix : IpPrefix) (number first : ℕ) (peers : List DumpedPeer) → number < first → entries_of number prefix (routes_at family prefix first peers) ≡ []
none_behind family prefix number first [] h = refl
none_behind family prefix number first (p ∷ peers) h =
    let here = filter (has prefix) (entries_in family p) in
    entries-append number prefix (map (prefix_route first) here) (routes_at family prefix (first + 1) peers)
    ∙ (λ i. other_routes number first prefix here (ne_eqb first number (λ e. absurd (omega (arith, h, e)))) i ++ none_behind family prefix number (first + 1) peers (omega (arith, h)) i)

one_peer : (family : FamilyOf) (prefix : IpPrefix) (first number : ℕ) (front : List DumpedPeer) (p : DumpedPeer) (back : List DumpedPeer) → number ≡ first + length front
    → entries_of number prefix (routes_at family prefix first (front ++ p ∷ back)) ≡ filter (has prefix) (entries_in family p)
one_peer family prefix first number [] p back e =
    let here = filter (has prefix) (entries_in family p) in
    let same : number ≡ first = omega (arith, e) in
    entries-append number prefix (map (prefix_route first) here) (routes_at family prefix (first + 1) back)
    ∙ (λ i. entries_of (same i) prefix (map (prefix_route first) here) ++ none_behind family prefix number (first + 1) back (omega (arith, e)) i)
    ∙ append-nil (entries_of first prefix (map (prefix_route first) here)) ∙ own_routes first prefix (entries_in family p)
one_peer family prefix first number (q ∷ front) p back e =
    let here = filter (has prefix) (entries_in family q) in
    entries-append number prefix (map (prefix_route first) here) (routes_at family prefix (first + 1) (front ++ p ∷ back))
    ∙ (λ i. other_routes number first prefix here (ne_eqb first number (λ h. absurd (omega (arith, h, e)))) i ++ one_peer family prefix (first + 1) number front p back (omega (arith, e)) i)

-- ---- all parts

below_filtered : (p : RouteKey × Route → Bool) (k : RouteKey) (es : Table) → T (below_all key_cmp k es) → T (below_all key_cmp k (filter p es))
below_filtered p k [] h = tt
below_filtered p k (e ∷ es) h = by_test (p e) (below_filtered p k es (second_of (is_lt (key_cmp k e.0)) (below_all key_cmp k es) h))
  where
    by_test : (b : Bool) → T (below_all key_cmp k (filter p es)) → T (below_all key_cmp k (cond b (e ∷ filter p es) (filter p es)))
    by_test true more = both_of (is_lt (key_cmp k e.0)) (below_all key_cmp k (filter p es)) (first_of (is_lt (key_cmp k e.0)) (below_all key_cmp k es) h) more
    by_test false more = more

filtered_sorted : (p : RouteKey × Route → Bool) (es : Table) → T (is_sorted key_cmp es) → T (is_sorted key_cmp (filter p es))
filtered_sorted p [] h = tt
filtered_sorted p (e ∷ es) h = by_test (p e) (filtered_sorted p es (second_of (below_all key_cmp e.0 es) (is_sorted key_cmp es) h))
  where
    by_test : (b : Bool) → T (is_sorted key_cmp (filter p es)) → T (is_sorted key_cmp (cond b (e ∷ filter p es) (filter p es)))
    by_test true more = both_of (below_all key_cmp e.0 (filter p es)) (is_sorted key_cmp (filter p es)) (below_filtered p e.0 es (first_of (below_all key_cmp e.0 es) (is_sorted key_cmp es) h)) more
    by_test false more = more

module _ (split : Split) (whole : Splits split) where
  abbrev part_of : Bool → IpPrefix → List PrefixRoute → PrefixPart
  part_of add_path prefix part = record { add_path = add_path; prefix = prefix; entries = part }

  flat_parts : (number : ℕ) (add_path : Bool) (prefix : IpPrefix) (lists : List (List PrefixRoute)) → entries_of_parts number (map (part_of add_path prefix) lists) ≡ entries_of number prefix (flat_map (λ (part : List PrefixRoute). part) lists)
  flat_parts number add_path prefix [] = refl
  flat_parts number add_path prefix (part ∷ lists) =
      ap (λ (l : Table). entries_of number prefix part ++ l) (flat_parts number add_path prefix lists) ∙ sym (entries-append number prefix part (flat_map (λ (xs : List PrefixRoute). xs) lists))

  flat_prefixes : (family : FamilyOf) (number : ℕ) (peers : List DumpedPeer) (prefixes : List IpPrefix)
      → entries_of_parts number (flat_map (λ (prefix : IpPrefix). parts_of (split prefix) prefix (routes_at family prefix 0 peers)) prefixes) ≡ flat_map (λ (prefix : IpPrefix). entries_of number prefix (routes_at family prefix 0 peers)) prefixes
  flat_prefixes family number peers [] = refl
  flat_prefixes family number peers (prefix ∷ prefixes) =
      let routes = routes_at family prefix 0 peers in
      flat_map-append (λ (part : PrefixPart). entries_of number part.prefix part.entries) (parts_of (split prefix) prefix routes) (flat_map (λ (q : IpPrefix). parts_of (split q) q (routes_at family q 0 peers)) prefixes)
      ∙ (λ i. (flat_parts number (have_identifiers routes) prefix (split prefix routes) ∙ ap (entries_of number prefix) (whole prefix routes)) i ++ flat_prefixes family number peers prefixes i)

  each_prefix : (family : FamilyOf) (front : List DumpedPeer) (p : DumpedPeer) (back : List DumpedPeer) (prefixes : List IpPrefix)
      → flat_map (λ (prefix : IpPrefix). entries_of (length front) prefix (routes_at family prefix 0 (front ++ p ∷ back))) prefixes ≡ flat_map (λ (prefix : IpPrefix). filter (has prefix) (entries_in family p)) prefixes
  each_prefix family front p back [] = refl
  each_prefix family front p back (prefix ∷ prefixes) =
      λ i. one_peer family prefix 0 (length front) front p back (omega arith) i ++ each_prefix family front p back prefixes i

  -- the records of all prefixes have each peer's entries, in the order of its table
  pub parts_have : (family : FamilyOf) (front : List DumpedPeer) (p : DumpedPeer) (back : List DumpedPeer) → T (is_sorted key_cmp p.table)
      → entries_of_parts (length front) (all_parts split family (front ++ p ∷ back)) ≡ entries_in family p
  parts_have family front p back h =
      let peers = front ++ p ∷ back in
      let listed = flat_map (λ (q : DumpedPeer). prefixes_in (entries_in family q)) peers in
      let sorted : T (is_sorted key_cmp (entries_in family p)) = filtered_sorted (is_entry family) p.table h in
      let parts : listed ≡ flat_map (λ (q : DumpedPeer). prefixes_in (entries_in family q)) front ++ (prefixes_in (entries_in family p) ++ flat_map (λ (q : DumpedPeer). prefixes_in (entries_in family q)) back) = flat_map-append (λ (q : DumpedPeer). prefixes_in (entries_in family q)) front (p ∷ back) in
      let stand : AllByRecursion (Stands (ordered listed)) (entries_in family p) =
      all_stand listed (entries_in family p) (subst (λ (ps : List IpPrefix). AllByRecursion (λ (e : RouteKey × Route). list_any (eq_by_cmp prefix_cmp e.0.prefix) ps ≡ true) (entries_in family p)) (sym parts)
      (each_listed (flat_map (λ (q : DumpedPeer). prefixes_in (entries_in family q)) front) (entries_in family p) (flat_map (λ (q : DumpedPeer). prefixes_in (entries_in family q)) back))) in
      flat_prefixes family (length front) peers (prefixes_of family peers)
      ∙ each_prefix family front p back (prefixes_of family peers)
      ∙ mapped (λ (prefix : IpPrefix). filter (has prefix) (entries_in family p)) (ordered listed)
      ∙ merged_back (ordered listed) (entries_in family p) (is_sorted-tabulated prefix_cmp_total (λ (_ : IpPrefix). Some tt) listed) sorted stand

-- ---- the parts of a prefix are its entries

closed_is : (part : List PrefixRoute) → flat_map (λ (p : List PrefixRoute). p) (closed part) ≡ part
closed_is [] = refl
closed_is (e ∷ part) = append-nil (e ∷ part)

split_is : (fits : List PrefixRoute → Bool) (part entries : List PrefixRoute) → flat_map (λ (p : List PrefixRoute). p) (split_after fits part entries) ≡ part ++ entries
split_is fits part [] = closed_is part ∙ sym (append-nil part)
split_is fits part (e ∷ entries) = by_test (fits (part ++ e ∷ [])) (split_is fits (part ++ e ∷ []) entries) (split_is fits (e ∷ []) entries)
  where
    by_test : (b : Bool) → flat_map (λ (p : List PrefixRoute). p) (split_after fits (part ++ e ∷ []) entries) ≡ (part ++ e ∷ []) ++ entries → flat_map (λ (p : List PrefixRoute). p) (split_after fits (e ∷ []) entries) ≡ e ∷ entries
        → flat_map (λ (p : List PrefixRoute). p) (cond b (split_after fits (part ++ e ∷ []) entries) (closed part ++ split_after fits (e ∷ []) entries)) ≡ part ++ e ∷ entries
    by_test true more next = more ∙ append_assoc part (e ∷ []) entries
    by_test false more next = flat_map-append (λ (p : List PrefixRoute). p) (closed part) (split_after fits (e ∷ []) entries) ∙ λ i. closed_is part i ++ next i

pub records_split : (family : FamilyOf) → Splits (record_split family)
records_split family prefix entries = split_is (fits_record family (have_identifiers entries) prefix) [] entries
