-- The parts of all prefixes are those of the least one, and then those of the others.
use Rattle.std.proofs.Common.{◌≡◌, ◌⊎◌, inl, inr, ℕ, ◌+◌, Bool, true, false, cond, not, ◌&&◌, ◌||◌, List, [], ◌∷◌, ◌++◌, map, Some, None, T, refl, sym, ap, subst, ◌∙◌}
use Rattle.std.specs.List.{filter, flat_map, list_any, AllByRecursion}
use Rattle.std.specs.Ordering.{eq_by_cmp, is_lt, is_eq}
use Rattle.std.specs.declared.cmp.Ordering.{Ordering}
use Rattle.std.specs.declared.cmp.Ordering.TheVariants.{Less, Equal, Greater}
use Rattle.std.specs.FinMap.Entries.{find, is_sorted, below_all, same_entries, put, by_order}
use Rattle.std.specs.Cmp.{tied_itself}
use Rattle.std.proofs.lemmas.List.Elements.{filter-append}
use borrow.Author.Tests.{both_ways}
use Rattle.bgp_prefix.specs.Prefixes.{IpPrefix, prefix_cmp, prefix_eq}
use Rattle.bgp_prefix.specs.Keys.{RouteKey}
use Rattle.bgp_prefix.specs.Ordered.{tabulated, in_order}
use Rattle.bgp_prefix.proofs.KeyLaws.{prefix_cmp_total, prefix_cmp_exact, prefix_tied, same_prefix}
use Rattle.bgp_prefix.proofs.OrderedLaws.{is_sorted-tabulated, find-tabulated}
use Rattle.bgp_update.specs.declared.route.Route.{Route}
use Rattle.mrt_writing.specs.RibRecords.{PrefixRoute}
use Rattle.bgp_update.specs.Families.{FamilyOf}
use Rattle.table_dumps.specs.Checkpoints.{DumpedPeer, Split, PrefixPart, parts_of, prefix_route, routes_at, entries_in, prefixes_of, all_parts}
use Rattle.table_dumps.proofs.FitLaws.{all_both}
use Rattle.checkpoint_writing.specs.Merging.{Entries, has_prefix, prefixes_among, routes_among, parts_among, others_of, without, AtOrAbove, IsLeast}

abbrev Prefixes : Type 0
Prefixes = List (IpPrefix × Unit {0})

pub both_of : (a b : Bool) → T a → T b → T (a && b)
both_of true b h k = k
both_of false b h k = h

pub first_of : (a b : Bool) → T (a && b) → T a
first_of true b h = tt
first_of false b h = h

pub second_of : (a b : Bool) → T (a && b) → T b
second_of true b h = h
second_of false b h = absurd h

lt_of : (r : Ordering) → r ≡ Less → T (is_lt r)
lt_of r e = subst (λ (x : Ordering). T (is_lt x)) (sym e) tt

less_of : (r : Ordering) → T (is_lt r) → r ≡ Less
less_of Less h = refl
less_of Equal h = absurd h
less_of Greater h = absurd h

pub prefix_itself : (p : IpPrefix) → prefix_eq p p ≡ true
prefix_itself p = sym (prefix_tied p p) ∙ ap is_eq (tied_itself prefix_cmp_total p)

pub apart_of : (q p : IpPrefix) → prefix_cmp q p ≡ Less → prefix_eq q p ≡ false
apart_of q p h = sym (prefix_tied q p) ∙ ap is_eq h

-- ---- the prefixes in order

abbrev AtOrAbovePrefix : IpPrefix → IpPrefix → Type 0
AtOrAbovePrefix p q = (prefix_eq p q ≡ true) ⊎ (prefix_cmp p q ≡ Less)

abbrev isnt : IpPrefix → IpPrefix → Bool
isnt p q = not (prefix_eq p q)

abbrev ordered : List IpPrefix → Prefixes
ordered ps = tabulated prefix_cmp (λ _. Some tt) ps

below_put : (p k : IpPrefix) (es : Prefixes) → T (is_lt (prefix_cmp p k)) → T (below_all prefix_cmp p es) → T (below_all prefix_cmp p (put prefix_cmp k tt es))
below_put p k [] h more = both_of (is_lt (prefix_cmp p k)) true h tt
below_put p k (e ∷ es) h more =
    by_place (prefix_cmp k e.0) (below_put p k es h (second_of (is_lt (prefix_cmp p e.0)) (below_all prefix_cmp p es) more))
  where
    by_place : (r : Ordering) → T (below_all prefix_cmp p (put prefix_cmp k tt es)) → T (below_all prefix_cmp p (by_order r ((k, tt) ∷ e ∷ es) ((e.0, tt) ∷ es) (e ∷ put prefix_cmp k tt es)))
    by_place Less rest = both_of (is_lt (prefix_cmp p k)) (below_all prefix_cmp p (e ∷ es)) h more
    by_place Equal rest = more
    by_place Greater rest = both_of (is_lt (prefix_cmp p e.0)) (below_all prefix_cmp p (put prefix_cmp k tt es)) (first_of (is_lt (prefix_cmp p e.0)) (below_all prefix_cmp p es) more) rest

-- of prefixes at or above p, the others are above it
below_others : (p : IpPrefix) (ps : List IpPrefix) → AllByRecursion (AtOrAbovePrefix p) ps → T (below_all prefix_cmp p (ordered (filter (isnt p) ps)))
below_others p [] h = tt
below_others p (q ∷ ps) h = by_test (prefix_eq p q) refl (below_others p ps h.1)
  where
    above : AtOrAbovePrefix p q → prefix_eq p q ≡ false → T (is_lt (prefix_cmp p q))
    above (inl same) other = absurd (both_ways (prefix_eq p q) other same)
    above (inr less) other = lt_of (prefix_cmp p q) less

    by_test : (b : Bool) → prefix_eq p q ≡ b → T (below_all prefix_cmp p (ordered (filter (isnt p) ps))) → T (below_all prefix_cmp p (ordered (cond (not b) (q ∷ filter (isnt p) ps) (filter (isnt p) ps))))
    by_test true t rest = rest
    by_test false t rest = below_put p q (ordered (filter (isnt p) ps)) (above h.0 t) rest

any_tied : (q : IpPrefix) (ps : List IpPrefix) → list_any (eq_by_cmp prefix_cmp q) ps ≡ list_any (prefix_eq q) ps
any_tied q [] = refl
any_tied q (p ∷ ps) = λ i. prefix_tied q p i || any_tied q ps i

found_in : (q : IpPrefix) (ps : List IpPrefix) → find prefix_cmp q (ordered ps) ≡ cond (list_any (prefix_eq q) ps) (Some tt) None
found_in q ps =
    find-tabulated prefix_cmp_total (λ (_ : IpPrefix). Some tt) (λ a b e. refl) q ps ∙ ap (λ (b : Bool). cond b (Some tt) None) (any_tied q ps)

-- another prefix stands among those that aren't p as among all
any_other : (p q : IpPrefix) (ps : List IpPrefix) → prefix_eq q p ≡ false → list_any (prefix_eq q) ps ≡ list_any (prefix_eq q) (filter (isnt p) ps)
any_other p q [] apart = refl
any_other p q (x ∷ ps) apart = by_test (prefix_eq p x) refl (any_other p q ps apart)
  where
    by_test : (b : Bool) → prefix_eq p x ≡ b → list_any (prefix_eq q) ps ≡ list_any (prefix_eq q) (filter (isnt p) ps)
        → (prefix_eq q x || list_any (prefix_eq q) ps) ≡ list_any (prefix_eq q) (cond (not b) (x ∷ filter (isnt p) ps) (filter (isnt p) ps))
    by_test true t rest = ap (λ (b : Bool). b || list_any (prefix_eq q) ps) (ap (prefix_eq q) (sym (same_prefix p x t)) ∙ apart) ∙ rest
    by_test false t rest = ap (λ (b : Bool). prefix_eq q x || b) rest

-- the least prefix stands first, and then the others in order
pub least_first : (p : IpPrefix) (ps : List IpPrefix) → list_any (prefix_eq p) ps ≡ true → AllByRecursion (AtOrAbovePrefix p) ps → in_order prefix_cmp ps ≡ p ∷ in_order prefix_cmp (filter (isnt p) ps)
least_first p ps stands above =
    ap (map (λ (e : IpPrefix × Unit {0}). e.0))
    (same_entries prefix_cmp prefix_cmp_total prefix_cmp_exact (ordered ps) ((p, tt) ∷ ordered (filter (isnt p) ps))
    (is_sorted-tabulated prefix_cmp_total (λ (_ : IpPrefix). Some tt) ps)
    (both_of (below_all prefix_cmp p (ordered (filter (isnt p) ps))) (is_sorted prefix_cmp (ordered (filter (isnt p) ps))) (below_others p ps above) (is_sorted-tabulated prefix_cmp_total (λ (_ : IpPrefix). Some tt) (filter (isnt p) ps)))
    (λ q. found_in q ps ∙ by_test q (prefix_eq q p) refl))
  where
    by_test : (q : IpPrefix) (b : Bool) → prefix_eq q p ≡ b → cond (list_any (prefix_eq q) ps) (Some tt) None ≡ cond (eq_by_cmp prefix_cmp q p) (Some tt) (find prefix_cmp q (ordered (filter (isnt p) ps)))
    by_test q true t =
        ap (λ (b : Bool). cond b (Some tt) None) (ap (λ (x : IpPrefix). list_any (prefix_eq x) ps) (same_prefix q p t) ∙ stands)
        ∙ sym (ap (λ (b : Bool). cond b (Some tt) (find prefix_cmp q (ordered (filter (isnt p) ps)))) (prefix_tied q p ∙ t))
    by_test q false t =
        ap (λ (b : Bool). cond b (Some tt) None) (any_other p q ps t)
        ∙ sym (found_in q (filter (isnt p) ps))
        ∙ sym (ap (λ (b : Bool). cond b (Some tt) (find prefix_cmp q (ordered (filter (isnt p) ps)))) (prefix_tied q p ∙ t))

-- ---- the lists without a prefix

own_others : (p : IpPrefix) (es : Entries) → map (λ (e : RouteKey × Route). e.0.prefix) (others_of p es) ≡ filter (isnt p) (map (λ (e : RouteKey × Route). e.0.prefix) es)
own_others p [] = refl
own_others p (e ∷ es) = by_test (prefix_eq p e.0.prefix) (own_others p es)
  where
    by_test : (b : Bool) → map (λ (x : RouteKey × Route). x.0.prefix) (others_of p es) ≡ filter (isnt p) (map (λ (x : RouteKey × Route). x.0.prefix) es)
        → map (λ (x : RouteKey × Route). x.0.prefix) (cond (not b) (e ∷ others_of p es) (others_of p es)) ≡ cond (not b) (e.0.prefix ∷ filter (isnt p) (map (λ (x : RouteKey × Route). x.0.prefix) es)) (filter (isnt p) (map (λ (x : RouteKey × Route). x.0.prefix) es))
    by_test true rest = rest
    by_test false rest = ap (λ (l : List IpPrefix). e.0.prefix ∷ l) rest

prefixes_without : (p : IpPrefix) (lists : List Entries) → prefixes_among (without p lists) ≡ filter (isnt p) (prefixes_among lists)
prefixes_without p [] = refl
prefixes_without p (es ∷ lists) =
    (λ i. own_others p es i ++ prefixes_without p lists i)
    ∙ sym (filter-append (isnt p) (map (λ (e : RouteKey × Route). e.0.prefix) es) (prefixes_among lists))

-- entries of another prefix are the same without those of p
same_own : (p y : IpPrefix) (es : Entries) → prefix_eq p y ≡ false → filter (has_prefix y) es ≡ filter (has_prefix y) (others_of p es)
same_own p y [] apart = refl
same_own p y (e ∷ es) apart = by_test (prefix_eq p e.0.prefix) refl (same_own p y es apart)
  where
    other : prefix_eq p e.0.prefix ≡ true → prefix_eq y e.0.prefix ≡ false
    other t = by_own (prefix_eq y e.0.prefix) refl
      where
        by_own : (b : Bool) → prefix_eq y e.0.prefix ≡ b → b ≡ false
        by_own false u = refl
        by_own true u = absurd (both_ways (prefix_eq p y) apart (ap (prefix_eq p) (same_prefix y e.0.prefix u) ∙ t))

    by_test : (b : Bool) → prefix_eq p e.0.prefix ≡ b → filter (has_prefix y) es ≡ filter (has_prefix y) (others_of p es)
        → filter (has_prefix y) (e ∷ es) ≡ filter (has_prefix y) (cond (not b) (e ∷ others_of p es) (others_of p es))
    by_test true t rest = ap (λ (b : Bool). cond b (e ∷ filter (has_prefix y) es) (filter (has_prefix y) es)) (other t) ∙ rest
    by_test false t rest = ap (λ (l : Entries). cond (prefix_eq y e.0.prefix) (e ∷ l) l) rest

same_routes : (p y : IpPrefix) (number : ℕ) (lists : List Entries) → prefix_eq p y ≡ false → routes_among y number lists ≡ routes_among y number (without p lists)
same_routes p y number [] apart = refl
same_routes p y number (es ∷ lists) apart =
    λ i. map (prefix_route number) (same_own p y es apart i) ++ same_routes p y (number + 1) lists apart i

above_all : (p : IpPrefix) (es : Entries) → AllByRecursion (AtOrAbove p) es → AllByRecursion (AtOrAbovePrefix p) (map (λ (e : RouteKey × Route). e.0.prefix) es)
above_all p [] h = tt
above_all p (e ∷ es) h = (h.0, above_all p es h.1)

all_above : (p : IpPrefix) (lists : List Entries) → AllByRecursion (λ (es : Entries). AllByRecursion (AtOrAbove p) es) lists → AllByRecursion (AtOrAbovePrefix p) (prefixes_among lists)
all_above p [] h = tt
all_above p (es ∷ lists) h = all_both (AtOrAbovePrefix p) (map (λ (e : RouteKey × Route). e.0.prefix) es) (prefixes_among lists) (above_all p es h.0) (all_above p lists h.1)

module _ (split : Split) where
  abbrev parts_at : List Entries → IpPrefix → List PrefixPart
  parts_at lists prefix = parts_of (split prefix) prefix (routes_among prefix 0 lists)

  -- the parts of prefixes above p are the same without it
  same_parts : (p : IpPrefix) (lists : List Entries) (ps : Prefixes) → T (below_all prefix_cmp p ps)
      → flat_map (parts_at lists) (map (λ (e : IpPrefix × Unit {0}). e.0) ps) ≡ flat_map (parts_at (without p lists)) (map (λ (e : IpPrefix × Unit {0}). e.0) ps)
  same_parts p lists [] h = refl
  same_parts p lists (y ∷ ps) h =
      let apart : prefix_eq p y.0 ≡ false = apart_of p y.0 (less_of (prefix_cmp p y.0) (first_of (is_lt (prefix_cmp p y.0)) (below_all prefix_cmp p ps) h)) in
      λ i. parts_of (split y.0) y.0 (same_routes p y.0 0 lists apart i) ++ same_parts p lists ps (second_of (is_lt (prefix_cmp p y.0)) (below_all prefix_cmp p ps) h) i

  -- the parts of the least prefix stand first, and then those of what is left
  pub parts_first : (p : IpPrefix) (lists : List Entries) → IsLeast p lists → parts_among split lists ≡ parts_at lists p ++ parts_among split (without p lists)
  parts_first p lists h =
      let ps = prefixes_among lists in
      let above = all_above p lists h.least in
      ap (flat_map (parts_at lists)) (least_first p ps h.stands above)
      ∙ ap (λ (l : List PrefixPart). parts_at lists p ++ l)
      (same_parts p lists (ordered (filter (isnt p) ps)) (below_others p ps above)
      ∙ ap (λ (l : List IpPrefix). flat_map (parts_at (without p lists)) (in_order prefix_cmp l)) (sym (prefixes_without p lists)))

-- ---- the tables of peers

routes_merged : (family : FamilyOf) (prefix : IpPrefix) (number : ℕ) (peers : List DumpedPeer) → routes_at family prefix number peers ≡ routes_among prefix number (map (entries_in family) peers)
routes_merged family prefix number [] = refl
routes_merged family prefix number (p ∷ peers) =
    ap (λ (l : List PrefixRoute). map (prefix_route number) (filter (has_prefix prefix) (entries_in family p)) ++ l) (routes_merged family prefix (number + 1) peers)

prefixes_merged : (family : FamilyOf) (peers : List DumpedPeer) → flat_map (λ (p : DumpedPeer). map (λ (e : RouteKey × Route). e.0.prefix) (entries_in family p)) peers ≡ prefixes_among (map (entries_in family) peers)
prefixes_merged family [] = refl
prefixes_merged family (p ∷ peers) = ap (λ (l : List IpPrefix). map (λ (e : RouteKey × Route). e.0.prefix) (entries_in family p) ++ l) (prefixes_merged family peers)

merged_at : (split : Split) (family : FamilyOf) (peers : List DumpedPeer) (ps : List IpPrefix)
    → flat_map (λ (prefix : IpPrefix). parts_of (split prefix) prefix (routes_at family prefix 0 peers)) ps ≡ flat_map (parts_at split (map (entries_in family) peers)) ps
merged_at split family peers [] = refl
merged_at split family peers (prefix ∷ ps) =
    λ i. parts_of (split prefix) prefix (routes_merged family prefix 0 peers i) ++ merged_at split family peers ps i

pub parts_merged : (split : Split) (family : FamilyOf) (peers : List DumpedPeer) → all_parts split family peers ≡ parts_among split (map (entries_in family) peers)
parts_merged split family peers =
    merged_at split family peers (prefixes_of family peers)
    ∙ ap (λ (ps : List IpPrefix). flat_map (parts_at split (map (entries_in family) peers)) (in_order prefix_cmp ps)) (prefixes_merged family peers)
