-- The records of all prefixes, one prefix after the other.
use Rattle.std.proofs.Common.{◌≡◌, ℕ, ◌+◌, ◌≤◌, Bool, true, false, cond, not, List, [], ◌∷◌, ◌++◌, length, map, sym, ap, ◌∙◌}
use Rattle.std.specs.List.{filter, flat_map, AllByRecursion}
use Rattle.bgp_prefix.specs.Prefixes.{IpPrefix, prefix_cmp, prefix_eq}
use Rattle.bgp_prefix.specs.Keys.{RouteKey}
use Rattle.bgp_prefix.specs.Ordered.{in_order}
use Rattle.bgp_update.specs.declared.route.Route.{Route}
use Rattle.bgp_update.specs.Families.{FamilyOf}
use Rattle.mrt_writing.specs.RouteAttributes.{entry_most}
use Rattle.mrt_writing.specs.RibRecords.{PrefixRoute, entry_field}
use Rattle.table_dumps.specs.Checkpoints.{parts_of, prefix_route, record_split}
use Rattle.table_dumps.proofs.FitLaws.{all_both}
use Rattle.checkpoint_writing.specs.Merging.{Entries, has_prefix, others_of, prefixes_among, routes_among, parts_among, without, TakesLeast}
use Rattle.checkpoint_writing.specs.Dumping.{AreShort, parts_bytes}
use Rattle.checkpoint_writing.specs.Leaving.{AreListsShort}
use Rattle.checkpoint_writing.proofs.StepLaws.{parts_first}
use Rattle.checkpoint_writing.proofs.DumpLaws.{parts_more}

module _ (family : FamilyOf) where
  abbrev Short : RouteKey × Route → Type 0
  Short e = length (entry_field family e.1) ≤ entry_most

  own_short : (p : IpPrefix) (number : ℕ) (es : Entries) → AllByRecursion Short es → AreShort family (map (prefix_route number) (filter (has_prefix p) es))
  own_short p number [] h = tt
  own_short p number (e ∷ es) h = by_test (prefix_eq p e.0.prefix) (own_short p number es h.1)
    where
      by_test : (b : Bool) → AreShort family (map (prefix_route number) (filter (has_prefix p) es)) → AreShort family (map (prefix_route number) (cond b (e ∷ filter (has_prefix p) es) (filter (has_prefix p) es)))
      by_test true more = (h.0, more)
      by_test false more = more

  pub among_short : (p : IpPrefix) (number : ℕ) (lists : List Entries) → AreListsShort family lists → AreShort family (routes_among p number lists)
  among_short p number [] h = tt
  among_short p number (es ∷ lists) h =
      all_both (λ (e : PrefixRoute). length (entry_field family e.route) ≤ entry_most) (map (prefix_route number) (filter (has_prefix p) es)) (routes_among p (number + 1) lists) (own_short p number es h.0) (among_short p (number + 1) lists h.1)

  others_short : (p : IpPrefix) (es : Entries) → AllByRecursion Short es → AllByRecursion Short (others_of p es)
  others_short p [] h = tt
  others_short p (e ∷ es) h = by_test (prefix_eq p e.0.prefix) (others_short p es h.1)
    where
      by_test : (b : Bool) → AllByRecursion Short (others_of p es) → AllByRecursion Short (cond (not b) (e ∷ others_of p es) (others_of p es))
      by_test true more = more
      by_test false more = (h.0, more)

  pub without_short : (p : IpPrefix) (lists : List Entries) → AreListsShort family lists → AreListsShort family (without p lists)
  without_short p [] h = tt
  without_short p (es ∷ lists) h = (others_short p es h.0, without_short p lists h.1)

  -- the records that are left, once those of the least prefix have come
  pub prefix_step : (seconds sequence next : ℕ) (p : IpPrefix) (old new : List Entries) (routes : List PrefixRoute) → TakesLeast old new routes p → next ≡ sequence + length (parts_of (record_split family p) p routes)
      → parts_bytes family seconds sequence (parts_among (record_split family) old)
      ≡ parts_bytes family seconds sequence (parts_of (record_split family p) p routes) ++ parts_bytes family seconds next (parts_among (record_split family) new)
  prefix_step seconds sequence next p old new routes taken numbered =
      ap (parts_bytes family seconds sequence) (parts_first (record_split family) p old taken.least)
      ∙ (λ i. parts_bytes family seconds sequence (parts_of (record_split family p) p (sym taken.routes_are i) ++ parts_among (record_split family) (sym taken.left i)))
      ∙ parts_more family seconds sequence (parts_of (record_split family p) p routes) (parts_among (record_split family) new)
      ∙ ap (λ (n : ℕ). parts_bytes family seconds sequence (parts_of (record_split family p) p routes) ++ parts_bytes family seconds n (parts_among (record_split family) new)) (sym numbered)

  -- none are left once there is no prefix
  pub none_step : (seconds sequence : ℕ) (lists : List Entries) → prefixes_among lists ≡ [] → parts_bytes family seconds sequence (parts_among (record_split family) lists) ≡ []
  none_step seconds sequence lists none =
      ap (λ (ps : List IpPrefix). parts_bytes family seconds sequence (flat_map (λ prefix. parts_of (record_split family prefix) prefix (routes_among prefix 0 lists)) (in_order prefix_cmp ps))) none
