-- The prefixes of tables, each once for each table that has it.
use Rattle.std.proofs.Common.{◌≡◌, ℕ, ◌+◌, ◌<◌, ◌^◌, Bool, true, false, cond, ◌||◌, List, [], ◌∷◌, ◌++◌, Some, None, refl, sym, ap, ◌∙◌, subst, map, length, T}
use Rattle.std.specs.Bool.{passes}
use Rattle.std.specs.declared.cmp.Ordering.{Ordering}
use Rattle.std.specs.declared.cmp.Ordering.TheVariants.{Less, Equal, Greater}
use Rattle.std.specs.Ordering.{eq_by_cmp, is_eq, is_lt, ordering_then, ordering_reverse, nat_cmp}
use Rattle.std.specs.List.{AllByRecursion, dedup, flat_map}
use Rattle.std.specs.FinMap.Entries.{find, is_sorted, below_all}
use Rattle.std.proofs.lemmas.Bool.{false≢true}
use Rattle.std.proofs.lemmas.Cmp.{tied_itself}
use Rattle.std.proofs.lemmas.List.Sorted.{IsPermutation-refl}
use Rattle.bgp_prefix.specs.Prefixes.{IpPrefix, prefix_cmp, prefix_eq}
use Rattle.bgp_prefix.specs.Keys.{key_cmp}
use Rattle.bgp_prefix.specs.Ordered.{in_order}
use Rattle.bgp_prefix.specs.Keys.{RouteKey}
use Rattle.bgp_prefix.proofs.KeyLaws.{prefix_cmp_total, prefix_cmp_exact, prefix_tied, same_prefix}
use Rattle.bgp_update.specs.declared.route.Route.{Route}
use Rattle.peer_tables.specs.Tables.{Seat, TablesState}
use Rattle.peer_tables.proofs.RowLaws.{map_twice}
use Rattle.rib_report.specs.Merges.{by_key, counted_both, merged_lists}
use Rattle.rib_report.specs.Reports.{HasOrder, seat_prefixes, visibility_of, visible_among, visibility_rows}
use Rattle.rib_report.proofs.MergeLaws.{both_of, first_of, second_of, below_both, is_less}
use Rattle.rib_report.proofs.StableSort.{Ascends, sorted_from_ascends}
use Rattle.rib_report.proofs.OrderLaws.{deduped_in_order}
use Rattle.rib_report.proofs.CountLaws.{once_counted, merged_counted}

pub own_itself : (p : IpPrefix) → prefix_eq p p ≡ true
own_itself p = sym (prefix_tied p p) ∙ ap is_eq (tied_itself prefix_cmp_total p)

-- ---- the prefixes of a table in order don't fall

abbrev lower : IpPrefix → IpPrefix → Bool
lower p q = is_lt (prefix_cmp p q)

not_lower : (r s o : Ordering) → s ≡ ordering_reverse r → ordering_then r o ≡ Less → is_lt s ≡ false
not_lower Less s o turned h = ap is_lt turned
not_lower Equal s o turned h = ap is_lt turned
not_lower Greater s o turned h = cc

above_keys : (k : RouteKey) (es : List (RouteKey × Route)) → T (below_all key_cmp k es) → AllByRecursion (λ p. lower p k.prefix ≡ false) (map (λ e. e.0.prefix) es)
above_keys k [] h = tt
above_keys k (e ∷ es) h = (
  not_lower (prefix_cmp k.prefix e.0.prefix) (prefix_cmp e.0.prefix k.prefix) (nat_cmp k.id e.0.id) (prefix_cmp_total.antisymm e.0.prefix k.prefix) (is_less _ (first_of _ (below_all key_cmp k es) h)),
  above_keys k es (second_of (is_lt (key_cmp k e.0)) _ h),
)

ascending_prefixes : (es : List (RouteKey × Route)) → T (is_sorted key_cmp es) → Ascends lower (map (λ e. e.0.prefix) es)
ascending_prefixes [] h = tt
ascending_prefixes (e ∷ es) h = (above_keys e.0 es (first_of _ (is_sorted key_cmp es) h), ascending_prefixes es (second_of (below_all key_cmp e.0 es) _ h))

-- ---- at how many peers a prefix is visible

-- the prefixes of a table in order, without repeats, are each of its prefixes once
pub deduped_prefixes : (s : Seat) → HasOrder s → dedup prefix_eq (seat_prefixes s) ≡ in_order prefix_cmp (seat_prefixes s)
deduped_prefixes s ordered =
    let ps = seat_prefixes s in
    deduped_in_order prefix_cmp_total prefix_cmp_exact prefix_eq (λ p q. sym (prefix_tied p q)) ps ps
    (sorted_from_ascends lower ps (ascending_prefixes s.session.table (passes _ ordered))) (IsPermutation-refl ps)

-- those of one peer
pub visible_at_one : (s : Seat) (ps : List IpPrefix) → ps ≡ in_order prefix_cmp (seat_prefixes s) → map (λ p. (p, 1)) ps ≡ visible_among (s ∷ [])
visible_at_one s ps is = ap (map (λ p. (p, 1))) is ∙ once_counted prefix_cmp_total prefix_cmp_exact prefix_eq prefix_tied seat_prefixes s

-- the prefixes of two groups of peers are those of both
pub merged_visible : (xs ys : List Seat) → length xs + length ys < 2 ^ 64 → merged_lists (by_key prefix_cmp) counted_both (visible_among xs) (visible_among ys) ≡ visible_among (xs ++ ys)
merged_visible = merged_counted prefix_cmp_total prefix_cmp_exact prefix_eq prefix_tied seat_prefixes

-- the counted prefixes of all peers are the rows of the report
pub rows_of_visible : (tables : TablesState) (counts : List (IpPrefix × ℕ)) (seats : List Seat) → counts ≡ visible_among seats → seats ≡ tables.seats → map (λ (e : IpPrefix × ℕ). record { prefix = e.0; peers = e.1 }) counts ≡ visibility_rows tables
rows_of_visible tables counts seats counted all =
    ap (map (λ (e : IpPrefix × ℕ). record { prefix = e.0; peers = e.1 })) (counted ∙ ap visible_among all)
    ∙ sym (map_twice (λ p. (p, visibility_of tables p)) (λ (e : IpPrefix × ℕ). record { prefix = e.0; peers = e.1 }) (in_order prefix_cmp (flat_map seat_prefixes tables.seats)))
