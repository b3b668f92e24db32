-- The prefixes and origin ASes of routes, each pair once for each table that has such a route.
use Rattle.std.proofs.Common.{◌≡◌, ℕ, ◌+◌, ◌<◌, ◌^◌, List, [], ◌∷◌, ◌++◌, Option, Some, None, refl, sym, ap, ◌∙◌, subst, map, length}
use Rattle.std.specs.declared.cmp.Ordering.TheVariants.{Equal}
use Rattle.std.specs.Ordering.{nat_cmp, is_eq, eq_by_cmp, ordering_then}
use Rattle.std.specs.Option.{option_eq}
use Rattle.std.specs.Prelude.{◌==◌}
use Rattle.std.specs.Cmp.{IsTotalOrder, unsigned_tied, both_tied}
use Rattle.std.specs.List.{dedup, flat_map}
use Rattle.std.specs.List.Sorted.{IsSorted, IsPermutation}
use Rattle.std.proofs.lemmas.Cmp.{on_total, then_total, nat_cmp_total}
use Rattle.std.proofs.lemmas.Map.Lookups.{exact_pairs, exact_unsigned}
use Rattle.bgp_prefix.specs.Prefixes.{IpPrefix, prefix_cmp, prefix_eq}
use Rattle.bgp_prefix.specs.Ordered.{in_order}
use Rattle.bgp_prefix.proofs.KeyLaws.{prefix_cmp_total, prefix_cmp_exact, prefix_tied}
use Rattle.peer_tables.specs.Tables.{Seat, TablesState}
use Rattle.peer_tables.proofs.RowLaws.{map_twice}
use Rattle.rib_report.specs.Plain.{SeenRow}
use Rattle.rib_report.specs.Merges.{by_key, counted_both, merged_lists}
use Rattle.rib_report.specs.Reports.{origin_cmp, prefix_origin_cmp, prefix_origin_eq, seat_prefix_origins, seen_of, seen_among, seen_rows}
use Rattle.rib_report.proofs.OrderLaws.{deduped_in_order}
use Rattle.rib_report.proofs.CountLaws.{once_counted, merged_counted}

-- ---- the order of prefixes and origin ASes

-- whether it is none, and then the number
abbrev ranked : Option ℕ → ℕ × ℕ
ranked (Some a) = (0, a)
ranked None = (1, 0)

is_ranked : (a b : Option ℕ) → ordering_then (nat_cmp (ranked a).0 (ranked b).0) (nat_cmp (ranked a).1 (ranked b).1) ≡ origin_cmp a b
is_ranked (Some a) (Some b) = refl
is_ranked (Some a) None = refl
is_ranked None (Some b) = refl
is_ranked None None = refl

origin_cmp_total : IsTotalOrder origin_cmp
origin_cmp_total = subst IsTotalOrder (λ i a b. is_ranked a b i) (then_total (on_total (λ (a : Option ℕ). (ranked a).0) nat_cmp_total) (on_total (λ (a : Option ℕ). (ranked a).1) nat_cmp_total))

origin_exact : (a b : Option ℕ) → origin_cmp a b ≡ Equal → a ≡ b
origin_exact (Some a) (Some b) e = ap Some (exact_unsigned a b e)
origin_exact (Some a) None e = cc
origin_exact None (Some b) e = cc
origin_exact None None e = refl

origin_tied : (a b : Option ℕ) → is_eq (origin_cmp a b) ≡ option_eq (λ m n. m == n) a b
origin_tied (Some a) (Some b) = unsigned_tied a b
origin_tied (Some a) None = refl
origin_tied None (Some b) = refl
origin_tied None None = refl

pub prefix_origin_total : IsTotalOrder prefix_origin_cmp
prefix_origin_total = then_total (on_total (λ (e : IpPrefix × Option ℕ). e.0) prefix_cmp_total) (on_total (λ (e : IpPrefix × Option ℕ). e.1) origin_cmp_total)

pub prefix_origin_exact : (a b : IpPrefix × Option ℕ) → prefix_origin_cmp a b ≡ Equal → a ≡ b
prefix_origin_exact a b h = exact_pairs prefix_cmp origin_cmp prefix_cmp_exact origin_exact a b h

pub prefix_origin_tied : (a b : IpPrefix × Option ℕ) → eq_by_cmp prefix_origin_cmp a b ≡ prefix_origin_eq a b
prefix_origin_tied a b = sym (both_tied (prefix_eq a.0 b.0) (option_eq (λ m n. m == n) a.1 b.1) (prefix_cmp a.0 b.0) (origin_cmp a.1 b.1) (sym (prefix_tied a.0 b.0)) (sym (origin_tied a.1 b.1)))

-- ---- at how many peers they are seen

-- a sorted list without repeats has the pairs of another list in order
pub deduped_prefix_origins : (sorted xs : List (IpPrefix × Option ℕ)) → IsSorted prefix_origin_cmp sorted → IsPermutation xs sorted → dedup prefix_origin_eq sorted ≡ in_order prefix_origin_cmp xs
deduped_prefix_origins = deduped_in_order prefix_origin_total prefix_origin_exact prefix_origin_eq (λ a b. sym (prefix_origin_tied a b))

-- those of one peer
pub seen_at_one : (s : Seat) (pairs : List (IpPrefix × Option ℕ)) → pairs ≡ in_order prefix_origin_cmp (seat_prefix_origins s) → map (λ e. (e, 1)) pairs ≡ seen_among (s ∷ [])
seen_at_one s pairs is = ap (map (λ e. (e, 1))) is ∙ once_counted prefix_origin_total prefix_origin_exact prefix_origin_eq prefix_origin_tied seat_prefix_origins s

-- those of two groups of peers are those of both
pub merged_seen : (xs ys : List Seat) → length xs + length ys < 2 ^ 64 → merged_lists (by_key prefix_origin_cmp) counted_both (seen_among xs) (seen_among ys) ≡ seen_among (xs ++ ys)
merged_seen = merged_counted prefix_origin_total prefix_origin_exact prefix_origin_eq prefix_origin_tied seat_prefix_origins

abbrev pub row_of : (IpPrefix × Option ℕ) × ℕ → SeenRow
row_of e = record { prefix = e.0.0; origin = e.0.1; peers = e.1 }

-- those of all peers, counted, are the rows of the report
pub rows_of_seen : (tables : TablesState) (counts : List ((IpPrefix × Option ℕ) × ℕ)) (seats : List Seat) → counts ≡ seen_among seats → seats ≡ tables.seats
    → map (λ (e : (IpPrefix × Option ℕ) × ℕ). record { prefix = e.0.0; origin = e.0.1; peers = e.1 }) counts ≡ seen_rows tables
rows_of_seen tables counts seats counted all =
    ap (map row_of) (counted ∙ ap seen_among all)
    ∙ sym (map_twice (λ e. (e, seen_of tables e)) row_of (in_order prefix_origin_cmp (flat_map seat_prefix_origins tables.seats)))
