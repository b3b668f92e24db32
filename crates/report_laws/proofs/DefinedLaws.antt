-- What the rows of visibility, of seen and of origins say.
use Rattle.std.proofs.Common.{◌≡◌, ℕ, ◌≤◌, Bool, true, false, cond, ◌||◌, List, [], ◌∷◌, Option, Some, None, refl, sym, ap, ◌∙◌, subst, length, map, arith}
use Rattle.std.specs.Prelude.{IsTrue, nat_le}
use Rattle.std.specs.Ordering.{eq_by_cmp, nat_cmp}
use Rattle.std.specs.List.{flat_map, filter, list_any}
use Rattle.std.specs.FinMap.Entries.{find, is_sorted, find-where_key, is_sorted-where_key}
use Rattle.std.proofs.lemmas.Bool.{leb-true, le-leb}
use Rattle.bgp_prefix.specs.Prefixes.{IpPrefix, prefix_cmp, prefix_eq}
use Rattle.bgp_prefix.specs.Ordered.{tabulated, in_order}
use Rattle.bgp_prefix.proofs.KeyLaws.{prefix_cmp_total, prefix_cmp_exact, prefix_tied}
use Rattle.bgp_prefix.proofs.OrderedLaws.{is_sorted-tabulated}
use Rattle.peer_tables.specs.Tables.{TablesState}
use Rattle.rib_report.specs.Rows.{visibility_pair, origins_pair, seen_pair}
use Rattle.rib_report.specs.Reports.{table_prefixes, visibility_of, visible_among, visibility_rows, seat_prefix_origins, prefix_origin_cmp, seen_of, seen_among, seen_rows, table_origins, origins_among, origins_of, grouped_origins, origin_rows}
use Rattle.peer_tables.proofs.RowLaws.{map_twice}
use Rattle.rib_report.proofs.RunLaws.{set_of, filter-map}
use Rattle.rib_report.proofs.CountLaws.{true_of}
use Rattle.rib_report.proofs.MergeLaws.{find_valued, valued_set}

-- ---- visibility and seen

pub visibility_is : (tables : TablesState) → map visibility_pair (visibility_rows tables) ≡ visible_among tables.seats
visibility_is tables = sym (map_twice (λ p. record { prefix = p; peers = visibility_of tables p }) visibility_pair (in_order prefix_cmp (table_prefixes tables)))

pub seen_is : (tables : TablesState) → map seen_pair (seen_rows tables) ≡ seen_among tables.seats
seen_is tables =
    sym (map_twice (λ (e : IpPrefix × Option ℕ). record { prefix = e.0; origin = e.1; peers = seen_of tables e }) seen_pair (in_order prefix_origin_cmp (flat_map seat_prefix_origins tables.seats)))

-- ---- origins

abbrev all_prefixes : TablesState → List IpPrefix
all_prefixes tables = map (λ e. e.0) (table_origins tables)

abbrev is_kept : TablesState → IpPrefix → Bool
is_kept tables p = nat_le 2 (length (origins_of tables p))

abbrev all_pairs : TablesState → List (IpPrefix × List ℕ)
all_pairs tables = tabulated prefix_cmp (λ p. Some (origins_of tables p)) (all_prefixes tables)

pairs_are : (tables : TablesState) → map origins_pair (origin_rows tables) ≡ filter (λ (e : IpPrefix × List ℕ). is_kept tables e.0) (all_pairs tables)
pairs_are tables =
    let set = set_of prefix_cmp (all_prefixes tables) in
    let plain : map origins_pair (grouped_origins (table_origins tables)) ≡ map (λ (e : IpPrefix × Unit {0}). (e.0, origins_of tables e.0)) set =
    sym (map_twice (origins_among (table_origins tables)) origins_pair (in_order prefix_cmp (all_prefixes tables)))
    ∙ sym (map_twice (λ (e : IpPrefix × Unit {0}). e.0) (λ p. (p, origins_of tables p)) set) in
    sym (filter-map (λ (e : IpPrefix × List ℕ). nat_le 2 (length e.1)) origins_pair (grouped_origins (table_origins tables)))
    ∙ ap (filter (λ (e : IpPrefix × List ℕ). nat_le 2 (length e.1))) plain
    ∙ filter-map (λ (e : IpPrefix × List ℕ). nat_le 2 (length e.1)) (λ (e : IpPrefix × Unit {0}). (e.0, origins_of tables e.0)) set
    ∙ sym (filter-map (λ (e : IpPrefix × List ℕ). is_kept tables e.0) (λ (e : IpPrefix × Unit {0}). (e.0, origins_of tables e.0)) set)
    ∙ ap (filter (λ (e : IpPrefix × List ℕ). is_kept tables e.0)) (valued_set prefix_cmp_exact (origins_of tables) (all_prefixes tables))

origins_found : (tables : TablesState) (p : IpPrefix)
    → find prefix_cmp p (map origins_pair (origin_rows tables)) ≡ cond (is_kept tables p) (cond (list_any (eq_by_cmp prefix_cmp p) (all_prefixes tables)) (Some (origins_of tables p)) None) None
origins_found tables p =
    ap (find prefix_cmp p) (pairs_are tables)
    ∙ find-where_key prefix_cmp (is_kept tables) p (λ q h. ap (is_kept tables) (sym (prefix_cmp_exact p q h))) (all_pairs tables)
    ∙ ap (λ o. cond (is_kept tables p) o None) (find_valued prefix_cmp_exact (origins_of tables) prefix_cmp_total p (all_prefixes tables))

kept_where : (kept shown : Bool) (found origins : List ℕ) → (kept ≡ true → 2 ≤ length found) → cond kept (cond shown (Some found) None) None ≡ Some origins → (found ≡ origins) × (2 ≤ length origins)
kept_where true true found origins low e =
    let same : found ≡ origins = cc in
    let least : 2 ≤ length found = low refl in
    (same, subst (λ l. 2 ≤ length l) same least)
kept_where true false found origins low e = absurd cc
kept_where false shown found origins low e = absurd cc

pub origins_from_row : (tables : TablesState) (p : IpPrefix) (origins : List ℕ) → find prefix_cmp p (map origins_pair (origin_rows tables)) ≡ Some origins → (origins_of tables p ≡ origins) × (2 ≤ length origins)
origins_from_row tables p origins e =
    kept_where (is_kept tables p) (list_any (eq_by_cmp prefix_cmp p) (all_prefixes tables)) (origins_of tables p) origins (leb-true 2 (length (origins_of tables p))) (sym (origins_found tables p) ∙ e)

-- a prefix without any pair has no origin
none_of_prefix : (p : IpPrefix) (pairs : List (IpPrefix × ℕ)) → list_any (prefix_eq p) (map (λ e. e.0) pairs) ≡ false → filter (λ e. prefix_eq p e.0) pairs ≡ []
none_of_prefix p [] h = refl
none_of_prefix p (e ∷ pairs) h =
    elim (prefix_eq p e.0) as (λ b. (b || list_any (prefix_eq p) (map (λ e. e.0) pairs)) ≡ false → cond b (e ∷ filter (λ e. prefix_eq p e.0) pairs) (filter (λ e. prefix_eq p e.0) pairs) ≡ []) [
      | true ↦ λ k. absurd cc
      | false ↦ λ k. none_of_prefix p pairs k
    ] h

shown_where : (tables : TablesState) (p : IpPrefix) (shown : Bool) → list_any (prefix_eq p) (all_prefixes tables) ≡ shown → 2 ≤ length (origins_of tables p) → shown ≡ true
shown_where tables p true e h = refl
shown_where tables p false e h =
    let none : origins_of tables p ≡ [] = ap (λ pairs. in_order nat_cmp (map (λ e. e.1) pairs)) (none_of_prefix p (table_origins tables) e) in
    absurd (omega (arith, h, ap length none))

pub row_from_origins : (tables : TablesState) (p : IpPrefix) (origins : List ℕ) → (origins_of tables p ≡ origins) × (2 ≤ length origins) → find prefix_cmp p (map origins_pair (origin_rows tables)) ≡ Some origins
row_from_origins tables p origins h =
    let low : 2 ≤ length (origins_of tables p) = subst (λ l. 2 ≤ length l) (sym h.0) h.1 in
    let shown = (λ i. list_any (λ q. prefix_tied p q i) (all_prefixes tables)) ∙ shown_where tables p (list_any (prefix_eq p) (all_prefixes tables)) refl low in
    origins_found tables p ∙ ap (λ b. cond b (cond (list_any (eq_by_cmp prefix_cmp p) (all_prefixes tables)) (Some (origins_of tables p)) None) None) (le-leb 2 (length (origins_of tables p)) low)
    ∙ ap (λ b. cond b (Some (origins_of tables p)) None) shown ∙ ap Some h.0

pub origins_sorted : (tables : TablesState) → IsTrue (is_sorted prefix_cmp (map origins_pair (origin_rows tables)))
origins_sorted tables = subst (λ es. IsTrue (is_sorted prefix_cmp es)) (sym (pairs_are tables))
    (true_of _ (is_sorted-where_key prefix_cmp (is_kept tables) (all_pairs tables) (is_sorted-tabulated prefix_cmp_total (λ p. Some (origins_of tables p)) (all_prefixes tables))))
