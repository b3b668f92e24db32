-- The origin ASes of a prefix and those in its rows of seen.
use Rattle.std.proofs.Common.{◌≡◌, ℕ, ◌+◌, Bool, true, false, cond, ◌||◌, List, [], ◌∷◌, ◌++◌, Option, Some, None, refl, sym, ap, ◌∙◌, map}
use Rattle.std.specs.declared.cmp.Ordering.TheVariants.{Less, Equal}
use Rattle.std.specs.Ordering.{nat_cmp, eq_by_cmp, ordering_then}
use Rattle.std.specs.Option.{option_map}
use Rattle.std.specs.List.{AllByRecursion, cons_option, filter, filter_map, flat_map, list_any}
use Rattle.std.specs.List.Sorted.{IsStrictlySortedBy}
use Rattle.std.proofs.lemmas.Cmp.{nat_cmp_total, tied_itself}
use Rattle.std.proofs.lemmas.List.{map-append}
use Rattle.std.proofs.lemmas.List.Elements.{filter-append, filter_map-append}
use Rattle.std.proofs.lemmas.Map.Lookups.{exact_unsigned}
use Rattle.bgp_prefix.specs.Prefixes.{IpPrefix, prefix_cmp, prefix_eq}
use Rattle.bgp_prefix.specs.Ordered.{in_order}
use Rattle.bgp_prefix.specs.Keys.{RouteKey}
use Rattle.bgp_prefix.proofs.KeyLaws.{prefix_cmp_total, same_prefix}
use Rattle.bgp_update.specs.declared.route.Route.{Route}
use Rattle.peer_tables.specs.Tables.{Seat, TablesState}
use Rattle.rib_report.specs.Plain.{SeenRow}
use Rattle.rib_report.specs.Reports.{route_origin, origin_pair, seat_origins, origins_of, origin_cmp, prefix_origin_cmp, prefix_origin, seat_prefix_origins, seen_of, seen_rows}
use Rattle.report_laws.specs.Parts.{origins_seen}
use Rattle.rib_report.proofs.OrderLaws.{any_in_order, in_order_rises, in_order_same, rising}
use Rattle.rib_report.proofs.SeenLaws.{prefix_origin_total, prefix_origin_exact, row_of}

-- the origin AS, if the prefix is this one
abbrev kept : IpPrefix → IpPrefix × Option ℕ → Option ℕ
kept p e = cond (prefix_eq p e.0) e.1 None

kept_parts : (b : Bool) (o : Option ℕ) (n : ℕ) → cond b o None ≡ Some n → (b ≡ true) × (o ≡ Some n)
kept_parts true o n h = (refl, h)
kept_parts false o n h = absurd cc

less_kept : (p : IpPrefix) (x y : IpPrefix × Option ℕ) (m n : ℕ) → kept p x ≡ Some m → kept p y ≡ Some n → prefix_origin_cmp x y ≡ Less → nat_cmp m n ≡ Less
less_kept p x y m n in_x in_y less =
    let first = kept_parts (prefix_eq p x.0) x.1 m in_x in
    let second = kept_parts (prefix_eq p y.0) y.1 n in_y in
    let same : y.0 ≡ x.0 = sym (same_prefix p y.0 second.0) ∙ same_prefix p x.0 first.0 in
    let tied : prefix_cmp x.0 y.0 ≡ Equal = ap (prefix_cmp x.0) same ∙ tied_itself prefix_cmp_total x.0 in
    ap (λ o. origin_cmp o (Some n)) (sym first.1) ∙ ap (origin_cmp x.1) (sym second.1) ∙ ap (λ r. ordering_then r (origin_cmp x.1 y.1)) (sym tied) ∙ less

above_kept : (p : IpPrefix) (x : IpPrefix × Option ℕ) (m : ℕ) → kept p x ≡ Some m → (ys : List (IpPrefix × Option ℕ)) → AllByRecursion (λ y. prefix_origin_cmp x y ≡ Less) ys → AllByRecursion (λ n. nat_cmp m n ≡ Less) (filter_map (kept p) ys)
above_kept p x m in_x [] h = tt
above_kept p x m in_x (y ∷ ys) h =
    elim (kept p y) as (λ o. kept p y ≡ o → AllByRecursion (λ n. nat_cmp m n ≡ Less) (cons_option o (filter_map (kept p) ys))) [
      | Some n ↦ λ in_y. (less_kept p x y m n in_x in_y h.0, above_kept p x m in_x ys h.1)
      | None ↦ λ _. above_kept p x m in_x ys h.1
    ] refl

-- in order they ascend
kept_rise : (p : IpPrefix) (xs : List (IpPrefix × Option ℕ)) → IsStrictlySortedBy prefix_origin_cmp xs → IsStrictlySortedBy nat_cmp (filter_map (kept p) xs)
unfolding IsStrictlySortedBy
kept_rise p [] h = tt
kept_rise p (x ∷ xs) h =
    elim (kept p x) as (λ o. kept p x ≡ o → IsStrictlySortedBy nat_cmp (cons_option o (filter_map (kept p) xs))) [
      | Some m ↦ λ in_x. (above_kept p x m in_x xs h.0, kept_rise p xs h.1)
      | None ↦ λ _. kept_rise p xs h.1
    ] refl

abbrev holds : (ℕ → Bool) → Option ℕ → Bool
holds f None = false
holds f (Some n) = f n

any_kept : (f : ℕ → Bool) (p : IpPrefix) (xs : List (IpPrefix × Option ℕ)) → list_any f (filter_map (kept p) xs) ≡ list_any (λ e. holds f (kept p e)) xs
any_kept f p [] = refl
any_kept f p (x ∷ xs) =
    elim (kept p x) as (λ o. list_any f (cons_option o (filter_map (kept p) xs)) ≡ (holds f o || list_any (λ e. holds f (kept p e)) xs)) [
      | Some n ↦ ap (λ b. f n || b) (any_kept f p xs)
      | None ↦ any_kept f p xs
    ]

kept_in_order : (p : IpPrefix) (xs : List (IpPrefix × Option ℕ)) → in_order nat_cmp (filter_map (kept p) xs) ≡ filter_map (kept p) (in_order prefix_origin_cmp xs)
kept_in_order p xs =
    let ordered = in_order prefix_origin_cmp xs in
    in_order_same nat_cmp_total exact_unsigned (filter_map (kept p) xs) (filter_map (kept p) ordered)
    (λ q. any_kept (eq_by_cmp nat_cmp q) p xs
    ∙ sym (any_in_order prefix_origin_total prefix_origin_exact (λ e. holds (eq_by_cmp nat_cmp q) (kept p e)) xs)
    ∙ sym (any_kept (eq_by_cmp nat_cmp q) p ordered))
    ∙ rising nat_cmp_total exact_unsigned (filter_map (kept p) ordered) (kept_rise p ordered (in_order_rises prefix_origin_total prefix_origin_exact xs))

abbrev own : IpPrefix → IpPrefix × ℕ → Bool
own p e = prefix_eq p e.0

abbrev numbers : List (IpPrefix × ℕ) → List ℕ
numbers pairs = map (λ e. e.1) pairs

-- in one table
kept_of_table : (p : IpPrefix) (es : List (RouteKey × Route)) → filter_map (kept p) (map prefix_origin es) ≡ numbers (filter (own p) (filter_map origin_pair es))
kept_of_table p [] = refl
kept_of_table p (e ∷ es) =
    let rest = filter_map (kept p) (map prefix_origin es) in
    let pairs = filter_map origin_pair es in
    elim (route_origin e.1) as (λ o. cons_option (cond (prefix_eq p e.0.prefix) o None) rest ≡ numbers (filter (own p) (cons_option (option_map (λ origin. (e.0.prefix, origin)) o) pairs))) [
      | Some n ↦ elim (prefix_eq p e.0.prefix) as (λ b. cons_option (cond b (Some n) None) rest ≡ numbers (cond b ((e.0.prefix, n) ∷ filter (own p) pairs) (filter (own p) pairs))) [
        | true ↦ ap (λ l. n ∷ l) (kept_of_table p es)
        | false ↦ kept_of_table p es
      ]
      | None ↦ elim (prefix_eq p e.0.prefix) as (λ b. cons_option (cond b None None) rest ≡ numbers (filter (own p) pairs)) [ true ↦ kept_of_table p es | false ↦ kept_of_table p es ]
    ]

-- in all tables
kept_of_seats : (p : IpPrefix) (seats : List Seat) → filter_map (kept p) (flat_map seat_prefix_origins seats) ≡ numbers (filter (own p) (flat_map seat_origins seats))
kept_of_seats p [] = refl
kept_of_seats p (s ∷ seats) =
    let rest = flat_map seat_origins seats in
    filter_map-append (kept p) (seat_prefix_origins s) (flat_map seat_prefix_origins seats)
    ∙ ap (λ l. l ++ filter_map (kept p) (flat_map seat_prefix_origins seats)) (kept_of_table p s.session.table)
    ∙ ap (λ l. numbers (filter (own p) (seat_origins s)) ++ l) (kept_of_seats p seats)
    ∙ sym (map-append (λ (e : IpPrefix × ℕ). e.1) (filter (own p) (seat_origins s)) (filter (own p) rest))
    ∙ ap numbers (sym (filter-append (own p) (seat_origins s) rest))

-- in rows
kept_of_rows : (p : IpPrefix) (count : IpPrefix × Option ℕ → ℕ) (xs : List (IpPrefix × Option ℕ)) → filter_map (kept p) xs ≡ origins_seen (map (λ e. row_of (e, count e)) xs) p
kept_of_rows p count [] = refl
kept_of_rows p count (x ∷ xs) =
    let rest = map (λ e. row_of (e, count e)) xs in
    let shown = filter (λ (row : SeenRow). prefix_eq p row.prefix) rest in
    elim (prefix_eq p x.0) as (λ b. cons_option (cond b x.1 None) (filter_map (kept p) xs) ≡ filter_map (λ (row : SeenRow). row.origin) (cond b (row_of (x, count x) ∷ shown) shown)) [
      | true ↦ ap (cons_option x.1) (kept_of_rows p count xs)
      | false ↦ kept_of_rows p count xs
    ]

-- the origin ASes of a prefix are those in its rows
pub origins_are_seen : (tables : TablesState) (p : IpPrefix) → origins_of tables p ≡ origins_seen (seen_rows tables) p
origins_are_seen tables p =
    let all = flat_map seat_prefix_origins tables.seats in
    ap (in_order nat_cmp) (sym (kept_of_seats p tables.seats)) ∙ kept_in_order p all ∙ kept_of_rows p (seen_of tables) (in_order prefix_origin_cmp all)
