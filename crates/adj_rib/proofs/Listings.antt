-- The entries of a table of numbers, with their routes.
use Rattle.std.proofs.Common.{◌≡◌, ℕ, ◌+◌, ◌<◌, Bool, true, false, cond, List, [], ◌∷◌, ◌++◌, map, length, get_or, take, Option, Some, None, refl, sym, ap, subst, ◌∙◌}
use Rattle.std.specs.Prelude.{IsTrue}
use Rattle.std.specs.Borrow.{Bor}
use Rattle.std.specs.List.{All, filter, fold}
use Rattle.std.specs.Option.{IfSome, IfNone}
use Rattle.std.specs.Cmp.{tied_itself}
use Rattle.std.specs.FinMap as finite
use Rattle.std.proofs.lemmas.List.{get_or_default, get_or-map, length-map, map-append}
use Rattle.std.proofs.lemmas.List.Sums.{fold-append}
use Rattle.std.proofs.lemmas.Grind.{take_at_read}
use Rattle.std.proofs.lemmas.List.Elements.{All-filter, All-map}
use Rattle.std.proofs.lemmas.Simd.{map-map}
use Rattle.bgp_prefix.specs.Prefixes.{IpPrefix, prefix_eq}
use Rattle.bgp_prefix.specs.Keys.{key_cmp}
use Rattle.bgp_prefix.specs.Maps.{IsLongestMatch, HasNoMatch, paths_of}
use Rattle.bgp_prefix.specs.Keys.{RouteKey}
use Rattle.bgp_prefix.proofs.KeyLaws.{key_cmp_total}
use Rattle.bgp_prefix.proofs.SearchLaws.{at_find}
use Rattle.bgp_prefix.proofs.SortedMaps.{scanned_at}
use Rattle.bgp_update.specs.declared.route.Route.{Route}
use Rattle.adj_rib.specs.declared.routes.RouteId.{RouteId}
use Rattle.adj_rib.specs.MappedValues.{mapped_entries, put_entry}
use Rattle.adj_rib.specs.Routes.{IsNamed, route_at, named_routes, AreNamed, ids_now, routes_now}
use Rattle.adj_rib.proofs.MappedValues.{entries-map_values}
use Rattle.adj_rib.proofs.NamedRoutes.{by_id, IsId, had_route}

-- each entry of a map is found
entry_found : {V : Type 0} (m : finite.FinMap key_cmp V) (i : ℕ) (d : RouteKey × V) → i < length (finite.entries m) → finite.get m (get_or (finite.entries m) i d).0 ≡ Some (get_or (finite.entries m) i d).1
entry_found m i d lt =
    let es = finite.entries m in
    let e = get_or es i d in
    finite.get-entries m e.0 ∙ at_find key_cmp key_cmp_total es e.0 i d (finite.entries_sorted m) (scanned_at es e.0 i e lt (get_or_default es i d e lt) (tied_itself key_cmp_total e.0))

-- each number that is listed names a route
pub each_named : (bytes : List ℕ) (ids : finite.FinMap key_cmp RouteId) → AreNamed bytes ids → All (λ e. IsId bytes e.1) (finite.entries ids)
each_named bytes ids h i d lt = subst (λ (o : Option RouteId). IfSome o (IsId bytes)) (entry_found ids i d lt) (h (get_or (finite.entries ids) i d).0)

routes_of_ids : (bytes : List ℕ) (es : List (RouteKey × Bor RouteId)) → routes_now bytes es ≡ mapped_entries (by_id bytes) (ids_now es)
routes_of_ids bytes [] = refl
routes_of_ids bytes (e ∷ es) = ap (λ (rest : List (RouteKey × Route)). (e.0, route_at bytes e.1.now.at) ∷ rest) (routes_of_ids bytes es)

-- the routes of listed numbers are the entries of the table
pub routes_listed : (bytes : List ℕ) (ids : finite.FinMap key_cmp RouteId) (es : List (RouteKey × Bor RouteId)) → ids_now es ≡ finite.entries ids → routes_now bytes es ≡ finite.entries (named_routes bytes ids)
routes_listed bytes ids es e = routes_of_ids bytes es ∙ ap (mapped_entries (by_id bytes)) e ∙ sym (entries-map_values (by_id bytes) ids)

-- what is listed with numbers that all name routes
named_now : {K : Type 0} (bytes : List ℕ) (xs : List (K × RouteId)) (es : List (K × Bor RouteId)) → All (λ x. IsId bytes x.1) xs → map (λ e. (e.0, e.1.now)) es ≡ xs → All (λ e. IsNamed bytes e.1.now.at) es
named_now {K = K} bytes xs es h e i d lt =
    let there : i < length xs = subst (λ (n : ℕ). i < n) (sym (length-map es (λ (x : K × Bor RouteId). (x.0, x.1.now))) ∙ ap length e) lt in
    let same : get_or xs i (d.0, d.1.now) ≡ ((get_or es i d).0, (get_or es i d).1.now) =
    ap (λ (ys : List (K × RouteId)). get_or ys i (d.0, d.1.now)) (sym e) ∙ get_or-map (λ (x : K × Bor RouteId). (x.0, x.1.now)) es i d (d.0, d.1.now) lt in
    subst (λ (x : K × RouteId). IsId bytes x.1) same (h i (d.0, d.1.now) there)

-- a listed number names a route
pub listed_named : (bytes : List ℕ) (ids : finite.FinMap key_cmp RouteId) (es : List (RouteKey × Bor RouteId)) → AreNamed bytes ids → ids_now es ≡ finite.entries ids → All (λ e. IsNamed bytes e.1.now.at) es
listed_named bytes ids es h e = named_now bytes (finite.entries ids) es (each_named bytes ids h) e

-- the same of the keys of a prefix
pub paths_named : (bytes : List ℕ) (ids : finite.FinMap key_cmp RouteId) (p : IpPrefix) (es : List (ℕ × Bor RouteId)) → AreNamed bytes ids → map (λ e. (e.0, e.1.now)) es ≡ paths_of p (finite.entries ids) → All (λ e. IsNamed bytes e.1.now.at) es
paths_named bytes ids p es h e =
    let of_prefix : RouteKey × RouteId → Bool = λ x. prefix_eq p x.0.prefix in
    let kept = All-filter of_prefix (λ x. IsId bytes x.1) (finite.entries ids) (each_named bytes ids h) in
    named_now bytes (paths_of p (finite.entries ids)) es (All-map (λ (x : ℕ × RouteId). IsId bytes x.1) (λ (x : RouteKey × RouteId). (x.0.id, x.1)) (filter of_prefix (finite.entries ids)) kept) e

abbrev valued : {K A B : Type 0} → (A → B) → K × A → K × B
valued f x = (x.0, f x.1)

abbrev identified : {A : Type 0} → RouteKey × A → ℕ × A
identified x = (x.0.id, x.1)

paths_of-mapped : {A B : Type 0} (f : A → B) (p : IpPrefix) (es : List (RouteKey × A)) → map (valued f) (paths_of p es) ≡ paths_of p (mapped_entries f es)
paths_of-mapped f p [] = refl
paths_of-mapped {A = A} {B = B} f p (e ∷ es) =
    let rest = paths_of-mapped f p es in
    elim (prefix_eq p e.0.prefix) as (λ b. map (valued f) (map identified (cond b (e ∷ filter (λ x. prefix_eq p x.0.prefix) es) (filter (λ x. prefix_eq p x.0.prefix) es)))
    ≡ map identified (cond b (valued f e ∷ filter (λ x. prefix_eq p x.0.prefix) (mapped_entries f es)) (filter (λ x. prefix_eq p x.0.prefix) (mapped_entries f es)))) [
      | true ↦ ap (λ (l : List (ℕ × B)). identified (valued f e) ∷ l) rest
      | false ↦ rest
    ]

-- the routes of the keys of a prefix
pub paths_listed : (bytes : List ℕ) (ids : finite.FinMap key_cmp RouteId) (p : IpPrefix) (es : List (ℕ × Bor RouteId)) → map (λ e. (e.0, e.1.now)) es ≡ paths_of p (finite.entries ids) → routes_now bytes es ≡ paths_of p (finite.entries (named_routes bytes ids))
paths_listed bytes ids p es e =
    sym (map-map (valued (by_id bytes)) (λ (x : ℕ × Bor RouteId). (x.0, x.1.now)) es)
    ∙ ap (map (valued (by_id bytes))) e
    ∙ paths_of-mapped (by_id bytes) p (finite.entries ids)
    ∙ ap (paths_of p) (sym (entries-map_values (by_id bytes) ids))

-- the longest match of a table is that of its keys
pub longest_named : (bytes : List ℕ) (ids : finite.FinMap key_cmp RouteId) (addr : ℕ) (p : IpPrefix) → IsLongestMatch ids addr p → IsLongestMatch (named_routes bytes ids) addr p
longest_named bytes ids addr p h = record {
  held_by = (h.held_by.0, subst IsTrue (had_route bytes ids (record { prefix = p; id = h.held_by.0 })) h.held_by.1);
  matches = h.matches;
  longest = λ k held. h.longest k (subst IsTrue (sym (had_route bytes ids k)) held);
}

pub no_match_named : (bytes : List ℕ) (ids : finite.FinMap key_cmp RouteId) (addr : ℕ) → HasNoMatch ids addr → HasNoMatch (named_routes bytes ids) addr
no_match_named bytes ids addr h = λ k held. h k (subst IsTrue (sym (had_route bytes ids k)) held)

pub if_longest : (bytes : List ℕ) (ids : finite.FinMap key_cmp RouteId) (addr : ℕ) (o : Option IpPrefix) → IfSome o (IsLongestMatch ids addr) → IfSome o (IsLongestMatch (named_routes bytes ids) addr)
if_longest bytes ids addr None h = tt
if_longest bytes ids addr (Some p) h = longest_named bytes ids addr p h

pub if_no_match : (bytes : List ℕ) (ids : finite.FinMap key_cmp RouteId) (addr : ℕ) (o : Option IpPrefix) → IfNone o (HasNoMatch ids addr) → IfNone o (HasNoMatch (named_routes bytes ids) addr)
if_no_match bytes ids addr None h = no_match_named bytes ids addr h
if_no_match bytes ids addr (Some p) h = tt

-- one more listed entry, put into a map
pub put_more : (bytes : List ℕ) (es : List (RouteKey × Bor RouteId)) (i : ℕ) (e : RouteKey × Bor RouteId) → i < length es → e ≡ get_or es i e →
    fold put_entry finite.empty (routes_now bytes (take (i + 1) es)) ≡ finite.insert (fold put_entry finite.empty (routes_now bytes (take i es))) e.0 (route_at bytes e.1.now.at)
put_more bytes es i e lt read =
    let more : take (i + 1) es ≡ take i es ++ e ∷ [] = (take_at_read es i e lt).1 ∙ ap (λ (x : RouteKey × Bor RouteId). take i es ++ x ∷ []) (sym read) in
    ap (λ (l : List (RouteKey × Bor RouteId)). fold put_entry finite.empty (routes_now bytes l)) more
    ∙ ap (λ (l : List (RouteKey × Route)). fold put_entry finite.empty l) (map-append (λ (x : RouteKey × Bor RouteId). (x.0, route_at bytes x.1.now.at)) (take i es) (e ∷ []))
    ∙ fold-append put_entry finite.empty (routes_now bytes (take i es)) ((e.0, route_at bytes e.1.now.at) ∷ [])
