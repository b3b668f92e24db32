-- The longest match, and the entries of its prefix.
use Rattle.std.proofs.Common.{◌≡◌, ◌≢◌, ℕ, ◌<◌, Bool, true, false, not, cond, ◌&&◌, ◌||◌, ltb, List, [], ◌∷◌, refl, sym, ap, ◌∙◌, get_or, map, arith}
use Rattle.std.specs.Ordering.{eq_by_cmp, is_eq}
use Rattle.std.specs.List.{AllByRecursion, filter, list_all, list_any}
use Rattle.std.specs.FinMap as finite
use Rattle.std.proofs.lemmas.Bool.{le-ltb, lt-ltb, false≢true, and_right}
use Rattle.std.proofs.lemmas.Cmp.{tied_itself}
use Rattle.std.proofs.lemmas.List.Folds.{list_any_at}
use Rattle.bgp_prefix.specs.Prefixes.{IpPrefix, contains, prefix_eq}
use Rattle.bgp_prefix.specs.Keys.{key_cmp}
use Rattle.bgp_prefix.specs.Maps.{IsLongestMatch, HasNoMatch, paths_of}
use Rattle.bgp_prefix.specs.Keys.{RouteKey}
use Rattle.bgp_prefix.proofs.KeyLaws.{key_cmp_total, same_prefix, tied_same}
use Rattle.bgp_update.specs.declared.route.Route.{Route}
use Rattle.peer_units.specs.declared.unit.PeerKey.{PeerKey}
use Rattle.rib_report.specs.Reports.{entry_row, path_row, matches_entry, yields, is_longest}
use Rattle.rib_report.proofs.OriginLaws.{any_map}
use Rattle.rib_report.proofs.VisibilityLaws.{own_itself}
use Rattle.rib_report.proofs.RunLaws.{all_from_index, all_weaker, filter_none}

-- ---- tests of lists

filter_same : {X : Type 0} (p q : X → Bool) (xs : List X) → AllByRecursion (λ x. p x ≡ q x) xs → filter p xs ≡ filter q xs
filter_same p q [] h = refl
filter_same p q (x ∷ xs) h = ap (λ b. cond b (x ∷ filter p xs) (filter p xs)) h.0 ∙ ap (λ l. cond (q x) (x ∷ l) l) (filter_same p q xs h.1)

all_true : {X : Type 0} (g : X → Bool) (xs : List X) → AllByRecursion (λ x. g x ≡ true) xs → list_all g xs ≡ true
all_true g [] h = refl
all_true g (x ∷ xs) h = ap (λ b. b && list_all g xs) h.0 ∙ all_true g xs h.1

-- where one that passes h fails g, not all pass g
not_all : {X : Type 0} (g h : X → Bool) → ((x : X) → h x ≡ true → g x ≡ false) → (xs : List X) → list_any h xs ≡ true → list_all g xs ≡ false
not_all g h fails [] e = absurd (false≢true e)
not_all g h fails (x ∷ xs) e =
    elim (h x) as (λ b. h x ≡ b → (b || list_any h xs) ≡ true → (g x && list_all g xs) ≡ false) [
      | true ↦ λ is _. ap (λ b. b && list_all g xs) (fails x is)
      | false ↦ λ _ later. ap (λ b. g x && b) (not_all g h fails xs later) ∙ and_right (g x) false refl
    ] refl e

-- ---- the entries of a table

abbrev keys : List (RouteKey × Route) → List RouteKey
keys table = map (λ e. e.0) table

abbrev IsHeld : List (RouteKey × Route) → RouteKey → Type 0
IsHeld table k = list_any (eq_by_cmp key_cmp k) (keys table) ≡ true

entries_held : (table : List (RouteKey × Route)) → AllByRecursion (λ e. IsHeld table e.0) table
entries_held table =
    all_from_index (λ e. IsHeld table e.0) table (λ i d h.
    let k = (get_or table i d).0 in
    any_map (eq_by_cmp key_cmp k) (λ (e : RouteKey × Route). e.0) table ∙ list_any_at (λ (e : RouteKey × Route). eq_by_cmp key_cmp k e.0) table i d h (ap is_eq (tied_itself key_cmp_total k)))

-- the prefix p is held and contains the address, and every other held prefix that does is shorter
pub record IsLongest (table : List (RouteKey × Route)) (addr : ℕ) (p : IpPrefix) : Type 0 where
  pub id : ℕ
  pub held : IsHeld table (record { prefix = p; id = id })
  pub matches : contains p addr ≡ true
  pub shorter : (k : RouteKey) → IsHeld table k → contains k.prefix addr ≡ true → k.prefix ≢ p → k.prefix.len < p.len

module _ (table : List (RouteKey × Route)) (addr : ℕ) (p : IpPrefix) (is_longest_prefix : IsLongest table addr p) where
  abbrev has_key : RouteKey × Route → Bool
  has_key e = eq_by_cmp key_cmp (record { prefix = p; id = is_longest_prefix.id }) e.0

  any_key : list_any has_key table ≡ true
  any_key = sym (any_map (eq_by_cmp key_cmp (record { prefix = p; id = is_longest_prefix.id })) (λ (e : RouteKey × Route). e.0) table) ∙ is_longest_prefix.held

  prefix_of_key : (e : RouteKey × Route) → has_key e ≡ true → p ≡ e.0.prefix
  prefix_of_key e h = ap (λ (k : RouteKey). k.prefix) (tied_same (record { prefix = p; id = is_longest_prefix.id }) e.0 h)

  -- every entry yields to one of the longest prefix
  yields_to_longest : (e f : RouteKey × Route) → p ≡ e.0.prefix → IsHeld table f.0 → yields addr e f ≡ true
  yields_to_longest e f is held =
      elim (matches_entry addr f) as (λ m. matches_entry addr f ≡ m → (not m || (prefix_eq e.0.prefix f.0.prefix || ltb f.0.prefix.len e.0.prefix.len)) ≡ true) [
        | false ↦ λ _. refl
        | true ↦ λ m. elim (prefix_eq e.0.prefix f.0.prefix) as (λ b. prefix_eq e.0.prefix f.0.prefix ≡ b → (b || ltb f.0.prefix.len e.0.prefix.len) ≡ true) [
          | true ↦ λ _. refl
          | false ↦ λ other.
              let apart : f.0.prefix ≢ p = λ same. false≢true (sym other ∙ ap (prefix_eq e.0.prefix) (same ∙ is) ∙ own_itself e.0.prefix) in
              let len : f.0.prefix.len < e.0.prefix.len = omega (arith, is_longest_prefix.shorter f.0 held m apart, ap (λ (q : IpPrefix). q.len) is) in
              lt-ltb f.0.prefix.len e.0.prefix.len len
        ] refl
      ] refl

  -- an entry of another prefix that contains the address doesn't yield to each other one
  other_fails : (e f : RouteKey × Route) → e.0.prefix ≢ p → e.0.prefix.len < p.len → has_key f ≡ true → yields addr e f ≡ false
  other_fails e f other short is_key =
      let is = prefix_of_key f is_key in
      let matched : matches_entry addr f ≡ true = ap (λ q. contains q addr) (sym is) ∙ is_longest_prefix.matches in
      let apart : prefix_eq e.0.prefix p ≡ false = elim (prefix_eq e.0.prefix p) as (λ b. prefix_eq e.0.prefix p ≡ b → b ≡ false) [ true ↦ λ same. absurd (other (same_prefix e.0.prefix p same)) | false ↦ λ _. refl ] refl in
      ap (λ m. not m || (prefix_eq e.0.prefix f.0.prefix || ltb f.0.prefix.len e.0.prefix.len)) matched
      ∙ ap (λ (q : IpPrefix). prefix_eq e.0.prefix q || ltb q.len e.0.prefix.len) (sym is)
      ∙ ap (λ b. b || ltb p.len e.0.prefix.len) apart ∙ le-ltb p.len e.0.prefix.len (omega (arith, short))

  same_test : (e : RouteKey × Route) → IsHeld table e.0 → prefix_eq p e.0.prefix ≡ is_longest addr table e
  same_test e held =
      elim (prefix_eq p e.0.prefix) as (λ b. prefix_eq p e.0.prefix ≡ b → b ≡ is_longest addr table e) [
        | true ↦ λ same.
            let is = same_prefix p e.0.prefix same in
            let matched : matches_entry addr e ≡ true = ap (λ q. contains q addr) (sym is) ∙ is_longest_prefix.matches in
            let all = all_true (yields addr e) table (all_weaker (λ f h. yields_to_longest e f is h) table (entries_held table)) in
            sym (ap (λ b. b && list_all (yields addr e) table) matched ∙ all)
        | false ↦ λ other. elim (matches_entry addr e) as (λ m. matches_entry addr e ≡ m → false ≡ (m && list_all (yields addr e) table)) [
          | true ↦ λ m.
              let apart : e.0.prefix ≢ p = λ same. false≢true (sym other ∙ ap (prefix_eq p) same ∙ own_itself p) in
              let short = is_longest_prefix.shorter e.0 held m apart in
              sym (not_all (yields addr e) has_key (λ f is_key. other_fails e f apart short is_key) table any_key)
          | false ↦ λ _. refl
        ] refl
      ] refl

  longest_entries : filter (λ e. prefix_eq p e.0.prefix) table ≡ filter (is_longest addr table) table
  longest_entries = filter_same (λ e. prefix_eq p e.0.prefix) (is_longest addr table) table (all_weaker same_test table (entries_held table))

rows_of_paths : (peer : PeerKey) (p : IpPrefix) (table : List (RouteKey × Route)) → map (path_row peer p) (paths_of p table) ≡ map (entry_row peer) (filter (λ e. prefix_eq p e.0.prefix) table)
rows_of_paths peer p [] = refl
rows_of_paths peer p (e ∷ table) =
    elim (prefix_eq p e.0.prefix) as (λ b. prefix_eq p e.0.prefix ≡ b →
    map (path_row peer p) (map (λ (f : RouteKey × Route). (f.0.id, f.1)) (cond b (e ∷ filter (λ f. prefix_eq p f.0.prefix) table) (filter (λ f. prefix_eq p f.0.prefix) table)))
    ≡ map (entry_row peer) (cond b (e ∷ filter (λ f. prefix_eq p f.0.prefix) table) (filter (λ f. prefix_eq p f.0.prefix) table))) [
      | true ↦ λ same. ap (λ q. record { peer = peer; key = record { prefix = q; id = e.0.id }; route = e.1 } ∷ map (path_row peer p) (paths_of p table)) (same_prefix p e.0.prefix same) ∙ ap (λ l. entry_row peer e ∷ l) (rows_of_paths peer p table)
      | false ↦ λ _. rows_of_paths peer p table
    ] refl

held_is : (m : finite.FinMap key_cmp Route) (table : List (RouteKey × Route)) → finite.entries m ≡ table → (k : RouteKey) → finite.contains_key m k ≡ list_any (eq_by_cmp key_cmp k) (keys table)
held_is m table e k = finite.contains_key-keys m k ∙ ap (λ es. list_any (eq_by_cmp key_cmp k) (keys es)) e

longest_is : (m : finite.FinMap key_cmp Route) (table : List (RouteKey × Route)) (addr : ℕ) (p : IpPrefix) → finite.entries m ≡ table → IsLongestMatch m addr p → IsLongest table addr p
longest_is m table addr p e found = record {
  id = found.held_by.0;
  held = sym (held_is m table e (record { prefix = p; id = found.held_by.0 })) ∙ found.held_by.1;
  matches = found.matches;
  shorter = λ k held matched apart. found.longest k (held_is m table e k ∙ held) matched apart;
}

-- the rows of the longest match
pub match_found : (m : finite.FinMap key_cmp Route) (table : List (RouteKey × Route)) (peer : PeerKey) (addr : ℕ) (p : IpPrefix) → finite.entries m ≡ table → IsLongestMatch m addr p
    → map (path_row peer p) (paths_of p table) ≡ map (entry_row peer) (filter (is_longest addr table) table)
match_found m table peer addr p e found = rows_of_paths peer p table ∙ ap (map (entry_row peer)) (longest_entries table addr p (longest_is m table addr p e found))

-- no row where nothing matches
pub match_none : (m : finite.FinMap key_cmp Route) (table : List (RouteKey × Route)) (peer : PeerKey) (addr : ℕ) → finite.entries m ≡ table → HasNoMatch m addr → map (entry_row peer) (filter (is_longest addr table) table) ≡ []
match_none m table peer addr e none =
    ap (map (entry_row peer)) (filter_none (is_longest addr table) table (all_weaker (λ f held. elim (matches_entry addr f) as (λ b. matches_entry addr f ≡ b → (b && list_all (yields addr f) table) ≡ false) [
      | true ↦ λ matched. absurd (none f.0 (held_is m table e f.0 ∙ held) matched)
      | false ↦ λ _. refl
    ] refl) table (entries_held table)))
