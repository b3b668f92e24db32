-- The table is the set of the pairs that hold, and each step changes it as a map.
use Rattle.std.proofs.Common.{◌≡◌, Bool, true, false, cond, ◌||◌, List, [], ◌∷◌, ◌++◌, Option, Some, None, T, refl, sym, ap, ◌∙◌}
use Rattle.std.specs.Prelude.{unwrap_or}
use Rattle.std.specs.List.{filter_map, cons_option, last_or, list_any}
use Rattle.std.specs.FinMap as finite
use Rattle.std.specs.FinMap.Entries.{find, is_sorted, same_entries}
use Rattle.std.specs.Ordering.{eq_by_cmp}
use Rattle.std.proofs.lemmas.List.Elements.{filter_map-append}
use Rattle.bgp_prefix.specs.Keys.{key_cmp, key_eq}
use Rattle.bgp_prefix.specs.Keys.{RouteKey}
use Rattle.bgp_prefix.proofs.KeyLaws.{key_cmp_total, key_cmp_exact, tied_same}
use Rattle.bgp_prefix.proofs.KeySearches.{key_tied}
use Rattle.bgp_prefix.proofs.OrderedLaws.{is_sorted-tabulated, find-tabulated}
use Rattle.bgp_update.specs.declared.route.Route.{Route}
use Rattle.adj_rib.specs.Steps.{Step, break, clear, announce, withdraw}
use Rattle.adj_rib.specs.Tables.{said_of, route_at, IsTable, announced_key, table_of}

pub last_or-append : {A : Type 0} (o : Option A) (xs ys : List A) → last_or o (xs ++ ys) ≡ last_or (last_or o xs) ys
last_or-append o [] ys = refl
last_or-append o (x ∷ xs) ys = last_or-append (Some x) xs ys

with_said : {A : Type 0} (said : Option (Option A)) (o : Option (Option A)) → unwrap_or (last_or o (cons_option said [])) None ≡ unwrap_or said (unwrap_or o None)
with_said None o = refl
with_said (Some x) o = refl

-- the route of a key after one more step
pub route_at-push : (steps : List Step) (step : Step) (p : RouteKey) → route_at (steps ++ step ∷ []) p ≡ unwrap_or (said_of p step) (route_at steps p)
route_at-push steps step p =
    ap (λ said. unwrap_or (last_or None said) None) (filter_map-append (said_of p) steps (step ∷ []))
    ∙ ap (λ said. unwrap_or said None) (last_or-append None (filter_map (said_of p) steps) (cons_option (said_of p step) []))
    ∙ with_said (said_of p step) (last_or None (filter_map (said_of p) steps))

chosen : {A : Type 0} (b : Bool) (x y z : Option A) → y ≡ z → cond b x y ≡ unwrap_or (cond b (Some x) None) z
chosen true x y z e = refl
chosen false x y z e = e

-- the steps of a break, a clear, an announcement and a withdrawal, on a map that is the table
pub IsTable_start : IsTable [] finite.empty
IsTable_start p = finite.get-empty key_cmp p

pub IsTable_break : (steps : List Step) → IsTable (steps ++ break ∷ []) finite.empty
IsTable_break steps p = finite.get-empty key_cmp p ∙ sym (route_at-push steps break p)

pub IsTable_clear : (steps : List Step) → IsTable (steps ++ clear ∷ []) finite.empty
IsTable_clear steps p = finite.get-empty key_cmp p ∙ sym (route_at-push steps clear p)

pub IsTable_announce : (steps : List Step) (table : finite.FinMap key_cmp Route) (p : RouteKey) (route : Route) → IsTable steps table → IsTable (steps ++ announce p route ∷ []) (finite.insert table p route)
IsTable_announce steps table p route h q =
    finite.get-insert key_cmp_total table p route q
    ∙ ap (λ b. cond b (Some route) (finite.get table q)) (key_tied q p)
    ∙ chosen (key_eq q p) (Some route) (finite.get table q) (route_at steps q) (h q)
    ∙ sym (route_at-push steps (announce p route) q)

pub IsTable_withdraw : (steps : List Step) (table : finite.FinMap key_cmp Route) (p : RouteKey) → IsTable steps table → IsTable (steps ++ withdraw p ∷ []) (finite.remove table p)
IsTable_withdraw steps table p h q =
    finite.get-remove key_cmp_total table p q
    ∙ ap (λ b. cond b None (finite.get table q)) (key_tied q p)
    ∙ chosen (key_eq q p) None (finite.get table q) (route_at steps q) (h q)
    ∙ sym (route_at-push steps (withdraw p) q)

-- ---- the table as entries

-- where no announcement names q, what the steps say of it is that it has no route
none_unless_announced : (q : RouteKey) (steps : List Step) (o : Option (Option Route)) → unwrap_or o None ≡ None → list_any (eq_by_cmp key_cmp q) (filter_map announced_key steps) ≡ false → unwrap_or (last_or o (filter_map (said_of q) steps)) None ≡ None
none_unless_announced q [] o e h = e
none_unless_announced q (break ∷ steps) o e h = none_unless_announced q steps (Some None) refl h
none_unless_announced q (clear ∷ steps) o e h = none_unless_announced q steps (Some None) refl h
none_unless_announced q (withdraw p ∷ steps) o e h =
    elim (key_eq q p) as (λ b. unwrap_or (last_or o (cons_option (cond b (Some None) None) (filter_map (said_of q) steps))) None ≡ None) [
      | true ↦ none_unless_announced q steps (Some None) refl h
      | false ↦ none_unless_announced q steps o e h
    ]
none_unless_announced q (announce p route ∷ steps) o e h =
    elim (key_eq q p) as (λ b. key_eq q p ≡ b → (b || list_any (eq_by_cmp key_cmp q) (filter_map announced_key steps)) ≡ false → unwrap_or (last_or o (cons_option (cond b (Some (Some route)) None) (filter_map (said_of q) steps))) None ≡ None) [
      | true ↦ λ t g. absurd cc
      | false ↦ λ t g. none_unless_announced q steps o e g
    ] refl (ap (λ b. b || list_any (eq_by_cmp key_cmp q) (filter_map announced_key steps)) (sym (key_tied q p)) ∙ h)

same_route_at : (steps : List Step) (q k : RouteKey) → eq_by_cmp key_cmp q k ≡ true → route_at steps k ≡ route_at steps q
same_route_at steps q k h = ap (route_at steps) (sym (tied_same q k h))

-- what the entries have at a key
pub find-table_of : (steps : List Step) (q : RouteKey) → find key_cmp q (table_of steps) ≡ route_at steps q
unfolding table_of
find-table_of steps q =
    find-tabulated key_cmp_total (route_at steps) (same_route_at steps) q (filter_map announced_key steps)
    ∙ elim (list_any (eq_by_cmp key_cmp q) (filter_map announced_key steps)) as (λ b. list_any (eq_by_cmp key_cmp q) (filter_map announced_key steps) ≡ b → cond b (route_at steps q) None ≡ route_at steps q) [
      | true ↦ λ e. refl
      | false ↦ λ e. sym (none_unless_announced q steps None refl e)
    ] refl

pub is_sorted-table_of : (steps : List Step) → T (is_sorted key_cmp (table_of steps))
unfolding table_of
is_sorted-table_of steps = is_sorted-tabulated key_cmp_total (route_at steps) (filter_map announced_key steps)

-- a map that is the table has its entries
pub entries-IsTable : (steps : List Step) (table : finite.FinMap key_cmp Route) → IsTable steps table → finite.entries table ≡ table_of steps
unfolding table_of
entries-IsTable steps table h =
    same_entries key_cmp key_cmp_total key_cmp_exact (finite.entries table) (table_of steps) (finite.entries_sorted table) (is_sorted-table_of steps)
    (λ q. sym (finite.get-entries table q) ∙ h q ∙ sym (find-table_of steps q))
