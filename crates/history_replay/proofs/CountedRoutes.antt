-- Chosen routes, counted one after the other.
use Rattle.std.proofs.Common.{◌≡◌, ℕ, ◌+◌, ◌-◌, ◌^◌, ◌<◌, min, Bool, true, false, cond, List, [], ◌∷◌, ◌++◌, length, get_or, take, refl, sym, ap, ◌∙◌, arith, length-append, if◌then◌else◌}
use Rattle.std.specs.List.{filter}
use Rattle.std.proofs.lemmas.List.Elements.{filter-append}
use Rattle.std.proofs.lemmas.Grind.{take_at_read}
use Rattle.bgp_prefix.specs.Keys.{RouteKey}
use Rattle.bgp_update.specs.declared.route.Route.{Route}
use Rattle.route_choice.specs.Choices.{RouteChoice, is_chosen_route}
use Rattle.history_replay.specs.Tellings.{routes_chosen}

-- where each route is chosen, all entries are left
pub all_chosen : (choice : RouteChoice) → ((route : Route) → is_chosen_route choice route ≡ true) → (table : List (RouteKey × Route)) → routes_chosen choice table ≡ table
all_chosen choice all [] = refl
all_chosen choice all (e ∷ table) =
    ap (λ b. cond b (e ∷ routes_chosen choice table) (routes_chosen choice table)) (all e.1)
    ∙ ap (λ (l : List (RouteKey × Route)). e ∷ l) (all_chosen choice all table)

one_more : (b : Bool) (so_far : List (RouteKey × Route)) (e : RouteKey × Route) (count one new : ℕ) → one ≡ (if b then 1 else 0) → count ≡ min (length so_far) (2 ^ 64 - 1) → new ≡ min (count + one) (2 ^ 64 - 1) → new ≡ min (length (so_far ++ cond b (e ∷ []) [])) (2 ^ 64 - 1)
one_more true so_far e count one new by was is = let parts = length-append so_far (e ∷ []) in omega (arith, by, was, is, parts)
one_more false so_far e count one new by was is = let parts = length-append {A = RouteKey × Route} so_far [] in omega (arith, by, was, is, parts)

-- one more entry
pub count_more : (choice : RouteChoice) (entries : List (RouteKey × Route)) (i : ℕ) (e : RouteKey × Route) (count one new : ℕ) (b : Bool) → i < length entries → e ≡ get_or entries i e → b ≡ is_chosen_route choice e.1 → one ≡ (if b then 1 else 0)
    → count ≡ min (length (routes_chosen choice (take i entries))) (2 ^ 64 - 1) → new ≡ min (count + one) (2 ^ 64 - 1) → new ≡ min (length (routes_chosen choice (take (i + 1) entries))) (2 ^ 64 - 1)
count_more choice entries i e count one new b lt read chosen by was is =
    let so_far : List (RouteKey × Route) = routes_chosen choice (take i entries) in
    let more : take (i + 1) entries ≡ take i entries ++ e ∷ [] = (take_at_read entries i e lt).1 ∙ ap (λ (x : RouteKey × Route). take i entries ++ x ∷ []) (sym read) in
    one_more b so_far e count one new by was is
    ∙ ap (λ c. min (length (so_far ++ cond c (e ∷ []) [])) (2 ^ 64 - 1)) chosen
    ∙ ap (λ (l : List (RouteKey × Route)). min (length l) (2 ^ 64 - 1)) (sym (filter-append (λ (x : RouteKey × Route). is_chosen_route choice x.1) (take i entries) (e ∷ [])) ∙ ap (routes_chosen choice) (sym more))
