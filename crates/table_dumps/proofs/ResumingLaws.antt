-- Units go on alike from beginnings that leave a peer alike, and a peer that isn't up has no route.
use Rattle.std.proofs.Common.{◌≡◌, Bool, true, false, cond, not, ◌&&◌, eqb, List, [], ◌∷◌, ◌++◌, Option, None, Result, Ok, Err, refl, sym, ap, ◌∙◌, append_assoc, append-nil}
use Rattle.std.specs.Prelude.{unwrap_or}
use Rattle.std.specs.List.{filter_map, last_or}
use Rattle.std.specs.FinMap.Entries.{find, same_entries}
use Rattle.mrt_frame.specs.declared.fault.Fault.{Fault}
use Rattle.mrt_frame.specs.Positions.{flat_map_after}
use Rattle.bgp_prefix.specs.Keys.{RouteKey, key_cmp}
use Rattle.bgp_prefix.proofs.KeyLaws.{key_cmp_total, key_cmp_exact}
use Rattle.bgp_update.specs.declared.route.Route.{Route}
use Rattle.peer_units.specs.declared.state_rule.StateRule.TheVariants.{Recorded, Established}
use Rattle.peer_units.specs.declared.unit.Payload.TheVariants.{Clear}
use Rattle.peer_units.specs.declared.meaning.Event.TheVariants as event
use Rattle.peer_units.specs.Plain.{Event, Payload, Unit as ReplayUnit}
use Rattle.peer_units.specs.Events.{event_in}
use Rattle.peer_units.specs.States.{ESTABLISHED}
use Rattle.adj_rib.specs.Applied.{up_after, established_after}
use Rattle.adj_rib.specs.Churns.{reading_of}
use Rattle.adj_rib.specs.Steps.{Step, break, clear, is_up, is_established, reading_steps, unit_steps, steps_of}
use Rattle.adj_rib.specs.Tables.{said_of, route_at, table_of}
use Rattle.adj_rib.proofs.After.{steps_of-push}
use Rattle.adj_rib.proofs.Positions.{after_both}
use Rattle.adj_rib.proofs.Taking.{is_up-push, is_established-push}
use Rattle.adj_rib.proofs.TableLaws.{last_or-append, route_at-push, find-table_of, is_sorted-table_of}
use Rattle.std.proofs.lemmas.List.Elements.{filter_map-append}
use Rattle.table_dumps.specs.Resuming.{LeaveAlike}

abbrev steps_after : List ReplayUnit → List ReplayUnit → List Step
steps_after before units = flat_map_after (λ b unit. unit_steps (is_up b) unit) before units

-- ---- units go on

up_more : (units others more : List ReplayUnit) → is_up units ≡ is_up others → is_up (units ++ more) ≡ is_up (others ++ more)
up_more units others [] e = ap is_up (append-nil units) ∙ e ∙ sym (ap is_up (append-nil others))
up_more units others (u ∷ more) e =
    ap is_up (sym (append_assoc units (u ∷ []) more))
    ∙ up_more (units ++ u ∷ []) (others ++ u ∷ []) more (is_up-push units u ∙ ap (λ (b : Bool). up_after b (reading_of u)) e ∙ sym (is_up-push others u))
    ∙ ap is_up (append_assoc others (u ∷ []) more)

established_more : (units others more : List ReplayUnit) → is_established units ≡ is_established others → is_established (units ++ more) ≡ is_established (others ++ more)
established_more units others [] e = ap is_established (append-nil units) ∙ e ∙ sym (ap is_established (append-nil others))
established_more units others (u ∷ more) e =
    ap is_established (sym (append_assoc units (u ∷ []) more))
    ∙ established_more (units ++ u ∷ []) (others ++ u ∷ []) more (is_established-push units u ∙ ap (λ (b : Bool). established_after b (reading_of u)) e ∙ sym (is_established-push others u))
    ∙ ap is_established (append_assoc others (u ∷ []) more)

steps_more : (units others more : List ReplayUnit) → is_up units ≡ is_up others → steps_after units more ≡ steps_after others more
steps_more units others [] e = refl
steps_more units others (u ∷ more) e =
    let next : is_up (units ++ u ∷ []) ≡ is_up (others ++ u ∷ []) = is_up-push units u ∙ ap (λ (b : Bool). up_after b (reading_of u)) e ∙ sym (is_up-push others u) in
    λ i. unit_steps (e i) u ++ steps_more (units ++ u ∷ []) (others ++ u ∷ []) more next i

steps_both : (units more : List ReplayUnit) → steps_of (units ++ more) ≡ steps_of units ++ steps_after units more
unfolding steps_of
steps_both units more = after_both (λ b unit. unit_steps (is_up b) unit) [] units more

-- what is said last, beside what was said before
last_beside : (xs : List (Option Route)) (o p : Option (Option Route)) → unwrap_or o None ≡ unwrap_or p None → unwrap_or (last_or o xs) None ≡ unwrap_or (last_or p xs) None
last_beside [] o p e = e
last_beside (x ∷ xs) o p e = refl

route_both : (steps more : List Step) (k : RouteKey) → route_at (steps ++ more) k ≡ unwrap_or (last_or (last_or None (filter_map (said_of k) steps)) (filter_map (said_of k) more)) None
route_both steps more k =
    ap (λ (said : List (Option Route)). unwrap_or (last_or None said) None) (filter_map-append (said_of k) steps more)
    ∙ ap (λ (o : Option (Option Route)). unwrap_or o None) (last_or-append None (filter_map (said_of k) steps) (filter_map (said_of k) more))

table_same : (steps others : List Step) → ((k : RouteKey) → route_at steps k ≡ route_at others k) → table_of steps ≡ table_of others
table_same steps others same =
    same_entries key_cmp key_cmp_total key_cmp_exact (table_of steps) (table_of others) (is_sorted-table_of steps) (is_sorted-table_of others) (λ k. find-table_of steps k ∙ same k ∙ sym (find-table_of others k))

table_more : (units others more : List ReplayUnit) → is_up units ≡ is_up others → table_of (steps_of units) ≡ table_of (steps_of others) → table_of (steps_of (units ++ more)) ≡ table_of (steps_of (others ++ more))
table_more units others more up e = table_same (steps_of (units ++ more)) (steps_of (others ++ more)) same
  where
    before : (k : RouteKey) → route_at (steps_of units) k ≡ route_at (steps_of others) k
    before k = sym (find-table_of (steps_of units) k) ∙ ap (find key_cmp k) e ∙ find-table_of (steps_of others) k

    same : (k : RouteKey) → route_at (steps_of (units ++ more)) k ≡ route_at (steps_of (others ++ more)) k
    same k =
        ap (λ (steps : List Step). route_at steps k) (steps_both units more)
        ∙ route_both (steps_of units) (steps_after units more) k
        ∙ last_beside (filter_map (said_of k) (steps_after units more)) (last_or None (filter_map (said_of k) (steps_of units))) (last_or None (filter_map (said_of k) (steps_of others))) (before k)
        ∙ ap (λ (steps : List Step). unwrap_or (last_or (last_or None (filter_map (said_of k) (steps_of others))) (filter_map (said_of k) steps)) None) (steps_more units others more up)
        ∙ sym (route_both (steps_of others) (steps_after others more) k)
        ∙ ap (λ (steps : List Step). route_at steps k) (sym (steps_both others more))

pub go_on_alike : (units others more : List ReplayUnit) → LeaveAlike units others → LeaveAlike (units ++ more) (others ++ more)
go_on_alike units others more h = record {
  up = up_more units others more h.up;
  established = established_more units others more h.established;
  table = table_more units others more h.up h.table;
}

-- ---- no route

no_route : (up : Bool) (r : Result Event Fault) (steps : List Step) (k : RouteKey) → up_after up r ≡ false → (up ≡ false → route_at steps k ≡ None) → route_at (steps ++ reading_steps up r) k ≡ None
no_route up (Err fault) steps k down h = ap (λ (s : List Step). route_at s k) (append-nil steps) ∙ h down
no_route up (Ok (event.State old new Established)) steps k down h = absurd cc
no_route up (Ok (event.State old new Recorded)) steps k down h =
    ap (λ (b : Bool). route_at (steps ++ cond (not (eqb old ESTABLISHED && b)) (break ∷ []) []) k) down ∙ by_old (eqb old ESTABLISHED)
  where
    by_old : (b : Bool) → route_at (steps ++ cond (not (b && false)) (break ∷ []) []) k ≡ None
    by_old true = route_at-push steps break k
    by_old false = route_at-push steps break k
no_route up (Ok (event.Change u)) steps k down h = ap (λ (b : Bool). route_at (steps ++ reading_steps b (Ok (event.Change u))) k) down ∙ ap (λ (s : List Step). route_at s k) (append-nil steps) ∙ h down
no_route up (Ok (event.Handled fault u)) steps k down h = ap (λ (b : Bool). route_at (steps ++ reading_steps b (Ok (event.Handled fault u))) k) down ∙ ap (λ (s : List Step). route_at s k) (append-nil steps) ∙ h down
no_route up (Ok (event.Rib key r)) steps k down h = ap (λ (b : Bool). route_at (steps ++ reading_steps b (Ok (event.Rib key r))) k) down ∙ ap (λ (s : List Step). route_at s k) (append-nil steps) ∙ h down
no_route up (Ok event.Other) steps k down h = ap (λ (s : List Step). route_at s k) (append-nil steps) ∙ h down
no_route up (Ok event.Clear) steps k down h = route_at-push steps clear k

none_after : (before after : List ReplayUnit) (k : RouteKey) → (is_up before ≡ false → route_at (steps_of before) k ≡ None) → is_up (before ++ after) ≡ false → route_at (steps_of (before ++ after)) k ≡ None
unfolding unit_steps
none_after before [] k h down = ap (λ (units : List ReplayUnit). route_at (steps_of units) k) (append-nil before) ∙ h (sym (ap is_up (append-nil before)) ∙ down)
none_after before (u ∷ after) k h down =
    ap (λ (units : List ReplayUnit). route_at (steps_of units) k) (sym (append_assoc before (u ∷ []) after))
    ∙ none_after (before ++ u ∷ []) after k
    (λ now. ap (λ (s : List Step). route_at s k) (steps_of-push before u) ∙ no_route (is_up before) (reading_of u) (steps_of before) k (sym (is_up-push before u) ∙ now) h)
    (ap is_up (append_assoc before (u ∷ []) after) ∙ down)

no_entries : (steps : List Step) → ((k : RouteKey) → route_at steps k ≡ None) → table_of steps ≡ []
no_entries steps none = same_entries key_cmp key_cmp_total key_cmp_exact (table_of steps) [] (is_sorted-table_of steps) tt (λ k. find-table_of steps k ∙ none k)

up_at_first : is_up [] ≡ false → ⊥
up_at_first e = cc

-- a peer that isn't up has no route
pub down_has_none : (units : List ReplayUnit) → is_up units ≡ false → table_of (steps_of units) ≡ []
down_has_none units down = no_entries (steps_of units) (λ k. none_after [] units k (λ e. absurd (up_at_first e)) down)

-- ---- a clear of nothing

pub clear_of_nothing : (units : List ReplayUnit) (u : ReplayUnit) → u.payload ≡ Clear → table_of (steps_of units) ≡ [] → LeaveAlike (units ++ u ∷ []) units
unfolding unit_steps event_in
clear_of_nothing units u e none = record {
  up = is_up-push units u ∙ ap (λ (p : Payload). up_after (is_up units) (event_in p)) e;
  established = is_established-push units u ∙ ap (λ (p : Payload). established_after (is_established units) (event_in p)) e;
  table = no_entries (steps_of (units ++ u ∷ [])) (λ k. ap (λ (s : List Step). route_at s k) (steps_of-push units u ∙ ap (λ (p : Payload). steps_of units ++ reading_steps (is_up units) (event_in p)) e) ∙ route_at-push (steps_of units) clear k) ∙ sym none;
}
