-- What a selection of keys leaves of steps, tables and outcomes.
use Rattle.std.specs.Prelude.{Bool, true, ◌&&◌, List, [], ◌∷◌, if◌then◌else◌}
use Rattle.std.specs.List.{filter}
use Rattle.mrt_frame.specs.Positions.{flat_map_after}
use Rattle.bgp_prefix.specs.Keys.{RouteKey}
use Rattle.bgp_update.specs.declared.route.Route.{Route}
use Rattle.peer_units.specs.Plain.{PrefixChoice}
use Rattle.peer_units.specs.Plain.{Unit as ReplayUnit}
use Rattle.route_choice.specs.Choices.{is_chosen_route}
use Rattle.peer_units.specs.Choices.{Choices, is_chosen}
use Rattle.peer_units.specs.Selections.{concerns}
use Rattle.adj_rib.specs.declared.outcome.Outcome.{Outcome}
use Rattle.adj_rib.specs.Steps.{Step, break, clear, announce, withdraw}
use Rattle.adj_rib.specs.Churns.{outcome_of}

-- a step of a selected key, or a break or a clear, which end the routes of all
abbrev pub keeps : (RouteKey → Bool) → Step → Bool
keeps selects break = true
keeps selects clear = true
keeps selects (announce k route) = selects k
keeps selects (withdraw k) = selects k

abbrev pub selected_steps : (RouteKey → Bool) → List Step → List Step
selected_steps selects steps = filter (keeps selects) steps

-- the entries of selected keys
abbrev pub selected_entries : (RouteKey → Bool) → List (RouteKey × Route) → List (RouteKey × Route)
selected_entries selects table = filter (λ e. selects e.0) table

-- the outcome of each step of a selected key, and of each break and clear, beside all the steps before it
unfoldable pub selected_outcomes : (RouteKey → Bool) → List Step → List Outcome
selected_outcomes selects steps =
    flat_map_after (λ before step. if keeps selects step then outcome_of before step ∷ [] else []) [] steps

-- the keys of chosen prefixes
abbrev pub chooses : List PrefixChoice → RouteKey → Bool
chooses choices k = is_chosen choices k.prefix

-- the entries of chosen keys whose route is chosen
abbrev pub is_chosen_entry : Choices → RouteKey × Route → Bool
is_chosen_entry choices e = is_chosen_route choices.routes e.1 && chooses choices.prefixes e.0

abbrev pub chosen_entries : Choices → List (RouteKey × Route) → List (RouteKey × Route)
chosen_entries choices table = filter (is_chosen_entry choices) table

-- the units that can concern a chosen prefix
abbrev pub concerned : List PrefixChoice → List ReplayUnit → List ReplayUnit
concerned choices units = filter (λ unit. concerns choices unit.payload) units
