-- Where nothing is named all routes are chosen.
use Rattle.std.proofs.Common.{◌≡◌, true, ◌&&◌, Option, ℕ, List, [], ◌∷◌, map, refl, sym, ap, ◌∙◌}
use Rattle.bgp_prefix.specs.Keys.{RouteKey}
use Rattle.bgp_update.specs.declared.route.Route.{Route}
use Rattle.route_choice.specs.declared.community.CommunityPattern.{CommunityPattern}
use Rattle.route_choice.specs.declared.path_mask.PathStep.{PathStep}
use Rattle.route_choice.specs.Choices.{is_unnamed}
use Rattle.peer_units.specs.Plain.{PrefixChoice}
use Rattle.peer_units.specs.Choices.{Choices, chooses_all, every_choice, is_open}
use Rattle.adj_rib.specs.Selecting.{chosen_entries}
use Rattle.peer_tables.specs.Tables.{Seat, TablesState, chosen_seat, chosen_tables}

open_entries : (table : List (RouteKey × Route)) → chosen_entries every_choice table ≡ table
open_entries [] = refl
open_entries (e ∷ table) = ap (λ (l : List (RouteKey × Route)). e ∷ l) (open_entries table)

open_seats : (seats : List Seat) → map (chosen_seat every_choice) seats ≡ seats
open_seats [] = refl
open_seats (s ∷ seats) =
    ap (λ t. record s { session = record s.session { table = t } } ∷ map (chosen_seat every_choice) seats) (open_entries s.session.table)
    ∙ ap (λ (l : List Seat). s ∷ l) (open_seats seats)

pub open_tables : (tables : TablesState) → chosen_tables every_choice tables ≡ tables
open_tables tables = ap (λ l. record tables { seats = l }) (open_seats tables.seats)

-- what chooses all names nothing
none_named : (prefixes : List PrefixChoice) (origins : List (Option ℕ)) (paths : List (List PathStep)) (communities : List CommunityPattern)
    → (is_open prefixes && (is_unnamed origins && (is_unnamed paths && is_unnamed communities))) ≡ true → record { prefixes = prefixes; routes = record { origins = origins; paths = paths; communities = communities } } ≡ every_choice
none_named [] [] [] [] e = refl
none_named [] [] [] (c ∷ cs) e = cc
none_named [] [] (p ∷ ps) cs e = cc
none_named [] (o ∷ os) ps cs e = cc
none_named (x ∷ xs) os ps cs e = cc

nothing_named : (choices : Choices) → chooses_all choices ≡ true → choices ≡ every_choice
nothing_named choices e = none_named choices.prefixes choices.routes.origins choices.routes.paths choices.routes.communities e

pub open_where : (choices : Choices) (tables : TablesState) → chooses_all choices ≡ true → tables ≡ chosen_tables choices tables
open_where choices tables e = sym (open_tables tables) ∙ ap (λ c. chosen_tables c tables) (sym (nothing_named choices e))
