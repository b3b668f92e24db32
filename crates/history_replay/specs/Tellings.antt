-- What a replay of files into rows of what happened gives.
use Rattle.std.specs.Prelude.{◌≡◌, ℕ, List, length}
use Rattle.std.specs.List.{filter, flat_map}
use Rattle.bgp_prefix.specs.Keys.{RouteKey}
use Rattle.bgp_update.specs.declared.route.Route.{Route}
use Rattle.route_choice.specs.Choices.{RouteChoice, is_chosen_route}
use Rattle.peer_units.specs.Choices.{Choices, UnitSelection, choices_of}
use Rattle.mrt_body.specs.Units.{units_of, refused_of, records_of, aside_of}
use Rattle.peer_units.specs.declared.unit.Damage.{Damage}
use Rattle.peer_units.specs.Plain.{Unit as ReplayUnit}
use Rattle.adj_rib.specs.Churns.{stopped}
use Rattle.peer_tables.specs.declared.history.Listing.{Listing}
use Rattle.peer_tables.specs.Histories.{PeerWatch, history_rows, watches_of}
use Rattle.history_replay.specs.declared.history.History.{History}
use Rattle.history_replay.specs.declared.told.Told.{Told}

-- These units and refusals were taken: the watches took the units of their peers, and the rows are those of the units.
pub record Tells {M A : Type 0} (choices : Choices) (listing : Listing) (told : Told M A)
    (units : List ReplayUnit) (refused : List Damage) : Type 0 where
  pub watches : told.watches ≡ watches_of listing.since choices units
  pub rows : told.rows.listed ≡ history_rows listing choices units
  pub refused_kept : told.refused.items ≡ refused
  pub counted : told.units ≡ stopped (length units)

-- the damaged units of all peers
abbrev pub watch_faults : List PeerWatch → List Damage
watch_faults watches = flat_map (λ p. p.watch.faults) watches

-- the entries whose route is chosen
abbrev pub routes_chosen : RouteChoice → List (RouteKey × Route) → List (RouteKey × Route)
routes_chosen choice table = filter (λ e. is_chosen_route choice e.1) table

-- the chosen routes of chosen prefixes in the tables of all peers
abbrev pub watch_routes : RouteChoice → List PeerWatch → List (RouteKey × Route)
watch_routes choice watches = flat_map (λ p. routes_chosen choice p.watch.table) watches

-- The rows are those of what happened to chosen prefixes and their chosen routes by the units of the files, which are counted; the watches took
-- these units.
pub record IsHistoryOf {M A : Type 0} (listing : Listing) (selection : UnitSelection) (files : List (List ℕ)) (h : History M A) : Type 0 where
  pub rows : h.told.rows.listed ≡ history_rows listing (choices_of selection) (units_of selection files)
  pub watches : h.told.watches ≡ watches_of listing.since (choices_of selection) (units_of selection files)
  pub refused_kept : h.told.refused.items ≡ refused_of selection files
  pub records_counted : h.records ≡ records_of files
  pub units_counted : h.told.units ≡ length (units_of selection files)
  pub routes_counted : h.routes
      ≡ stopped (length (watch_routes selection.routes
      (watches_of listing.since (choices_of selection) (units_of selection files))))
  pub aside_counted : h.aside ≡ aside_of selection files
