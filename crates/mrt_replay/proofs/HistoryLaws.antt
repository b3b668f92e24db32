-- A run that lists or counts what happened: its report and what it counts.
use Rattle.std.proofs.Common.{◌≡◌, ℕ, ◌+◌, ◌-◌, ◌^◌, min, List, [], ◌∷◌, ◌++◌, map, Option, Some, None, refl, sym, ap, ◌∙◌, subst, arith, length, length-append}
use Rattle.std.specs.List.{flat_map}
use Rattle.std.proofs.lemmas.List.{length-map}
use Rattle.bgp_prefix.specs.Keys.{RouteKey}
use Rattle.bgp_update.specs.declared.route.Route.{Route}
use Rattle.route_choice.specs.Choices.{is_chosen_route}
use Rattle.peer_units.specs.Choices.{Choices, UnitSelection, choices_of}
use Rattle.peer_units.specs.declared.unit.Damage.{Damage}
use Rattle.peer_units.specs.declared.unit.PeerKey.{PeerKey}
use Rattle.peer_units.specs.Plain.{Unit as ReplayUnit}
use Rattle.mrt_body.specs.Units.{units_of, refused_of}
use Rattle.adj_rib.specs.Churns.{stopped}
use Rattle.adj_rib.specs.Histories.{watch_of}
use Rattle.adj_rib.specs.Selecting.{chooses}
use Rattle.adj_rib.specs.Sessions.{session_of}
use Rattle.adj_rib.specs.Steps.{steps_of}
use Rattle.adj_rib.specs.Tables.{table_of}
use Rattle.adj_rib.proofs.WatchLaws.{filter_twice}
use Rattle.peer_tables.specs.declared.history.Listing.{Listing}
use Rattle.peer_tables.specs.Histories.{PeerWatch, RowState, history_rows, watches_of}
use Rattle.peer_tables.specs.Peers.{peers_of, units_of_peer}
use Rattle.peer_tables.specs.Tables.{Seat, tables_of, chosen_seat, chosen_tables, all_faults, all_routes}
use Rattle.peer_tables.proofs.RowLaws.{flat_map_twice}
use Rattle.peer_tables.proofs.StandingLaws.{peer_seat, seats_from}
use Rattle.report_request.specs.Plain.{Layout, Request}
use Rattle.lane_deal.specs.declared.plan.Plan.{Plan}
use Rattle.mrt_replay.specs.Reports.{listing_of, told_lines, text_by, text, report, listed_faults, AreRounds, RoundsOf}
use Rattle.history_replay.specs.Tellings.{routes_chosen, watch_faults, watch_routes}
use Rattle.replay_summary.specs.declared.summary.Summary.{Summary}
use Rattle.mrt_replay.proofs.RunLaws.{length_in_order}

-- ---- the report

pub history_is_report : (request : Request) (layout : Layout) (listing : Listing) (selection : UnitSelection) (files : List (List ℕ)) (rows : List RowState) (watches : List PeerWatch) → listing_of request (choices_of selection) ≡ Some listing → rows ≡ history_rows listing (choices_of selection) (units_of selection files)
    → watches ≡ watches_of listing.since (choices_of selection) (units_of selection files) → told_lines layout listing.listed rows watches ≡ report request layout selection files
unfolding report text
history_is_report request layout listing selection files rows watches asked is took =
    (λ i. told_lines layout listing.listed (is i) (took i)) ∙ sym (ap (λ (l : Option Listing). text_by l request layout (choices_of selection) (units_of selection files) (refused_of selection files)) asked)

pub rounds_of_tables : (request : Request) (choices : Choices) (plan : Plan) (s : Summary) → listing_of request choices ≡ None → AreRounds plan s → RoundsOf (listing_of request choices) plan s
rounds_of_tables request choices plan s none rounds = subst (λ (l : Option Listing). RoundsOf l plan s) (sym none) rounds

pub no_rounds : (request : Request) (choices : Choices) (listing : Listing) (plan : Plan) (s : Summary) → listing_of request choices ≡ Some listing → s.rounds ≡ 0 → RoundsOf (listing_of request choices) plan s
no_rounds request choices listing plan s asked rounds = subst (λ (l : Option Listing). RoundsOf l plan s) (sym asked) rounds

-- ---- counts

abbrev peer_watch : Option ℕ → Choices → List ReplayUnit → PeerKey → PeerWatch
peer_watch since choices units q = record { key = q; watch = watch_of since choices (units_of_peer units q) }

pieces_alike : {Y : Type 0} (since : Option ℕ) (choices : Choices) (units : List ReplayUnit) (g : Seat → List Y) (f : PeerWatch → List Y) → ((n : ℕ) (q : PeerKey) → g (peer_seat units (n, q)) ≡ f (peer_watch since choices units q))
    → (n : ℕ) (qs : List PeerKey) → flat_map g (seats_from units n qs) ≡ flat_map f (map (peer_watch since choices units) qs)
pieces_alike since choices units g f same n [] = refl
pieces_alike since choices units g f same n (q ∷ qs) =
    ap (λ l. l ++ flat_map g (seats_from units (n + 1) qs)) (same n q) ∙ ap (λ l. f (peer_watch since choices units q) ++ l) (pieces_alike since choices units g f same (n + 1) qs)

faults_of_watches : (since : Option ℕ) (choices : Choices) (units : List ReplayUnit) (refused : List Damage) → all_faults (tables_of units refused) ≡ refused ++ watch_faults (watches_of since choices units)
unfolding tables_of session_of watches_of watch_of
faults_of_watches since choices units refused = ap (λ l. refused ++ l) (pieces_alike since choices units (λ s. s.session.faults) (λ p. p.watch.faults) (λ n q. refl) 0 (peers_of units))

routes_of_watches : (since : Option ℕ) (choices : Choices) (units : List ReplayUnit) (refused : List Damage) → all_routes (chosen_tables choices (tables_of units refused)) ≡ watch_routes choices.routes (watches_of since choices units)
unfolding tables_of session_of watches_of watch_of
routes_of_watches since choices units refused =
    sym (flat_map_twice (chosen_seat choices) (λ s. s.session.table) (seats_from units 0 (peers_of units)))
    ∙ pieces_alike since choices units (λ s. (chosen_seat choices s).session.table) (λ p. routes_chosen choices.routes p.watch.table)
    (λ n q. sym (filter_twice (λ (e : RouteKey × Route). is_chosen_route choices.routes e.1) (λ (e : RouteKey × Route). chooses choices.prefixes e.0) (table_of (steps_of (units_of_peer units q))))) 0 (peers_of units)

pub damaged_told : (since : Option ℕ) (selection : UnitSelection) (files : List (List ℕ)) (refused : List Damage) (watches : List PeerWatch) (r n : ℕ) → refused ≡ refused_of selection files → r ≡ length refused → watches ≡ watches_of since (choices_of selection) (units_of selection files)
    → n ≡ min (r + length (watch_faults watches)) (2 ^ 64 - 1) → n ≡ stopped (length (listed_faults selection files))
damaged_told since selection files refused watches r n kept size stands count =
    let units = units_of selection files in
    let whole : length (refused ++ watch_faults watches) ≡ length (all_faults (tables_of units (refused_of selection files))) =
    (λ i. length (kept i ++ watch_faults (stands i))) ∙ ap length (sym (faults_of_watches since (choices_of selection) units (refused_of selection files))) in
    let order = length_in_order (all_faults (tables_of units (refused_of selection files))) in
    let parts = length-append refused (watch_faults watches) in
    omega (arith, count, size, whole, order, parts)

pub routes_told : (since : Option ℕ) (selection : UnitSelection) (files : List (List ℕ)) (n : ℕ) → n ≡ stopped (length (watch_routes selection.routes (watches_of since (choices_of selection) (units_of selection files))))
    → n ≡ stopped (length (all_routes (chosen_tables (choices_of selection) (tables_of (units_of selection files) (refused_of selection files)))))
routes_told since selection files n count =
    count ∙ ap (λ (l : List (RouteKey × Route)). stopped (length l)) (sym (routes_of_watches since (choices_of selection) (units_of selection files) (refused_of selection files)))

pub peers_told : (since : Option ℕ) (choices : Choices) (units : List ReplayUnit) (watches : List PeerWatch) (n : ℕ) → watches ≡ watches_of since choices units → n ≡ length watches → n ≡ length (peers_of units)
unfolding watches_of
peers_told since choices units watches n stands count = count ∙ ap length stands ∙ length-map (peers_of units) (peer_watch since choices units)
