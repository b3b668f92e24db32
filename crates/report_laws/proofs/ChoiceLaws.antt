-- Reports of chosen keys and routes beside those of all.
use Rattle.std.proofs.Common.{◌≡◌, Bool, true, false, cond, ◌&&◌, ◌||◌, List, [], ◌∷◌, ◌++◌, Option, refl, sym, ap, ◌∙◌, map, ℕ}
use Rattle.std.specs.List.{flat_map, filter, list_any}
use Rattle.std.proofs.lemmas.List.Elements.{filter-append}
use Rattle.bgp_prefix.specs.Keys.{RouteKey}
use Rattle.bgp_prefix.specs.Prefixes.{IpPrefix, prefix_eq}
use Rattle.bgp_update.specs.declared.route.Route.{Route}
use Rattle.peer_units.specs.Choices.{Choices}
use Rattle.peer_units.specs.declared.unit.PeerKey.{PeerKey}
use Rattle.adj_rib.specs.Selecting.{chosen_entries, is_chosen_entry}
use Rattle.peer_tables.specs.Tables.{Seat, TablesState, chosen_seat, chosen_tables}
use Rattle.rib_report.specs.Rows.{TableRow}
use Rattle.rib_report.specs.Reports.{entry_row, is_seen_at, is_visible_at, prefix_origin, prefix_origin_eq, route_rows, rows_of_seat}
use Rattle.report_laws.specs.Parts.{is_chosen_row, share_of}

module _ (choices : Choices) where
  entries_kept : (peer : PeerKey) (entries : List (RouteKey × Route)) → map (entry_row peer) (chosen_entries choices entries) ≡ filter (is_chosen_row choices) (map (entry_row peer) entries)
  entries_kept peer [] = refl
  entries_kept peer (e ∷ entries) =
      let later : List (RouteKey × Route) = chosen_entries choices entries in
      let rows : List TableRow = filter (is_chosen_row choices) (map (entry_row peer) entries) in
      elim (is_chosen_entry choices e) as (λ b. map (entry_row peer) (cond b (e ∷ later) later) ≡ cond b (entry_row peer e ∷ rows) rows) [
        | true ↦ ap (λ (l : List TableRow). entry_row peer e ∷ l) (entries_kept peer entries)
        | false ↦ entries_kept peer entries
      ]

  rows_kept : (seats : List Seat) → flat_map rows_of_seat (map (chosen_seat choices) seats) ≡ filter (is_chosen_row choices) (flat_map rows_of_seat seats)
  rows_kept [] = refl
  rows_kept (seat ∷ seats) =
      ap (λ (l : List TableRow). l ++ flat_map rows_of_seat (map (chosen_seat choices) seats)) (entries_kept seat.key seat.session.table)
      ∙ ap (λ (l : List TableRow). filter (is_chosen_row choices) (rows_of_seat seat) ++ l) (rows_kept seats)
      ∙ sym (filter-append (is_chosen_row choices) (rows_of_seat seat) (flat_map rows_of_seat seats))

  -- the rows of tables are those of all tables whose key and route are chosen
  pub route_rows-chosen : (tables : TablesState) → route_rows (chosen_tables choices tables) ≡ filter (is_chosen_row choices) (route_rows tables)
  route_rows-chosen tables = rows_kept tables.seats

  -- some entry that is left passes a test
  any_kept : {Y : Type 0} (f : RouteKey × Route → Y) (q : Y → Bool) (entries : List (RouteKey × Route)) → list_any q (map f (chosen_entries choices entries)) ≡ list_any (λ e. is_chosen_entry choices e && q (f e)) entries
  any_kept f q [] = refl
  any_kept f q (e ∷ entries) =
      let later : List (RouteKey × Route) = chosen_entries choices entries in
      elim (is_chosen_entry choices e) as (λ b. list_any q (map f (cond b (e ∷ later) later)) ≡ ((b && q (f e)) || list_any (λ x. is_chosen_entry choices x && q (f x)) entries)) [
        | true ↦ ap (λ b. q (f e) || b) (any_kept f q entries)
        | false ↦ any_kept f q entries
      ]

  pub visible_by_chosen : (seat : Seat) (p : IpPrefix) → is_visible_at p (chosen_seat choices seat) ≡ list_any (λ e. is_chosen_entry choices e && prefix_eq p e.0.prefix) seat.session.table
  visible_by_chosen seat p = any_kept (λ (e : RouteKey × Route). e.0.prefix) (prefix_eq p) seat.session.table

  pub seen_by_chosen : (seat : Seat) (pair : IpPrefix × Option ℕ) → is_seen_at pair (chosen_seat choices seat) ≡ list_any (λ e. is_chosen_entry choices e && prefix_origin_eq pair (prefix_origin e)) seat.session.table
  seen_by_chosen seat pair = any_kept prefix_origin (prefix_origin_eq pair) seat.session.table

  seats_of_share : (is_in : PeerKey → Bool) (seats : List Seat) → map (chosen_seat choices) (filter (λ seat. is_in seat.key) seats) ≡ filter (λ seat. is_in seat.key) (map (chosen_seat choices) seats)
  seats_of_share is_in [] = refl
  seats_of_share is_in (seat ∷ seats) =
      let later : List Seat = filter (λ s. is_in s.key) seats in
      let kept : List Seat = filter (λ s. is_in s.key) (map (chosen_seat choices) seats) in
      elim (is_in seat.key) as (λ b. map (chosen_seat choices) (cond b (seat ∷ later) later) ≡ cond b (chosen_seat choices seat ∷ kept) kept) [
        | true ↦ ap (λ (l : List Seat). chosen_seat choices seat ∷ l) (seats_of_share is_in seats)
        | false ↦ seats_of_share is_in seats
      ]

  -- choosing of a share is a share of what is chosen
  pub shares_of_chosen : (tables : TablesState) (is_in : PeerKey → Bool) → chosen_tables choices (share_of is_in tables) ≡ share_of is_in (chosen_tables choices tables)
  shares_of_chosen tables is_in = ap (λ (l : List Seat). record tables { seats = l }) (seats_of_share is_in tables.seats)
