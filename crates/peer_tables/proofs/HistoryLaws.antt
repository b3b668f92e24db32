-- What happened at some of the peers is what their units did.
use Rattle.std.proofs.Common.{◌≡◌, ◌&&◌, not, Bool, true, false, cond, List, [], ◌∷◌, map, refl, sym, ap, ◌∙◌}
use Rattle.std.specs.List.{filter}
use Rattle.std.proofs.lemmas.List.Elements.{filter_agree}
use Rattle.peer_units.specs.declared.unit.PeerKey.{PeerKey}
use Rattle.peer_units.specs.Plain.{Unit as ReplayUnit}
use Rattle.adj_rib.specs.Plain.{Note}
use Rattle.route_choice.specs.Choices.{every_route}
use Rattle.peer_units.specs.Choices.{Choices}
use Rattle.adj_rib.specs.Histories.{is_before, meets_choice, unit_notes}
use Rattle.adj_rib.specs.Selecting.{chooses}
use Rattle.mrt_frame.specs.Positions.{flat_map_after}
use Rattle.adj_rib.proofs.Positions.{after_filter, filter_after}
use Rattle.adj_rib.proofs.WatchLaws.{filter_twice}
use Rattle.peer_tables.specs.declared.history.Listing.{Listing}
use Rattle.peer_tables.specs.Histories.{history_of, history_of_own, history_rows, history_where, is_asked, is_listed, row_of}
use Rattle.peer_tables.specs.Peers.{peer_eq, units_of_peer}
use Rattle.peer_tables.specs.Shares.{units_where}
use Rattle.peer_tables.proofs.ShareLaws.{same_peer, units_of_peer-where}

-- each of what a unit did, beside the unit
abbrev rows_by : ReplayUnit → List Note → List (ReplayUnit × Note)
rows_by unit notes = map (λ note. (unit, note)) notes

-- what each unit did after its peer's units before it, and after all of these units
abbrev rows_at : List ReplayUnit → ReplayUnit → List (ReplayUnit × Note)
rows_at before unit = rows_by unit (unit_notes (units_of_peer before unit.peer) unit)

abbrev own_rows : List ReplayUnit → ReplayUnit → List (ReplayUnit × Note)
own_rows before unit = rows_by unit (unit_notes before unit)

module _ (takes : PeerKey → Bool) where
  rows_where : (unit : ReplayUnit) (notes : List Note) → cond (takes unit.peer) (rows_by unit notes) [] ≡ history_where takes (rows_by unit notes)
  rows_where unit [] = elim (takes unit.peer) as (λ b. cond {A = List (ReplayUnit × Note)} b [] [] ≡ []) [ true ↦ refl | false ↦ refl ]
  rows_where unit (note ∷ notes) =
      let rows = rows_by unit notes in
      elim (takes unit.peer) as (λ b. cond b ((unit, note) ∷ rows) [] ≡ cond b ((unit, note) ∷ cond b rows []) (cond b rows [])) [ true ↦ refl | false ↦ refl ]
      ∙ ap (λ (l : List (ReplayUnit × Note)). cond (takes unit.peer) ((unit, note) ∷ l) l) (rows_where unit notes)

  -- units of which a test lets those pass that are taken
  module _ (rows : List ReplayUnit → ReplayUnit → List (ReplayUnit × Note)) (alike : (before : List ReplayUnit) (u : ReplayUnit) → takes u.peer ≡ true → rows (units_where takes before) u ≡ rows_at before u) where
    taken_rows : (before : List ReplayUnit) (u : ReplayUnit) → cond (takes u.peer) (rows (units_where takes before) u) [] ≡ history_where takes (rows_at before u)
    taken_rows before u =
        elim (takes u.peer) as (λ b. takes u.peer ≡ b → cond b (rows (units_where takes before) u) [] ≡ cond b (rows_at before u) []) [ true ↦ alike before u | false ↦ λ _. refl ] refl
        ∙ rows_where u (unit_notes (units_of_peer before u.peer) u)

    pub history_taken : (units : List ReplayUnit) → flat_map_after rows [] (units_where takes units) ≡ history_where takes (flat_map_after rows_at [] units)
    history_taken units =
        after_filter (λ (u : ReplayUnit). takes u.peer) rows (λ b u. history_where takes (rows_at b u)) taken_rows [] units
        ∙ sym (filter_after (λ (row : ReplayUnit × Note). takes row.0.peer) rows_at [] units)

-- what happened at some peers is what happened among their units
pub history_of-where : (takes : PeerKey → Bool) (units : List ReplayUnit) → history_of (units_where takes units) ≡ history_where takes (history_of units)
unfolding history_of
history_of-where takes units = history_taken takes rows_at (λ before u taken. ap (λ own. rows_by u (unit_notes own u)) (units_of_peer-where takes before u.peer taken)) units

-- of all that happened, what happened at a peer is what its own units did, in order
pub history_of-peer : (q : PeerKey) (units : List ReplayUnit) → history_of_own (units_of_peer units q) ≡ history_where (λ p. peer_eq p q) (history_of units)
unfolding history_of history_of_own
history_of-peer q units = history_taken (λ p. peer_eq p q) own_rows (λ before u taken. ap (λ p. rows_by u (unit_notes (units_of_peer before p) u)) (sym (same_peer u.peer q taken))) units

-- ---- chosen routes

first_asked : (m n c a : Bool) → (n && ((m && c) && a)) ≡ (m && (n && (c && a)))
first_asked true n c a = refl
first_asked false true c a = refl
first_asked false false c a = refl

-- what is listed of chosen routes is what is listed of all, where a chosen one is concerned
pub rows_of_choice : (listing : Listing) (choices : Choices) (units : List ReplayUnit) → history_rows listing choices units
    ≡ map row_of (filter (λ e. meets_choice choices.routes e.1) (filter (is_listed listing (record { prefixes = choices.prefixes; routes = every_route })) (history_of units)))
unfolding history_rows
rows_of_choice listing choices units =
    let wide : ReplayUnit × Note → Bool = is_listed listing (record { prefixes = choices.prefixes; routes = every_route }) in
    let meets : ReplayUnit × Note → Bool = λ e. meets_choice choices.routes e.1 in
    ap (map row_of)
    (filter_agree (is_listed listing choices) (λ e. meets e && wide e)
    (λ e. first_asked (meets_choice choices.routes e.1) (not (is_before listing.since e.0.time)) (chooses choices.prefixes e.1.key) (is_asked listing.listed e.1.what)) (history_of units)
    ∙ sym (filter_twice meets wide (history_of units)))
