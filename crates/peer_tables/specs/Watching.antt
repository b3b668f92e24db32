-- The watches on all peers, and the rows of one unit, as code makes them.
use Rattle.std.specs.Prelude.{◌≡◌, ℕ, List, [], ◌∷◌, ◌++◌, map, Option, Some, None, if◌then◌else◌}
use Rattle.std.specs.List.{filter}
use Rattle.peer_units.specs.declared.unit.PeerKey.{PeerKey}
use Rattle.peer_units.specs.Plain.{Unit as ReplayUnit}
use Rattle.adj_rib.specs.Plain.{Note}
use Rattle.bgp_prefix.specs.Prefixes.{IpPrefix}
use Rattle.adj_rib.specs.Routes.{IsNamed, route_at}
use Rattle.peer_tables.specs.declared.history.RowUnit.{RowUnit}
use Rattle.peer_tables.specs.declared.history.StoredRow.{StoredRow}
use Rattle.peer_tables.specs.declared.history.StoredRow.TheVariants.{Routed, Routeless}
use Rattle.peer_tables.specs.declared.history.Listed.{Listed}
use Rattle.peer_tables.specs.declared.history.Listing.{Listing}
use Rattle.peer_tables.specs.declared.watches.Watched.{Watched}
use Rattle.adj_rib.specs.Histories.{is_before}
use Rattle.peer_units.specs.Choices.{Choices}
use Rattle.peer_tables.specs.Histories.{PeerWatch, RowState, by_of, history_rows, is_asked, noted_row, row_of, watches_of}

-- a watch, as definitions see it
abbrev pub watch_in : {M A : Type 0} → Watched M A → PeerWatch
watch_in w = record { key = w.key; watch = w.watch }

-- the peers that watches are on
abbrev pub keys_in : List PeerWatch → List PeerKey
keys_in watches = map (λ w. w.key) watches

-- a row, by what is kept of it and the block of bytes in which its route is named
abbrev pub row_in : List ℕ → StoredRow IpPrefix → RowState
row_in block (Routed by what key route time peer) =
    record { time = time; peer = peer; by = by; what = what; key = key; route = Some (route_at block route.at) }
row_in block (Routeless by what key time peer) =
    record { time = time; peer = peer; by = by; what = what; key = key; route = None }

-- The number of a row's route names one.
abbrev pub IsStored : List ℕ → StoredRow IpPrefix → Type 0
IsStored block (Routed by what key route time peer) = IsNamed block route.at
IsStored block (Routeless by what key time peer) = Unit

-- the rows so far, and the unit of which notes come, if any may have a row
pub record RowsState : Type 0 where
  pub listed : List RowState
  pub unit : Option RowUnit

-- the unit of which notes come, unless it is before the first second
abbrev pub row_unit : Listing → ReplayUnit → Option RowUnit
row_unit listing unit =
    if is_before listing.since unit.time then None
    else Some (record { time = unit.time; by = by_of unit.payload; listed = listing.listed; peer = unit.peer })

-- the row of a note, if it is asked for
abbrev pub asked_row : Option RowUnit → Note → List RowState
asked_row None note = []
asked_row (Some u) note =
    if is_asked u.listed note.what then noted_row u.time u.peer u.by note ∷ [] else []

-- the rows with one more note
abbrev pub keep_row : RowsState → Note → RowsState
keep_row rows note = record rows { listed = rows.listed ++ asked_row rows.unit note }

-- the rows of a unit's notes that are asked for
abbrev pub asked_rows : Listed → ReplayUnit → List Note → List RowState
asked_rows listed unit notes = map (λ note. row_of (unit, note)) (filter (λ note. is_asked listed note.what) notes)

-- the rows of a unit's notes on chosen keys
abbrev pub listed_rows : Listing → ReplayUnit → List Note → List RowState
listed_rows listing unit notes =
    if is_before listing.since unit.time then [] else asked_rows listing.listed unit notes

-- One more unit was taken. Watches that stood for the units before it stand for this one, too; and if rows were those
-- of the units before it, they are those of this one, too.
pub record TakesUnit (listing : Listing) (choices : Choices) (old new : List PeerWatch) (told later : List RowState) (unit : ReplayUnit) : Type 0 where
  pub stands : (before : List ReplayUnit) → old ≡ watches_of listing.since choices before → new ≡ watches_of listing.since choices (before ++ unit ∷ [])
  pub rows : (before : List ReplayUnit) → old ≡ watches_of listing.since choices before → told ≡ history_rows listing choices before → later ≡ history_rows listing choices (before ++ unit ∷ [])
