-- Where a reading of files stands when it comes to a record, and whether a RIB dump begins there.
use Rattle.std.specs.Prelude.{◌≡◌, ℕ, ◌+◌, Bool, List, [], ◌∷◌, ◌++◌, length, None}
use Rattle.std.specs.List.{filter_map}
use Rattle.bgp_prefix.specs.Keys.{RouteKey}
use Rattle.bgp_update.specs.declared.route.Route.{Route}
use Rattle.mrt_frame.specs.declared.cut.Cut.{Cut}
use Rattle.mrt_frame.specs.declared.cut.Record.{Record}
use Rattle.mrt_frame.specs.Cuts.{cuts}
use Rattle.peer_units.specs.declared.unit.PeerKey.{PeerKey}
use Rattle.peer_units.specs.Plain.{Unit as ReplayUnit}
use Rattle.peer_units.specs.Choices.{UnitSelection}
use Rattle.mrt_body.specs.RibDumps.{DumpsState, no_dumps}
use Rattle.mrt_body.specs.Units.{at_record, begins, body_kind_of, clears_at, dumps_behind_cuts, found_from}
use Rattle.mrt_body.specs.Units.{index_before, unit_of, units_of}
use Rattle.adj_rib.specs.Steps.{steps_of}
use Rattle.adj_rib.specs.Tables.{table_of}
use Rattle.peer_tables.specs.Peers.{units_of_peer}

-- the table that units leave a peer
abbrev pub table_of_peer : List ReplayUnit → PeerKey → List (RouteKey × Route)
table_of_peer units q = table_of (steps_of (units_of_peer units q))

-- ---- a record, the files before its own one, and the cuts of its own before it

-- the dumps behind these files, the first of which has this number
abbrev pub dumps_behind_files : UnitSelection → ℕ → DumpsState → List (List ℕ) → DumpsState
dumps_behind_files selection file dumps [] = dumps
dumps_behind_files selection file dumps (bytes ∷ files) =
    dumps_behind_files selection (file + 1) (dumps_behind_cuts file selection None dumps (cuts 0 bytes)) files

-- the dumps before the first cut of its file
abbrev pub dumps_at_start : UnitSelection → List (List ℕ) → DumpsState
dumps_at_start selection files = dumps_behind_files selection 0 no_dumps files

-- the dumps before the record
abbrev pub dumps_before : UnitSelection → List (List ℕ) → List Cut → DumpsState
dumps_before selection files earlier =
    dumps_behind_cuts (length files) selection None (dumps_at_start selection files) earlier

-- the units before it: those of the files, and those of the cuts
abbrev pub units_before : UnitSelection → List (List ℕ) → List Cut → List ReplayUnit
units_before selection files earlier = units_of selection files
    ++ filter_map unit_of (found_from (length files) selection None (dumps_at_start selection files) earlier)

-- whether a dump that replaces what came before it begins with the record, which then isn't refused
abbrev pub begins_dump : UnitSelection → List (List ℕ) → List Cut → Record → Bool
begins_dump selection files earlier r =
    begins selection (at_record (length files) r.offset r.seconds) (index_before selection.rules.family earlier)
    (dumps_before selection files earlier) (body_kind_of selection.rules.family r.kind r.subtype) r.body

-- the clears that stand before the record's own units
abbrev pub clears_before : UnitSelection → List (List ℕ) → List Cut → Record → List ReplayUnit
clears_before selection files earlier r =
    clears_at selection (at_record (length files) r.offset r.seconds) (index_before selection.rules.family earlier)
    (dumps_before selection files earlier) (body_kind_of selection.rules.family r.kind r.subtype) r.body

-- Units begin with these.
pub record BeginWith (units first : List ReplayUnit) : Type 0 where
  pub others : List ReplayUnit
  pub parts : units ≡ first ++ others
