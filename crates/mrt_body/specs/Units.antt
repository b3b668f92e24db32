-- The units and refusals of dumps (RFC 6396, sections 2, 4.3 and 4.4; 3 for extended timestamps; RFC 8050).
use Rattle.std.specs.Prelude.{ℕ, ◌+◌, ◌*◌, Bool, true, false, List, [], ◌∷◌, ◌++◌, map, Option, Some, None, Result, Ok, Err, slice_index_or, ◌==◌, ◌&&◌, ◌||◌, if◌then◌else◌, ⊤}
use Rattle.std.specs.List.{filter, filter_map, count_by, flat_map, last_or}
use Rattle.std.specs.Option.{option_and_then}
use Rattle.bgp_prefix.specs.Prefixes.{IpPrefix}
use Rattle.bgp_prefix.specs.Keys.{RouteKey}
use Rattle.mrt_frame.specs.Positions.{flat_map_after}
use Rattle.mrt_frame.specs.declared.fault.Fault.{Fault}
use Rattle.mrt_frame.specs.declared.cut.Cut.{Cut}
use Rattle.mrt_frame.specs.declared.cut.Cut.TheVariants.{Whole, Broken}
use Rattle.mrt_frame.specs.Fields.{◌>>=◌}
use Rattle.mrt_frame.specs.Cuts.{cuts}
use Rattle.bgp_update.specs.Families.{FamilyOf, Rules, by_entry_width, of_peer}
use Rattle.bgp_update.specs.declared.width.Width.{Width}
use Rattle.bgp_update.specs.declared.width.Width.TheVariants.{Two, Four}
use Rattle.mrt_body.specs.declared.record_place.RecordAt.{RecordAt}
use Rattle.mrt_body.specs.declared.body_kind.BodyKind.{BodyKind}
use Rattle.mrt_body.specs.declared.body_kind.BodyKind.TheVariants as content
use Rattle.peer_units.specs.declared.state_rule.StateRule.{StateRule}
use Rattle.peer_units.specs.declared.table_dump_rule.TableDumpRule.{TableDumpRule}
use Rattle.peer_units.specs.declared.table_dump_rule.TableDumpRule.TheVariants.{Aside, Read}
use Rattle.peer_units.specs.declared.unit.PeerAddr.TheVariants.{V4}
use Rattle.peer_units.specs.declared.unit.PeerKey.{PeerKey}
use Rattle.peer_units.specs.declared.unit.Place.{Place}
use Rattle.peer_units.specs.declared.unit.Damage.{Damage}
use Rattle.peer_units.specs.Plain.{Payload}
use Rattle.peer_units.specs.declared.unit.Payload.TheVariants.{State, Message, Entry, Clear}
use Rattle.peer_units.specs.Plain.{Unit as ReplayUnit}
use Rattle.peer_units.specs.Plain.{Found}
use Rattle.peer_units.specs.declared.unit.Found.TheVariants as found
use Rattle.peer_units.specs.Choices.{UnitSelection}
use Rattle.mrt_body.specs.Indexes.{peers_in}
use Rattle.mrt_body.specs.RibRecords.{RibForm, WrittenEntry, rib_beside, rib_prefix}
use Rattle.mrt_body.specs.OldEntries.{OldEntryForm, old_entry_in, peer_said, prefix_said}
use Rattle.mrt_body.specs.declared.bgp4mp.StateChange.{StateChange}
use Rattle.mrt_body.specs.KnownPeers.{known_with, told_peers}
use Rattle.mrt_body.specs.Bgp4mp.{session_peer_at, microseconds_at, state_change_in}
use Rattle.peer_units.specs.Selections.{is_selected}
use Rattle.peer_units.specs.Payloads.{IsSmallUnit}
use Rattle.mrt_body.specs.RibDumps.{DumpsState, no_dumps, may_begin, dumps_with}
use Rattle.std.specs.Result.{is_ok}

-- ---- kinds of record

-- TABLE_DUMP_V2 (RFC 6396, 4.3; RFC 8050, 4); RIB records of another family are aside
abbrev pub dump_kind : FamilyOf → ℕ → BodyKind
dump_kind family subtype =
    if subtype == 1 then content.IndexTable else
    (if subtype == family.rib then content.Rib false else
    (if subtype == family.rib_add_path then content.Rib true else content.Aside))

-- BGP4MP, and BGP4MP_ET (RFC 6396, 4.4; RFC 8050, 3)
abbrev pub session_kind : ℕ → BodyKind
session_kind subtype =
    if subtype == 0 then content.States Two else
    (if subtype == 1 then content.Message Two false else
    (if subtype == 4 then content.Message Four false else
    (if subtype == 5 then content.States Four else
    (if subtype == 8 then content.Message Two true else
    (if subtype == 9 then content.Message Four true else content.Aside)))))

-- TABLE_DUMP (RFC 6396, 4.2), whose subtype is the number of the family
abbrev pub old_dump_kind : FamilyOf → ℕ → BodyKind
old_dump_kind family subtype = if subtype == family.afi then content.OldEntry else content.Aside

unfoldable pub body_kind_of : FamilyOf → ℕ → ℕ → BodyKind
body_kind_of family kind subtype =
    if kind == 13 then dump_kind family subtype else
    (if kind == 16 || kind == 17 then session_kind subtype else
    (if kind == 12 then old_dump_kind family subtype else content.Aside))

-- the type with extended timestamps
abbrev pub is_extended : ℕ → Bool
is_extended kind = kind == 17

abbrev pub is_index_content : BodyKind → Bool
is_index_content content.IndexTable = true
is_index_content (content.Rib add_path) = false
is_index_content (content.Message width add_path) = false
is_index_content (content.States width) = false
is_index_content content.OldEntry = false
is_index_content content.Aside = false

-- ---- what one record gives

abbrev pub place_of : RecordAt → Option ℕ → Place
place_of at entry = record { file = at.file; offset = at.offset; entry = entry }

-- in microseconds
abbrev pub time_of : RecordAt → ℕ → ℕ
time_of at microseconds = at.seconds * 1000000 + microseconds

-- no peer: never asked for, since the indexes of a record that is read are below the peer count
abbrev pub no_peer : PeerKey
no_peer = record { asn = 0; addr = V4 0 }

-- the unit of the entry of this number, from this peer of the index
abbrev pub rib_unit : Rules → RecordAt → List PeerKey → ℕ → ℕ → RouteKey → List ℕ → ReplayUnit
rib_unit rules at peers number peer key attributes = record {
  place = place_of at (Some number);
  time = time_of at 0;
  peer = slice_index_or peers peer no_peer;
  payload = Entry rules key attributes;
}

abbrev pub entry_unit : Rules → RecordAt → List PeerKey → IpPrefix → ℕ → WrittenEntry → ReplayUnit
entry_unit rules at peers prefix number e =
    rib_unit rules at peers number e.peer (record { prefix = prefix; id = e.identifier }) e.attributes

-- the units of entries, the first of which has this number
abbrev pub entry_units : Rules → RecordAt → List PeerKey → IpPrefix → ℕ → List WrittenEntry → List ReplayUnit
entry_units rules at peers prefix number [] = []
entry_units rules at peers prefix number (e ∷ entries) =
    entry_unit rules at peers prefix number e ∷ entry_units rules at peers prefix (number + 1) entries

-- the entries of a RIB record, numbered from 1
abbrev pub rib_units : Rules → RecordAt → Option (List PeerKey) → RibForm → List ReplayUnit
rib_units rules at None form = []
rib_units rules at (Some peers) form = entry_units rules at peers (rib_prefix form) 1 form.entries

abbrev pub rib_units_in : Rules → RecordAt → Bool → Option (List PeerKey) → List ℕ → Result (List ReplayUnit) Fault
rib_units_in rules at add_path index body = rib_beside rules.family add_path index body >>= λ form. Ok (rib_units rules at index form)

-- the unit of a message or state change
abbrev pub session_unit : RecordAt → ℕ → PeerKey → Payload → ReplayUnit
session_unit at microseconds peer payload =
    record { place = place_of at None; time = time_of at microseconds; peer = peer; payload = payload }

-- with the rules that are asked for, as they are for its peer
unfoldable pub message_unit : Rules → RecordAt → Bool → Width → Bool → List ℕ → Result ReplayUnit Fault
message_unit rules at extended width add_path body = do
  microseconds ← microseconds_at extended body
  peer ← session_peer_at width microseconds.1
  Ok (session_unit at microseconds.0 peer.0.key (Message peer.1 width add_path (of_peer peer.0.external rules)))

-- a state change of a peer, with the rule that is asked for
abbrev pub change_unit : StateRule → RecordAt → StateChange → PeerKey → ReplayUnit
change_unit rule at change peer = session_unit at change.microseconds peer (State change.from change.to rule)

-- of the recorded peer
unfoldable pub states_unit : StateRule → RecordAt → Bool → Width → List ℕ → Result ReplayUnit Fault
states_unit rule at extended width body =
    state_change_in extended width body >>= λ change. Ok (change_unit rule at change change.ends.peer)

-- of each peer whose state it is, where these are known
abbrev pub change_units : UnitSelection → List PeerKey → RecordAt → StateChange → List ReplayUnit
change_units selection known at change =
    map (change_unit selection.states at change) (told_peers selection.state_peers known change.ends)

abbrev pub state_units : UnitSelection → List PeerKey → RecordAt → Bool → Width → List ℕ → Result (List ReplayUnit) Fault
state_units selection known at extended width body =
    state_change_in extended width body >>= λ change. Ok (change_units selection known at change)

-- the unit of a TABLE_DUMP record, which is an entry without a number; its AS numbers have two bytes
abbrev pub old_unit : Rules → RecordAt → OldEntryForm → ReplayUnit
old_unit rules at form = session_unit at 0 (peer_said form.peer)
    (Entry (by_entry_width Two rules) (record { prefix = prefix_said form.prefix; id = 0 }) form.attributes)

unfoldable pub old_entry_unit : Rules → RecordAt → List ℕ → Result ReplayUnit Fault
old_entry_unit rules at body = old_entry_in rules.family body >>= λ form. Ok (old_unit rules at form)

abbrev pub alone : Result ReplayUnit Fault → Result (List ReplayUnit) Fault
alone read = read >>= λ unit. Ok (unit ∷ [])

-- TABLE_DUMP records are read where that is asked for
abbrev pub old_units : TableDumpRule → Rules → RecordAt → List ℕ → Result (List ReplayUnit) Fault
old_units Aside rules at body = Ok []
old_units Read rules at body = alone (old_entry_unit rules at body)

-- The units of a whole record, or its fault; index tables and records aside give none. Messages and entries have the
-- rules that are asked for, messages as they are for their peer, and state changes the rule. State changes may be those
-- of known peers.
abbrev pub units_in : UnitSelection → List PeerKey → RecordAt → Bool → Option (List PeerKey) → BodyKind → List ℕ → Result (List ReplayUnit) Fault
units_in selection known at extended index content.IndexTable body = peers_in body >>= λ peers. Ok []
units_in selection known at extended index (content.Rib add_path) body =
    rib_units_in (by_entry_width Four selection.rules) at add_path index body
units_in selection known at extended index (content.Message width add_path) body =
    alone (message_unit selection.rules at extended width add_path body)
units_in selection known at extended index (content.States width) body =
    state_units selection known at extended width body
units_in selection known at extended index content.OldEntry body = old_units selection.table_dumps selection.rules at body
units_in selection known at extended index content.Aside body = Ok []

-- those of them that are selected; a fault stays
abbrev pub selected_units : UnitSelection → Result (List ReplayUnit) Fault → Result (List ReplayUnit) Fault
selected_units selection read = read >>= λ units. Ok (filter (is_selected selection) units)

-- the refusal of a record
abbrev pub refused_at : RecordAt → Fault → Found
refused_at at fault = found.Refused (record { place = place_of at None; fault = fault })

-- the units of a record, or its refusal
abbrev pub found_of : RecordAt → Result (List ReplayUnit) Fault → List Found
found_of at (Ok units) = map (λ u. found.Unit u) units
found_of at (Err fault) = refused_at at fault ∷ []

-- a refused record is listed whatever is selected
abbrev pub found_units : UnitSelection → RecordAt → Result (List ReplayUnit) Fault → List Found
found_units selection at read = found_of at (selected_units selection read)

abbrev pub at_record : ℕ → ℕ → ℕ → RecordAt
at_record file offset seconds = record { file = file; offset = offset; seconds = seconds }

-- ---- RIB dumps that replace what came before them

-- such a dump clears the table of a peer: where its first record stands, and with its time
abbrev pub clear_unit : RecordAt → PeerKey → ReplayUnit
clear_unit at peer = record { place = place_of at None; time = time_of at 0; peer = peer; payload = Clear }

-- Whether a record begins one, beside the index in force and the dumps before it. A refused record doesn't.
abbrev pub begins : UnitSelection → RecordAt → Option (List PeerKey) → DumpsState → BodyKind → List ℕ → Bool
begins selection at index dumps (content.Rib add_path) body =
    is_ok (rib_beside selection.rules.family add_path index body) && may_begin selection dumps.begun (time_of at 0)
begins selection at index dumps content.IndexTable body = false
begins selection at index dumps (content.Message width add_path) body = false
begins selection at index dumps (content.States width) body = false
begins selection at index dumps content.OldEntry body = false
begins selection at index dumps content.Aside body = false

-- the clears of these peers, if one begins
abbrev pub clears_if : Bool → RecordAt → List PeerKey → List ReplayUnit
clears_if begun at heard = if begun then map (clear_unit at) heard else []

-- those of all peers that gave a unit since the last one: nothing else has a route
abbrev pub clears_at : UnitSelection → RecordAt → Option (List PeerKey) → DumpsState → BodyKind → List ℕ → List ReplayUnit
clears_at selection at index dumps content body =
    clears_if (begins selection at index dumps content body) at dumps.heard

-- the units of a record, if it isn't refused
abbrev pub units_or_none : Result (List ReplayUnit) Fault → List ReplayUnit
units_or_none (Ok units) = units
units_or_none (Err fault) = []

-- the peers of an index table, if it isn't refused
abbrev pub peers_or_none : Result (List PeerKey) Fault → List PeerKey
peers_or_none (Ok peers) = peers
peers_or_none (Err fault) = []

-- the peers that a record names, whatever is selected: those of an index table, which entries of RIB records are of, and
-- else those of its units
abbrev pub peers_named : BodyKind → List ℕ → Result (List ReplayUnit) Fault → List PeerKey
peers_named content.IndexTable body read = peers_or_none (peers_in body)
peers_named (content.Rib add_path) body read = []
peers_named (content.Message width add_path) body read = map (λ u. u.peer) (units_or_none read)
peers_named (content.States width) body read = map (λ u. u.peer) (units_or_none read)
peers_named content.OldEntry body read = map (λ u. u.peer) (units_or_none read)
peers_named content.Aside body read = []

-- the dumps behind a record that begins one or doesn't, and names these peers
abbrev pub dumps_told : UnitSelection → Bool → DumpsState → List PeerKey → Result (List ReplayUnit) Fault → DumpsState
dumps_told selection begun dumps named read =
    record (dumps_with selection.ribs begun dumps (units_or_none (selected_units selection read))) {
      known = known_with selection.state_peers dumps.known named;
    }

-- an index table begins none
abbrev pub dumps_behind : UnitSelection → Bool → DumpsState → BodyKind → List ℕ → Result (List ReplayUnit) Fault → DumpsState
dumps_behind selection begun dumps content body read =
    let with = dumps_told selection begun dumps (peers_named content body read) read in
    if is_index_content content then record with { begun = false } else with

-- ---- what a cut gives

-- beside the index in force and the dumps before it
unfoldable pub found_at : ℕ → UnitSelection → Option (List PeerKey) → DumpsState → Cut → List Found
found_at file selection index dumps (Whole r) =
    let at = at_record file r.offset r.seconds in
    let content = body_kind_of selection.rules.family r.kind r.subtype in
    map (λ u. found.Unit u) (clears_at selection at index dumps content r.body)
    ++ found_units selection at (units_in selection dumps.known at (is_extended r.kind) index content r.body)
found_at file selection index dumps (Broken offset fault) = refused_at (at_record file offset 0) fault ∷ []

-- the dumps behind a cut
abbrev pub dumps_after : ℕ → UnitSelection → Option (List PeerKey) → DumpsState → Cut → DumpsState
dumps_after file selection index dumps (Whole r) =
    let at = at_record file r.offset r.seconds in
    let content = body_kind_of selection.rules.family r.kind r.subtype in
    dumps_behind selection (begins selection at index dumps content r.body) dumps content r.body
    (units_in selection dumps.known at (is_extended r.kind) index content r.body)
dumps_after file selection index dumps (Broken offset fault) = dumps

-- ---- the index in force

abbrev pub if_read : Result (List PeerKey) Fault → Option (List PeerKey)
if_read (Ok peers) = Some peers
if_read (Err fault) = None

-- what an index table puts in force: nothing, where it is damaged
abbrev pub index_of_body : List ℕ → Option (List PeerKey)
index_of_body body = if_read (peers_in body)

-- the index in force after a whole record
abbrev pub index_with : Option (List PeerKey) → BodyKind → List ℕ → Option (List PeerKey)
index_with index content body = if is_index_content content then index_of_body body else index

-- the index in force after a cut
abbrev pub index_after : FamilyOf → Option (List PeerKey) → Cut → Option (List PeerKey)
index_after family index (Whole r) = index_with index (body_kind_of family r.kind r.subtype) r.body
index_after family index (Broken offset fault) = index

-- the bodies of index tables
abbrev pub index_body : FamilyOf → Cut → Option (List ℕ)
index_body family (Whole r) = if is_index_content (body_kind_of family r.kind r.subtype) then Some r.body else None
index_body family (Broken offset fault) = None

-- ---- what files give

-- the index in force after these cuts: that of the last index table among them
abbrev pub index_before : FamilyOf → List Cut → Option (List PeerKey)
index_before family earlier = option_and_then index_of_body (last_or None (filter_map (index_body family) earlier))

-- the dumps behind these cuts, where this index is in force and these dumps were before the first
abbrev pub dumps_behind_cuts : ℕ → UnitSelection → Option (List PeerKey) → DumpsState → List Cut → DumpsState
dumps_behind_cuts file selection index dumps [] = dumps
dumps_behind_cuts file selection index dumps (cut ∷ others) =
    dumps_behind_cuts file selection (index_after selection.rules.family index cut) (dumps_after file selection index dumps cut) others

-- an index holds in its own file alone; dumps are followed from one file to the next
abbrev pub found_in_file : UnitSelection → ℕ → DumpsState → List ℕ → List Found
found_in_file selection file dumps bytes =
    flat_map_after
    (λ earlier cut. found_at file selection (index_before selection.rules.family earlier)
    (dumps_behind_cuts file selection None dumps earlier) cut)
    [] (cuts 0 bytes)

-- the files from this number on
abbrev pub found_in_files : UnitSelection → ℕ → DumpsState → List (List ℕ) → List Found
found_in_files selection file dumps [] = []
found_in_files selection file dumps (bytes ∷ files) =
    found_in_file selection file dumps bytes
    ++ found_in_files selection (file + 1) (dumps_behind_cuts file selection None dumps (cuts 0 bytes)) files

-- those that are selected
unfoldable pub found_in : UnitSelection → List (List ℕ) → List Found
found_in selection files = found_in_files selection 0 no_dumps files

-- ---- the same, as a reading goes on

-- what the cuts give, where this index is in force and these dumps were before the first
abbrev pub found_from : ℕ → UnitSelection → Option (List PeerKey) → DumpsState → List Cut → List Found
found_from file selection index dumps [] = []
found_from file selection index dumps (cut ∷ others) =
    found_at file selection index dumps cut
    ++ found_from file selection (index_after selection.rules.family index cut) (dumps_after file selection index dumps cut) others

abbrev pub unit_of : Found → Option ReplayUnit
unit_of (found.Unit unit) = Some unit
unit_of (found.Refused damage) = None

abbrev pub damage_of : Found → Option Damage
damage_of (found.Unit unit) = None
damage_of (found.Refused damage) = Some damage

unfoldable pub units_of : UnitSelection → List (List ℕ) → List ReplayUnit
units_of selection files = filter_map unit_of (found_in selection files)

unfoldable pub refused_of : UnitSelection → List (List ℕ) → List Damage
refused_of selection files = filter_map damage_of (found_in selection files)

abbrev pub IsSmall : Found → Type 0
IsSmall (found.Unit unit) = IsSmallUnit unit
IsSmall (found.Refused damage) = ⊤

-- ---- counts of cut records, whatever their time

abbrev pub is_whole : Cut → Bool
is_whole (Whole r) = true
is_whole (Broken offset fault) = false

abbrev pub leaves_old_dumps : TableDumpRule → Bool
leaves_old_dumps Aside = true
leaves_old_dumps Read = false

abbrev pub is_aside_content : TableDumpRule → BodyKind → Bool
is_aside_content rule content.Aside = true
is_aside_content rule content.IndexTable = false
is_aside_content rule (content.Rib add_path) = false
is_aside_content rule (content.Message width add_path) = false
is_aside_content rule (content.States width) = false
is_aside_content rule content.OldEntry = leaves_old_dumps rule

-- one for a record aside
abbrev pub aside_count : TableDumpRule → BodyKind → ℕ
aside_count rule content = if is_aside_content rule content then 1 else 0

abbrev pub is_aside : UnitSelection → Cut → Bool
is_aside selection (Whole r) =
    is_aside_content selection.table_dumps (body_kind_of selection.rules.family r.kind r.subtype)
is_aside selection (Broken offset fault) = false

abbrev pub all_cuts : List (List ℕ) → List Cut
all_cuts files = flat_map (cuts 0) files

abbrev pub records_of : List (List ℕ) → ℕ
records_of files = count_by is_whole (all_cuts files)

abbrev pub aside_of : UnitSelection → List (List ℕ) → ℕ
aside_of selection files = count_by (is_aside selection) (all_cuts files)
