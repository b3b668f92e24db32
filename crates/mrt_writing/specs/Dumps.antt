-- The records of a dump of tables, and the units that they are read as (RFC 6396, 4.3 and 4.4; RFC 8050).
use Rattle.std.specs.Prelude.{◌≡◌, ℕ, ◌+◌, ◌^◌, ◌<◌, ◌≤◌, ◌==◌, not, Bool, List, [], ◌∷◌, ◌++◌, length, map}
use Rattle.std.specs.List.{AllByRecursion}
use Rattle.bgp_prefix.specs.Prefixes.{IpPrefix}
use Rattle.bgp_prefix.specs.Keys.{RouteKey}
use Rattle.mrt_frame.specs.Cuts.{body_limit}
use Rattle.bgp_update.specs.declared.route.Route.{Route}
use Rattle.bgp_update.specs.declared.width.Width.TheVariants.{Four}
use Rattle.bgp_update.specs.Families.{FamilyOf, RouteRules, Rules, by_entry_width, of_peer}
use Rattle.peer_units.specs.declared.state_rule.StateRule.{StateRule}
use Rattle.peer_units.specs.declared.unit.PeerKey.{PeerKey}
use Rattle.peer_units.specs.declared.unit.Payload.TheVariants as payload
use Rattle.peer_units.specs.States.{ESTABLISHED}
use Rattle.peer_units.specs.Plain.{Unit as ReplayUnit}
use Rattle.mrt_body.specs.declared.record_place.RecordAt.{RecordAt}
use Rattle.mrt_body.specs.declared.body_kind.BodyKind.TheVariants as content
use Rattle.mrt_body.specs.Bgp4mp.{is_external}
use Rattle.mrt_body.specs.Indexes.{index_bytes}
use Rattle.mrt_body.specs.RibRecords.{rib_bytes}
use Rattle.mrt_body.specs.Units.{session_unit, body_kind_of, at_record}
use Rattle.mrt_writing.specs.Heads.{written_index, written_session, states_bytes, FitsPeerKey}
use Rattle.mrt_writing.specs.RibRecords.{PrefixRoute, written_rib, FitsPrefixRecord, units_of_entries}
use Rattle.mrt_writing.specs.Updates.{update_message, message_body, FitsUpdate}
use Rattle.mrt_writing.specs.declared.record_kind.RecordKind.{RecordKind}
use Rattle.mrt_writing.specs.declared.record_kind.RecordKind.TheVariants.{PeerIndexTable, StateChange, Rib, Message}
use Rattle.mrt_writing.specs.Kinds.{mrt_type, mrt_subtype, rib_subtype}
use Rattle.mrt_writing.specs.Records.{WrittenRecord, written_size}

-- a record of a dump, behind its index table: a peer's state change; a numbered record of a prefix, with path
-- identifiers or without; an UPDATE of a peer
pub data DumpRecord : Type 0 where
  state : PeerKey → ℕ → DumpRecord
  rib : ℕ → Bool → IpPrefix → List PrefixRoute → DumpRecord
  update : PeerKey → RouteKey → Route → DumpRecord

-- an identifier is written where it isn't 0
abbrev pub has_identifier : RouteKey → Bool
has_identifier key = not (key.id == 0)

-- a record of this kind
abbrev pub of_kind : FamilyOf → ℕ → RecordKind → List ℕ → WrittenRecord
of_kind family seconds kind body = record {
  seconds = seconds;
  kind = mrt_type kind;
  subtype = mrt_subtype family kind;
  body = body;
}

abbrev pub index_record : FamilyOf → ℕ → List PeerKey → WrittenRecord
index_record family seconds peers = of_kind family seconds PeerIndexTable (index_bytes (written_index peers))

-- a state change from Established; a message with ADD-PATH where there is an identifier
abbrev pub record_of : FamilyOf → ℕ → DumpRecord → WrittenRecord
record_of family seconds (state p to) = of_kind family seconds StateChange (states_bytes p ESTABLISHED to)
record_of family seconds (rib sequence add_path prefix entries) =
    of_kind family seconds (Rib add_path) (rib_bytes add_path (written_rib family seconds sequence prefix entries))
record_of family seconds (update p key r) =
    of_kind family seconds (Message (has_identifier key))
    (message_body p (update_message family (has_identifier key) key r))

-- the records of a dump: the index table, and these
abbrev pub dump_records : FamilyOf → ℕ → List PeerKey → List DumpRecord → List WrittenRecord
dump_records family seconds peers records = index_record family seconds peers ∷ map (record_of family seconds) records

-- ---- what can be written

abbrev pub FitsDumpRecord : RouteRules → ℕ → List PeerKey → DumpRecord → Type 0
FitsDumpRecord rules seconds peers (state p to) = FitsPeerKey p × (to < 256 ^ 2)
FitsDumpRecord rules seconds peers (rib sequence add_path prefix entries) =
    FitsPrefixRecord rules add_path (length peers) seconds sequence prefix entries
    × (length (rib_bytes add_path (written_rib rules.family seconds sequence prefix entries)) ≤ body_limit)
FitsDumpRecord rules seconds peers (update p key r) = FitsPeerKey p × FitsUpdate rules (has_identifier key) key r

-- the family's records of both forms are told from index tables and from each other
pub record HasRibKinds (family : FamilyOf) : Type 0 where
  pub kinds : (add_path : Bool) → body_kind_of family 13 (rib_subtype family add_path) ≡ content.Rib add_path
  pub fit : (add_path : Bool) → rib_subtype family add_path < 256 ^ 2

pub record FitsDump (rules : RouteRules) (seconds : ℕ) (peers : List PeerKey) (records : List DumpRecord) : Type 0 where
  pub time : seconds < 256 ^ 4
  pub kinds : HasRibKinds rules.family
  pub few : length peers < 256 ^ 2
  pub fit_peers : AllByRecursion FitsPeerKey peers
  pub each : AllByRecursion (FitsDumpRecord rules seconds peers) records

-- ---- the units

-- the rules for a peer's messages in a dump, where its local end has AS 0
abbrev pub rules_for : PeerKey → Rules → Rules
rules_for p rules = of_peer (is_external (written_session p)) rules

abbrev pub units_of_record : Rules → StateRule → RecordAt → List PeerKey → DumpRecord → List ReplayUnit
units_of_record rules rule at peers (state p to) = session_unit at 0 p (payload.State ESTABLISHED to rule) ∷ []
units_of_record rules rule at peers (rib sequence add_path prefix entries) =
    units_of_entries (by_entry_width Four rules) at peers prefix 1 entries
units_of_record rules rule at peers (update p key r) =
    session_unit at 0 p
    (payload.Message (update_message rules.family (has_identifier key) key r) Four (has_identifier key)
    (rules_for p rules))
    ∷ []

-- of records behind the index table, the first of which stands at this offset
abbrev pub units_of_dump : ℕ → ℕ → Rules → StateRule → ℕ → List PeerKey → List DumpRecord → List ReplayUnit
units_of_dump file offset rules rule seconds peers [] = []
units_of_dump file offset rules rule seconds peers (r ∷ records) =
    units_of_record rules rule (at_record file offset seconds) peers r
    ++ units_of_dump file (offset + written_size (record_of rules.family seconds r)) rules rule seconds peers records
