-- Which bodies agree with the form of their record: those that are its fields, one after the other, each in its range
-- (RFC 6396, 4.2 to 4.4, and 3 for extended timestamps; RFC 8050). And what such a body says.
use Rattle.std.specs.Prelude.{◌≡◌, ℕ, ◌^◌, ◌<◌, Bool, List, [], ◌∷◌, ◌++◌, length, Option, Some, None}
use Rattle.byteorder.specs.Endian.{big_bytes}
use Rattle.bgp_update.specs.Families.{Rules, by_entry_width, of_peer}
use Rattle.bgp_update.specs.declared.width.Width.{Width}
use Rattle.bgp_update.specs.declared.width.Width.TheVariants.{Four}
use Rattle.mrt_body.specs.declared.record_place.RecordAt.{RecordAt}
use Rattle.mrt_body.specs.declared.body_kind.BodyKind.{BodyKind}
use Rattle.mrt_body.specs.declared.body_kind.BodyKind.TheVariants as content
use Rattle.peer_units.specs.declared.table_dump_rule.TableDumpRule.{TableDumpRule}
use Rattle.peer_units.specs.declared.table_dump_rule.TableDumpRule.TheVariants.{Aside, Read}
use Rattle.peer_units.specs.Choices.{UnitSelection}
use Rattle.peer_units.specs.declared.unit.PeerKey.{PeerKey}
use Rattle.peer_units.specs.declared.unit.Payload.TheVariants.{Message}
use Rattle.peer_units.specs.Plain.{Unit as ReplayUnit}
use Rattle.mrt_body.specs.Indexes.{IndexForm, FitsIndex, index_bytes, peers_of_index}
use Rattle.mrt_body.specs.RibRecords.{RibForm, FitsRib, rib_bytes}
use Rattle.mrt_body.specs.Bgp4mp.{SessionForm, FitsSession, session_bytes, session_ends, session_peer, is_external, microseconds_bytes, FitsMicroseconds, change_with}
use Rattle.mrt_body.specs.declared.bgp4mp.StateChange.{StateChange}
use Rattle.mrt_body.specs.OldEntries.{OldEntryForm, FitsOldEntry, old_entry_bytes}
use Rattle.mrt_body.specs.Units.{change_units, old_unit, rib_units, session_unit}

-- a PEER_INDEX_TABLE with these peers
pub record IsIndexBody (body : List ℕ) (peers : List PeerKey) : Type 0 where
  pub form : IndexForm
  pub fits : FitsIndex form
  pub spelled : body ≡ index_bytes form
  pub said : peers ≡ peers_of_index form

-- a RIB record of the family that is asked for, beside an index of these peers
pub record IsRibBody
    (rules : Rules) (at : RecordAt) (add_path : Bool) (peers : List PeerKey) (body : List ℕ) (units : List ReplayUnit)
    : Type 0 where
  pub form : RibForm
  pub fits : FitsRib rules.family add_path (length peers) form
  pub spelled : body ≡ rib_bytes add_path form
  pub said : units ≡ rib_units rules at (Some peers) form

-- without an index no RIB record agrees
abbrev pub IsRibBodyBeside : Rules → RecordAt → Bool → Option (List PeerKey) → List ℕ → List ReplayUnit → Type 0
IsRibBodyBeside rules at add_path None body units = ⊥
IsRibBodyBeside rules at add_path (Some peers) body units = IsRibBody rules at add_path peers body units

-- microseconds where the timestamp is extended, the session, and a message to the end, which may be empty; the unit has
-- the rules that were asked for, as they are for an external peer or another one
pub record IsMessageBody
    (rules : Rules) (at : RecordAt) (extended : Bool) (width : Width) (add_path : Bool) (body : List ℕ) (unit : ReplayUnit)
    : Type 0 where
  pub microseconds : ℕ
  pub session : SessionForm
  pub message : List ℕ
  pub fits_microseconds : FitsMicroseconds extended microseconds
  pub fits_session : FitsSession width session
  pub spelled : body ≡ microseconds_bytes extended microseconds ++ (session_bytes width session ++ message)
  pub said : unit ≡ session_unit at microseconds (session_peer session)
      (Message message width add_path (of_peer (is_external session) rules))

-- microseconds where the timestamp is extended, the session, old state 2, and new state 2
pub record IsStatesBody (extended : Bool) (width : Width) (body : List ℕ) (change : StateChange) : Type 0 where
  pub microseconds : ℕ
  pub session : SessionForm
  pub from : ℕ
  pub to : ℕ
  pub fits_microseconds : FitsMicroseconds extended microseconds
  pub fits_session : FitsSession width session
  pub fits_from : from < 256 ^ 2
  pub fits_to : to < 256 ^ 2
  pub spelled : body ≡ microseconds_bytes extended microseconds
      ++ (session_bytes width session ++ (big_bytes 2 from ++ big_bytes 2 to))
  pub said : change ≡ change_with microseconds (session_ends session) (from, to)

-- the fields of an entry of TABLE_DUMP
pub record IsOldBody (rules : Rules) (at : RecordAt) (body : List ℕ) (unit : ReplayUnit) : Type 0 where
  pub form : OldEntryForm
  pub fits : FitsOldEntry rules.family form
  pub spelled : body ≡ old_entry_bytes form
  pub said : unit ≡ old_unit rules at form

-- one that is left aside has no units, whatever its body is
abbrev pub AgreesOld : TableDumpRule → Rules → RecordAt → List ℕ → List ReplayUnit → Type 0
AgreesOld Aside rules at body units = units ≡ []
AgreesOld Read rules at body units = (unit : ReplayUnit) × IsOldBody rules at body unit × (units ≡ unit ∷ [])

-- a record with this content agrees with its form beside the index in force and the known peers, and these are its
-- units
abbrev pub Agrees : UnitSelection → List PeerKey → RecordAt → Bool → Option (List PeerKey) → BodyKind → List ℕ → List ReplayUnit → Type 0
Agrees selection known at extended index content.IndexTable body units =
    ((peers : List PeerKey) × IsIndexBody body peers) × (units ≡ [])
Agrees selection known at extended index (content.Rib add_path) body units = IsRibBodyBeside (by_entry_width Four selection.rules) at add_path index body units
Agrees selection known at extended index (content.Message width add_path) body units =
    (unit : ReplayUnit) × IsMessageBody selection.rules at extended width add_path body unit × (units ≡ unit ∷ [])
Agrees selection known at extended index (content.States width) body units =
    (change : StateChange) × IsStatesBody extended width body change × (units ≡ change_units selection known at change)
Agrees selection known at extended index content.OldEntry body units =
    AgreesOld selection.table_dumps selection.rules at body units
Agrees selection known at extended index content.Aside body units = units ≡ []
