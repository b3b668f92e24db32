-- The numbers of the kinds of records in a dump of tables (RFC 6396, 4.3 and 4.4; RFC 8050, 3 and 4).
use Rattle.std.specs.Prelude.{ℕ, Bool, true, false}
use Rattle.bgp_update.specs.Families.{FamilyOf}
use Rattle.mrt_writing.specs.declared.record_kind.RecordKind.{RecordKind}
use Rattle.mrt_writing.specs.declared.record_kind.RecordKind.TheVariants.{PeerIndexTable, StateChange, Rib, Message}

-- TABLE_DUMP_V2 is 13, BGP4MP 16
abbrev pub mrt_type : RecordKind → ℕ
mrt_type PeerIndexTable = 13
mrt_type StateChange = 16
mrt_type (Rib add_path) = 13
mrt_type (Message add_path) = 16

-- RIB_IPV4_UNICAST and the like, or their forms with ADD-PATH
abbrev pub rib_subtype : FamilyOf → Bool → ℕ
rib_subtype family true = family.rib_add_path
rib_subtype family false = family.rib

-- BGP4MP_MESSAGE_AS4 is 4, BGP4MP_MESSAGE_AS4_ADDPATH 9
abbrev pub message_subtype : Bool → ℕ
message_subtype true = 9
message_subtype false = 4

-- PEER_INDEX_TABLE is 1, BGP4MP_STATE_CHANGE_AS4 5
abbrev pub mrt_subtype : FamilyOf → RecordKind → ℕ
mrt_subtype family PeerIndexTable = 1
mrt_subtype family StateChange = 5
mrt_subtype family (Rib add_path) = rib_subtype family add_path
mrt_subtype family (Message add_path) = message_subtype add_path
