-- Which fault refuses a body that doesn't agree with the form of its record: that of the first field that is broken.
use Rattle.std.specs.Prelude.{◌≡◌, ◌≢◌, ◌⊎◌, ℕ, ◌^◌, ◌<◌, ◌≤◌, Bool, List, ◌∷◌, ◌++◌, length, Option, Some, None}
use Rattle.std.specs.Int.{div_ceil}
use Rattle.std.specs.List.{flat_map}
use Rattle.byteorder.specs.Endian.{big_bytes}
use Rattle.mrt_frame.specs.declared.fault.Fault.{Fault}
use Rattle.mrt_frame.specs.declared.fault.Fault.TheVariants.{ShortRecord, TrailingBytes, BadFamily, NoPeerIndex, BadPeerIndex, BadPrefix}
use Rattle.bgp_update.specs.Families.{FamilyOf}
use Rattle.bgp_update.specs.declared.width.Width.{Width}
use Rattle.bgp_update.specs.Segments.{number_len}
use Rattle.mrt_body.specs.declared.record_place.RecordAt.{RecordAt}
use Rattle.mrt_body.specs.declared.body_kind.BodyKind.{BodyKind}
use Rattle.mrt_body.specs.declared.body_kind.BodyKind.TheVariants as content
use Rattle.peer_units.specs.declared.table_dump_rule.TableDumpRule.{TableDumpRule}
use Rattle.peer_units.specs.declared.table_dump_rule.TableDumpRule.TheVariants.{Aside, Read}
use Rattle.peer_units.specs.Choices.{UnitSelection}
use Rattle.peer_units.specs.declared.unit.PeerKey.{PeerKey}
use Rattle.peer_units.specs.Plain.{Unit as ReplayUnit}
use Rattle.mrt_body.specs.Indexes.{asn_bytes}
use Rattle.mrt_body.specs.RibRecords.{RibForm, FitsRib, entry_bytes}
use Rattle.mrt_body.specs.OldEntries.{OldPrefix, address_len, is_ipv6_family, old_prefix_bytes}
use Rattle.mrt_body.specs.Bgp4mp.{microseconds_bytes, FitsMicroseconds}
use Rattle.mrt_body.specs.Agreement.{Agrees}

-- bytes stand behind a body that agrees
pub record HasMore
    (selection : UnitSelection) (known : List PeerKey) (at : RecordAt) (extended : Bool) (index : Option (List PeerKey)) (c : BodyKind) (body : List ℕ)
    : Type 0 where
  pub front : List ℕ
  pub more : List ℕ
  pub units : List ReplayUnit
  pub parts : body ≡ front ++ more
  pub some : 0 < length more
  pub agrees : Agrees selection known at extended index c front units

-- behind the fields before it stands an address family that is neither IPv4 nor IPv6
pub record HasOtherFamily (extended : Bool) (width : Width) (body : List ℕ) : Type 0 where
  pub microseconds : ℕ
  pub peer_as : ℕ
  pub local_as : ℕ
  pub interface : ℕ
  pub family : ℕ
  pub rest : List ℕ
  pub fits_microseconds : FitsMicroseconds extended microseconds
  pub fits_peer_as : peer_as < 256 ^ number_len width
  pub fits_local_as : local_as < 256 ^ number_len width
  pub fits_interface : interface < 256 ^ 2
  pub fits_family : family < 256 ^ 2
  pub other : (family ≢ 1) × (family ≢ 2)
  pub spelled : body ≡ microseconds_bytes extended microseconds
      ++ (asn_bytes width peer_as
      ++ (asn_bytes width local_as
      ++ (big_bytes 2 interface
      ++ (big_bytes 2 family ++ rest))))

-- behind the sequence number stands the length of a prefix that is over the width of the family's addresses, or has
-- more bytes than are left
pub record HasBadPrefix (family : FamilyOf) (body : List ℕ) : Type 0 where
  pub sequence : ℕ
  pub len : ℕ
  pub rest : List ℕ
  pub fits_sequence : sequence < 256 ^ 4
  pub bad : (family.width < len) ⊎ (length rest < div_ceil len 8)
  pub spelled : body ≡ big_bytes 4 sequence ++ (len ∷ rest)

-- behind fewer entries than the count says stands an index that is that of none of so many peers
pub record HasUnknownPeer (family : FamilyOf) (add_path : Bool) (peers : ℕ) (body : List ℕ) : Type 0 where
  pub form : RibForm
  pub count : ℕ
  pub peer : ℕ
  pub rest : List ℕ
  pub fits : FitsRib family add_path peers form
  pub fewer : length form.entries < count
  pub fits_count : count < 256 ^ 2
  pub fits_peer : peer < 256 ^ 2
  pub unknown : peers ≤ peer
  pub spelled : body ≡ big_bytes 4 form.sequence
      ++ ((form.len ∷ form.octets)
      ++ (big_bytes 2 count
      ++ (flat_map (entry_bytes add_path) form.entries
      ++ (big_bytes 2 peer ++ rest))))

-- behind the numbers and an address stands a length that is over the width of the family's addresses, or has more bytes
-- than the address
pub record HasBadOldPrefix (family : FamilyOf) (body : List ℕ) : Type 0 where
  pub prefix : OldPrefix
  pub rest : List ℕ
  pub numbers : length prefix.numbers ≡ 4
  pub octets : length prefix.octets ≡ address_len (is_ipv6_family family)
  pub bad : (family.width < prefix.len) ⊎ (length prefix.octets < div_ceil prefix.len 8)
  pub spelled : body ≡ old_prefix_bytes prefix ++ rest

-- what is wrong with a TABLE_DUMP record, other than a field that runs past the body
abbrev pub HasOldFault : TableDumpRule → UnitSelection → List PeerKey → RecordAt → Bool → Option (List PeerKey) → List ℕ → Fault → Type 0
HasOldFault Aside selection known at extended index body fault = ⊥
HasOldFault Read selection known at extended index body fault =
    ((fault ≡ BadPrefix) × HasBadOldPrefix selection.rules.family body)
    ⊎ ((fault ≡ TrailingBytes) × HasMore selection known at extended index content.OldEntry body)

-- what is wrong with a RIB record beside this index, other than a field that runs past the body
abbrev pub HasRibFault : UnitSelection → List PeerKey → RecordAt → Bool → Bool → Option (List PeerKey) → List ℕ → Fault → Type 0
HasRibFault selection known at extended add_path None body fault = fault ≡ NoPeerIndex
HasRibFault selection known at extended add_path (Some peers) body fault =
    ((fault ≡ BadPrefix) × HasBadPrefix selection.rules.family body)
    ⊎ (((fault ≡ BadPeerIndex) × HasUnknownPeer selection.rules.family add_path (length peers) body)
    ⊎ ((fault ≡ TrailingBytes) × HasMore selection known at extended (Some peers) (content.Rib add_path) body))

-- what is wrong with a body, other than a field that runs past it
abbrev pub HasFault : UnitSelection → List PeerKey → RecordAt → Bool → Option (List PeerKey) → BodyKind → List ℕ → Fault → Type 0
HasFault selection known at extended index content.IndexTable body fault =
    (fault ≡ TrailingBytes) × HasMore selection known at extended index content.IndexTable body
HasFault selection known at extended index (content.Rib add_path) body fault = HasRibFault selection known at extended add_path index body fault
HasFault selection known at extended index (content.Message width add_path) body fault =
    (fault ≡ BadFamily) × HasOtherFamily extended width body
HasFault selection known at extended index (content.States width) body fault =
    ((fault ≡ BadFamily) × HasOtherFamily extended width body)
    ⊎ ((fault ≡ TrailingBytes) × HasMore selection known at extended index (content.States width) body)
HasFault selection known at extended index content.OldEntry body fault =
    HasOldFault selection.table_dumps selection known at extended index body fault
HasFault selection known at extended index content.Aside body fault = ⊥

-- A body that doesn't agree is refused for what is wrong with it, and where nothing else is, for a field that runs
-- past it.
abbrev pub IsRefused : UnitSelection → List PeerKey → RecordAt → Bool → Option (List PeerKey) → BodyKind → List ℕ → Fault → Type 0
IsRefused selection known at extended index c body fault =
    HasFault selection known at extended index c body fault
    ⊎ ((fault ≡ ShortRecord)
    × ((units : List ReplayUnit) → Agrees selection known at extended index c body units → ⊥)
    × ((other : Fault) → HasFault selection known at extended index c body other → ⊥))
