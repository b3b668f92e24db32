-- The RIB records of one family, RIB_IPV4_UNICAST or RIB_IPV6_UNICAST (RFC 6396, 4.3.2 and 4.3.4), and their forms with
-- path identifiers (RFC 8050, 4).
use Rattle.std.specs.Prelude.{ℕ, ◌^◌, ◌<◌, ◌≤◌, ◌≡◌, Bool, true, false, List, [], ◌∷◌, ◌++◌, length, Option, Some, None, Result, Ok, Err, nat_lt, if◌then◌else◌}
use Rattle.std.specs.Int.{div_ceil}
use Rattle.std.specs.List.{flat_map, AllByRecursion}
use Rattle.byteorder.specs.Endian.{big_bytes}
use Rattle.bgp_prefix.specs.Prefixes.{IpPrefix}
use Rattle.mrt_frame.specs.declared.fault.Fault.{Fault}
use Rattle.mrt_frame.specs.declared.fault.Fault.TheVariants.{ShortRecord, NoPeerIndex, BadPeerIndex}
use Rattle.mrt_frame.specs.Fields.{Reading, ◌>>=◌, byte_at, number_at, bytes_at}
use Rattle.bgp_update.specs.Families.{FamilyOf}
use Rattle.bgp_update.specs.Keys.{octets_at, prefix_of}
use Rattle.peer_units.specs.declared.unit.PeerKey.{PeerKey}
use Rattle.mrt_body.specs.Many.{many}

-- peer index 2, originated time 4, path identifier 4 where there are some, attributes length 2, attributes
pub record WrittenEntry : Type 0 where
  pub peer : ℕ
  pub originated : ℕ
  pub identifier : ℕ
  pub attributes : List ℕ

-- an identifier has four bytes, in records with ADD-PATH alone
abbrev pub identifier_bytes : Bool → ℕ → List ℕ
identifier_bytes true identifier = big_bytes 4 identifier
identifier_bytes false identifier = []

abbrev pub entry_bytes : Bool → WrittenEntry → List ℕ
entry_bytes add_path e =
    big_bytes 2 e.peer
    ++ (big_bytes 4 e.originated
    ++ (identifier_bytes add_path e.identifier
    ++ (big_bytes 2 (length e.attributes) ++ e.attributes)))

-- without identifiers each is 0
abbrev pub FitsIdentifier : Bool → ℕ → Type 0
FitsIdentifier true identifier = identifier < 256 ^ 4
FitsIdentifier false identifier = identifier ≡ 0

-- the index is that of one of so many peers
pub record FitsEntry (add_path : Bool) (peers : ℕ) (e : WrittenEntry) : Type 0 where
  pub known : e.peer < peers
  pub peer : e.peer < 256 ^ 2
  pub originated : e.originated < 256 ^ 4
  pub identifier : FitsIdentifier add_path e.identifier
  pub attributes : length e.attributes < 256 ^ 2

-- sequence 4, prefix, entry count 2, entries
pub record RibForm : Type 0 where
  pub sequence : ℕ
  pub len : ℕ
  pub octets : List ℕ
  pub entries : List WrittenEntry

abbrev pub rib_bytes : Bool → RibForm → List ℕ
rib_bytes add_path form =
    big_bytes 4 form.sequence
    ++ ((form.len ∷ form.octets)
    ++ (big_bytes 2 (length form.entries) ++ flat_map (entry_bytes add_path) form.entries))

pub record FitsRib (family : FamilyOf) (add_path : Bool) (peers : ℕ) (form : RibForm) : Type 0 where
  pub sequence : form.sequence < 256 ^ 4
  pub short : form.len ≤ family.width
  pub octets : length form.octets ≡ div_ceil form.len 8
  pub count : length form.entries < 256 ^ 2
  pub entries : AllByRecursion (FitsEntry add_path peers) form.entries

-- ---- reading

-- the number of one of so many peers
abbrev pub peer_index_at : ℕ → List ℕ → Reading ℕ
peer_index_at peers bytes = number_at ShortRecord 2 bytes >>= λ index.
    if nat_lt index.0 peers then Ok index else Err BadPeerIndex

abbrev pub identifier_at : Bool → List ℕ → Reading ℕ
identifier_at true bytes = number_at ShortRecord 4 bytes
identifier_at false bytes = Ok (0, bytes)

unfoldable pub entry_at : Bool → ℕ → List ℕ → Reading WrittenEntry
entry_at add_path peers bytes = do
  peer ← peer_index_at peers bytes
  originated ← number_at ShortRecord 4 peer.1
  identifier ← identifier_at add_path originated.1
  len ← number_at ShortRecord 2 identifier.1
  attributes ← bytes_at ShortRecord len.0 len.1
  Ok (
    record { peer = peer.0; originated = originated.0; identifier = identifier.0; attributes = attributes.0 },
    attributes.1,
  )

-- what stands before the entries
pub record RibHead : Type 0 where
  pub sequence : ℕ
  pub len : ℕ
  pub octets : List ℕ
  pub count : ℕ

unfoldable pub rib_head_at : FamilyOf → List ℕ → Reading RibHead
rib_head_at family bytes = do
  sequence ← number_at ShortRecord 4 bytes
  len ← byte_at ShortRecord sequence.1
  octets ← octets_at family.width len.0 len.1
  count ← number_at ShortRecord 2 octets.1
  Ok (record { sequence = sequence.0; len = len.0; octets = octets.0; count = count.0 }, count.1)

-- the record that a body spells beside an index of so many peers, or its first fault
unfoldable pub rib_in : FamilyOf → Bool → ℕ → List ℕ → Result RibForm Fault
rib_in family add_path peers body =
    rib_head_at family body >>= λ head.
    many (entry_at add_path peers) head.0.count head.1 >>= λ entries.
    Ok (record { sequence = head.0.sequence; len = head.0.len; octets = head.0.octets; entries = entries })

-- without an index no record is read
abbrev pub rib_beside : FamilyOf → Bool → Option (List PeerKey) → List ℕ → Result RibForm Fault
rib_beside family add_path None body = Err NoPeerIndex
rib_beside family add_path (Some peers) body = rib_in family add_path (length peers) body

abbrev pub rib_prefix : RibForm → IpPrefix
rib_prefix form = prefix_of form.len form.octets

-- ---- what is kept of a record

pub record RibSummary : Type 0 where
  pub prefix : IpPrefix
  pub count : ℕ

unfoldable pub read_head_at : FamilyOf → List ℕ → Reading RibSummary
read_head_at family bytes = rib_head_at family bytes >>= λ head.
    Ok (record { prefix = prefix_of head.0.len head.0.octets; count = head.0.count }, head.1)

pub record ReadEntry : Type 0 where
  pub peer : ℕ
  pub identifier : ℕ
  pub attributes : List ℕ

abbrev pub read_of : WrittenEntry → ReadEntry
read_of e = record { peer = e.peer; identifier = e.identifier; attributes = e.attributes }

unfoldable pub read_entry_at : Bool → ℕ → List ℕ → Reading ReadEntry
read_entry_at add_path peers bytes = entry_at add_path peers bytes >>= λ e. Ok (read_of e.0, e.1)
