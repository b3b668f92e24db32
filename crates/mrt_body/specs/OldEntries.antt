-- The records of TABLE_DUMP (RFC 6396, 4.2): an entry of a peer's RIB each, with AS numbers of two bytes.
use Rattle.std.specs.Prelude.{◌≡◌, ℕ, ◌^◌, ◌<◌, ◌≤◌, Bool, true, false, List, [], ◌∷◌, ◌++◌, length, take, Result, Ok, ◌==◌}
use Rattle.std.specs.Int.{div_ceil}
use Rattle.byteorder.specs.Endian.{big_bytes}
use Rattle.bgp_prefix.specs.Prefixes.{IpPrefix}
use Rattle.mrt_frame.specs.declared.fault.Fault.{Fault}
use Rattle.mrt_frame.specs.declared.fault.Fault.TheVariants.{ShortRecord}
use Rattle.mrt_frame.specs.Fields.{Reading, ◌>>=◌, byte_at, bytes_at, number_at}
use Rattle.bgp_update.specs.Families.{FamilyOf}
use Rattle.bgp_update.specs.Keys.{octets_at, prefix_of}
use Rattle.peer_units.specs.declared.unit.PeerAddr.{PeerAddr}
use Rattle.peer_units.specs.declared.unit.PeerKey.{PeerKey}
use Rattle.mrt_body.specs.Indexes.{addr_at, addr_bytes, is_ipv6, FitsAddr}
use Rattle.mrt_body.specs.Many.{ended}

-- AFI_IPv6 is the subtype of a record whose addresses are IPv6's
abbrev pub is_ipv6_family : FamilyOf → Bool
is_ipv6_family family = family.afi == 2

-- how many bytes an address has
abbrev pub address_len : Bool → ℕ
address_len true = 16
address_len false = 4

-- ---- the fields

-- view 2 and sequence 2, which aren't read, the address of the prefix, and its length
pub record OldPrefix : Type 0 where
  pub numbers : List ℕ
  pub octets : List ℕ
  pub len : ℕ

abbrev pub old_prefix_bytes : OldPrefix → List ℕ
old_prefix_bytes p = p.numbers ++ (p.octets ++ (p.len ∷ []))

-- the length is none over the width of the family's addresses, and the address has all of the prefix's bits
pub record FitsOldPrefix (family : FamilyOf) (p : OldPrefix) : Type 0 where
  pub numbers : length p.numbers ≡ 4
  pub octets : length p.octets ≡ address_len (is_ipv6_family family)
  pub short : p.len ≤ family.width
  pub whole : div_ceil p.len 8 ≤ length p.octets

-- status 1 and originated time 4, which aren't read, the peer's address, and its AS 2
pub record OldPeer : Type 0 where
  pub times : List ℕ
  pub addr : PeerAddr
  pub asn : ℕ

abbrev pub old_peer_bytes : OldPeer → List ℕ
old_peer_bytes p = p.times ++ (addr_bytes p.addr ++ big_bytes 2 p.asn)

pub record FitsOldPeer (ipv6 : Bool) (p : OldPeer) : Type 0 where
  pub times : length p.times ≡ 5
  pub family : is_ipv6 p.addr ≡ ipv6
  pub addr : FitsAddr p.addr
  pub asn : p.asn < 256 ^ 2

-- and then attributes length 2, and the attributes to the end
pub record OldEntryForm : Type 0 where
  pub prefix : OldPrefix
  pub peer : OldPeer
  pub attributes : List ℕ

abbrev pub old_entry_bytes : OldEntryForm → List ℕ
old_entry_bytes form =
    old_prefix_bytes form.prefix
    ++ (old_peer_bytes form.peer ++ (big_bytes 2 (length form.attributes) ++ form.attributes))

pub record FitsOldEntry (family : FamilyOf) (form : OldEntryForm) : Type 0 where
  pub prefix : FitsOldPrefix family form.prefix
  pub peer : FitsOldPeer (is_ipv6_family family) form.peer
  pub attributes : length form.attributes < 256 ^ 2

-- ---- what they say

-- bits past the length aren't part of the prefix
abbrev pub prefix_said : OldPrefix → IpPrefix
prefix_said p = prefix_of p.len (take (div_ceil p.len 8) p.octets)

abbrev pub peer_said : OldPeer → PeerKey
peer_said p = record { asn = p.asn; addr = p.addr }

-- ---- reading

abbrev pub prefix_with : List ℕ → List ℕ → ℕ → OldPrefix
prefix_with numbers octets len = record { numbers = numbers; octets = octets; len = len }

unfoldable pub old_prefix_at : FamilyOf → List ℕ → Reading OldPrefix
old_prefix_at family bytes = do
  numbers ← bytes_at ShortRecord 4 bytes
  octets ← bytes_at ShortRecord (address_len (is_ipv6_family family)) numbers.1
  len ← byte_at ShortRecord octets.1
  whole ← octets_at family.width len.0 octets.0
  Ok (prefix_with numbers.0 octets.0 len.0, len.1)

abbrev pub peer_with : List ℕ → PeerAddr → ℕ → OldPeer
peer_with times addr asn = record { times = times; addr = addr; asn = asn }

unfoldable pub old_peer_at : Bool → List ℕ → Reading OldPeer
old_peer_at ipv6 bytes = do
  times ← bytes_at ShortRecord 5 bytes
  addr ← addr_at ipv6 times.1
  asn ← number_at ShortRecord 2 addr.1
  Ok (peer_with times.0 addr.0 asn.0, asn.1)

-- so many bytes, and nothing behind them
unfoldable pub old_attributes_in : List ℕ → Result (List ℕ) Fault
old_attributes_in bytes = do
  len ← number_at ShortRecord 2 bytes
  attributes ← bytes_at ShortRecord len.0 len.1
  ended attributes.0 attributes.1

abbrev pub entry_with : OldPrefix → OldPeer → List ℕ → OldEntryForm
entry_with prefix peer attributes = record { prefix = prefix; peer = peer; attributes = attributes }

-- the entry that a body spells, or its first fault
unfoldable pub old_entry_in : FamilyOf → List ℕ → Result OldEntryForm Fault
old_entry_in family body = do
  prefix ← old_prefix_at family body
  peer ← old_peer_at (is_ipv6_family family) prefix.1
  attributes ← old_attributes_in peer.1
  Ok (entry_with prefix.0 peer.0 attributes)

-- what is kept of the fields
unfoldable pub read_old_prefix_at : FamilyOf → List ℕ → Reading IpPrefix
read_old_prefix_at family bytes = old_prefix_at family bytes >>= λ p. Ok (prefix_said p.0, p.1)

unfoldable pub read_old_peer_at : Bool → List ℕ → Reading PeerKey
read_old_peer_at ipv6 bytes = old_peer_at ipv6 bytes >>= λ p. Ok (peer_said p.0, p.1)
