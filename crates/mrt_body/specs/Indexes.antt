-- The PEER_INDEX_TABLE record (RFC 6396, 4.3.1).
use Rattle.std.specs.Prelude.{◌≡◌, ℕ, ◌/◌, ◌%◌, ◌^◌, ◌<◌, Bool, true, false, List, ◌∷◌, ◌++◌, length, map, Result, Ok, ◌==◌, if◌then◌else◌}
use Rattle.std.specs.List.{flat_map, AllByRecursion}
use Rattle.byteorder.specs.Endian.{big_bytes}
use Rattle.mrt_frame.specs.declared.fault.Fault.{Fault}
use Rattle.mrt_frame.specs.declared.fault.Fault.TheVariants.{ShortRecord}
use Rattle.mrt_frame.specs.Fields.{Reading, ◌>>=◌, byte_at, number_at, bytes_at}
use Rattle.bgp_update.specs.declared.width.Width.{Width}
use Rattle.bgp_update.specs.declared.width.Width.TheVariants.{Two, Four}
use Rattle.bgp_update.specs.Segments.{number_len}
use Rattle.peer_units.specs.declared.unit.PeerAddr.{PeerAddr}
use Rattle.peer_units.specs.declared.unit.PeerAddr.TheVariants.{V4, V6}
use Rattle.peer_units.specs.declared.unit.PeerKey.{PeerKey}
use Rattle.mrt_body.specs.Many.{many}

-- ---- addresses and AS numbers

-- four bytes, or sixteen
abbrev pub addr_bytes : PeerAddr → List ℕ
addr_bytes (V4 addr) = big_bytes 4 addr
addr_bytes (V6 addr) = big_bytes 16 addr

abbrev pub is_ipv6 : PeerAddr → Bool
is_ipv6 (V4 addr) = false
is_ipv6 (V6 addr) = true

abbrev pub FitsAddr : PeerAddr → Type 0
FitsAddr (V4 addr) = addr < 256 ^ 4
FitsAddr (V6 addr) = addr < 256 ^ 16

abbrev pub asn_bytes : Width → ℕ → List ℕ
asn_bytes width asn = big_bytes (number_len width) asn

-- an IPv6 address where the test holds, else an IPv4 address
abbrev pub addr_at : Bool → List ℕ → Reading PeerAddr
addr_at true bytes = number_at ShortRecord 16 bytes >>= λ addr. Ok (V6 addr.0, addr.1)
addr_at false bytes = number_at ShortRecord 4 bytes >>= λ addr. Ok (V4 addr.0, addr.1)

abbrev pub asn_at : Width → List ℕ → Reading ℕ
asn_at width bytes = number_at ShortRecord (number_len width) bytes

-- ---- a peer

-- a peer as it is written
pub record WrittenPeer : Type 0 where
  pub flags : ℕ
  pub id : ℕ
  pub addr : PeerAddr
  pub asn : ℕ

-- bit 0x01 of the peer type: an IPv6 address
abbrev pub has_ipv6 : ℕ → Bool
has_ipv6 flags = flags % 2 == 1

-- bit 0x02 of the peer type: an AS number of four bytes
abbrev pub asn_width : ℕ → Width
asn_width flags = if flags / 2 % 2 == 1 then Four else Two

-- type 1, BGP ID 4, address, AS
abbrev pub peer_bytes : WrittenPeer → List ℕ
peer_bytes p = p.flags ∷ big_bytes 4 p.id ++ (addr_bytes p.addr ++ asn_bytes (asn_width p.flags) p.asn)

pub record FitsPeer (p : WrittenPeer) : Type 0 where
  pub flags : p.flags < 256
  pub id : p.id < 256 ^ 4
  pub family : is_ipv6 p.addr ≡ has_ipv6 p.flags
  pub addr : FitsAddr p.addr
  pub asn : p.asn < 256 ^ number_len (asn_width p.flags)

abbrev pub peer_of : WrittenPeer → PeerKey
peer_of p = record { asn = p.asn; addr = p.addr }

-- ---- the table

-- collector BGP ID 4, view name length 2, view name, peer count 2, peers
pub record IndexForm : Type 0 where
  pub collector : ℕ
  pub view : List ℕ
  pub peers : List WrittenPeer

abbrev pub index_bytes : IndexForm → List ℕ
index_bytes form =
    big_bytes 4 form.collector
    ++ (big_bytes 2 (length form.view)
    ++ (form.view
    ++ (big_bytes 2 (length form.peers) ++ flat_map peer_bytes form.peers)))

pub record FitsIndex (form : IndexForm) : Type 0 where
  pub collector : form.collector < 256 ^ 4
  pub view : length form.view < 256 ^ 2
  pub count : length form.peers < 256 ^ 2
  pub peers : AllByRecursion FitsPeer form.peers

-- ---- reading

unfoldable pub written_peer_at : List ℕ → Reading WrittenPeer
written_peer_at bytes = do
  flags ← byte_at ShortRecord bytes
  id ← number_at ShortRecord 4 flags.1
  addr ← addr_at (has_ipv6 flags.0) id.1
  asn ← asn_at (asn_width flags.0) addr.1
  Ok (record { flags = flags.0; id = id.0; addr = addr.0; asn = asn.0 }, asn.1)

-- what stands before the peers
pub record IndexHead : Type 0 where
  pub collector : ℕ
  pub view : List ℕ
  pub count : ℕ

unfoldable pub index_head_at : List ℕ → Reading IndexHead
index_head_at body = do
  collector ← number_at ShortRecord 4 body
  view_len ← number_at ShortRecord 2 collector.1
  view ← bytes_at ShortRecord view_len.0 view_len.1
  count ← number_at ShortRecord 2 view.1
  Ok (record { collector = collector.0; view = view.0; count = count.0 }, count.1)

-- the table that a body spells, or its first fault
unfoldable pub index_in : List ℕ → Result IndexForm Fault
index_in body =
    index_head_at body >>= λ head.
    many written_peer_at head.0.count head.1 >>= λ peers.
    Ok (record { collector = head.0.collector; view = head.0.view; peers = peers })

-- ---- the peers themselves

abbrev pub peers_of_index : IndexForm → List PeerKey
peers_of_index form = map peer_of form.peers

unfoldable pub peer_at : List ℕ → Reading PeerKey
peer_at bytes = written_peer_at bytes >>= λ p. Ok (peer_of p.0, p.1)

unfoldable pub peer_count_at : List ℕ → Reading ℕ
peer_count_at body = index_head_at body >>= λ head. Ok (head.0.count, head.1)

-- the peers of the table that a body spells
unfoldable pub peers_in : List ℕ → Result (List PeerKey) Fault
peers_in body = index_in body >>= λ form. Ok (peers_of_index form)
