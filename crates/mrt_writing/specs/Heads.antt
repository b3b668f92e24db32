-- Index tables and state changes as they are written (RFC 6396, 4.3.1 and 4.4.1).
use Rattle.std.specs.Prelude.{ℕ, ◌^◌, ◌<◌, Bool, true, false, List, [], ◌++◌, map}
use Rattle.byteorder.specs.Endian.{big_bytes}
use Rattle.bgp_update.specs.declared.width.Width.TheVariants.{Four}
use Rattle.peer_units.specs.declared.unit.PeerAddr.{PeerAddr}
use Rattle.peer_units.specs.declared.unit.PeerAddr.TheVariants.{V4, V6}
use Rattle.peer_units.specs.declared.unit.PeerKey.{PeerKey}
use Rattle.peer_units.specs.States.{ESTABLISHED}
use Rattle.mrt_body.specs.Indexes.{FitsAddr, WrittenPeer, IndexForm}
use Rattle.mrt_body.specs.Bgp4mp.{SessionForm, session_bytes}

-- ---- index tables

-- bit 0x02: an AS number of four bytes; bit 0x01: an IPv6 address
abbrev pub peer_type : PeerAddr → ℕ
peer_type (V4 addr) = 2
peer_type (V6 addr) = 3

abbrev pub written_peer : PeerKey → WrittenPeer
written_peer p = record { flags = peer_type p.addr; id = 0; addr = p.addr; asn = p.asn }

-- collector 0.0.0.0, and no view
abbrev pub written_index : List PeerKey → IndexForm
written_index peers = record { collector = 0; view = []; peers = map written_peer peers }

-- the peer's numbers have their widths
pub record FitsPeerKey (p : PeerKey) : Type 0 where
  pub asn : p.asn < 256 ^ 4
  pub addr : FitsAddr p.addr

-- ---- state changes

-- the address of the same family whose bits are all 0
abbrev pub zero_addr : PeerAddr → PeerAddr
zero_addr (V4 addr) = V4 0
zero_addr (V6 addr) = V6 0

-- no local AS, interface or local address
abbrev pub written_session : PeerKey → SessionForm
written_session p = record {
  peer_as = p.asn;
  local_as = 0;
  interface = 0;
  peer_addr = p.addr;
  local_addr = zero_addr p.addr;
}

-- a state change with AS numbers of four bytes
abbrev pub states_bytes : PeerKey → ℕ → ℕ → List ℕ
states_bytes p from to = session_bytes Four (written_session p) ++ (big_bytes 2 from ++ big_bytes 2 to)

-- Idle, of RFC 4271's states
abbrev pub IDLE : ℕ
IDLE = 1

-- the state that a peer that is up, or isn't, has behind its state change
abbrev pub state_after : Bool → ℕ
state_after true = ESTABLISHED
state_after false = IDLE

-- that state change, from Established
abbrev pub change_bytes : PeerKey → Bool → List ℕ
change_bytes p up = states_bytes p ESTABLISHED (state_after up)
