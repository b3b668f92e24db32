-- The BGP4MP records: messages and state changes (RFC 6396, 4.4), with extended timestamps (RFC 6396, 3).
use Rattle.std.specs.Prelude.{◌≡◌, ℕ, ◌^◌, ◌<◌, Bool, true, false, List, [], ◌++◌, Result, Ok, Err, not, ◌==◌, if◌then◌else◌}
use Rattle.byteorder.specs.Endian.{big_bytes}
use Rattle.mrt_frame.specs.declared.fault.Fault.{Fault}
use Rattle.mrt_frame.specs.declared.fault.Fault.TheVariants.{ShortRecord, BadFamily}
use Rattle.mrt_frame.specs.Fields.{Reading, ◌>>=◌, number_at}
use Rattle.bgp_update.specs.declared.width.Width.{Width}
use Rattle.bgp_update.specs.Segments.{number_len}
use Rattle.peer_units.specs.declared.unit.PeerAddr.{PeerAddr}
use Rattle.peer_units.specs.declared.unit.PeerKey.{PeerKey}
use Rattle.mrt_body.specs.declared.bgp4mp.SessionEnds.{SessionEnds}
use Rattle.mrt_body.specs.declared.bgp4mp.StateChange.{StateChange}
use Rattle.mrt_body.specs.Indexes.{addr_bytes, is_ipv6, FitsAddr, asn_bytes, addr_at, asn_at}
use Rattle.mrt_body.specs.Many.{ended}

-- peer AS, local AS, interface index 2, address family 2, peer address, local address
pub record SessionForm : Type 0 where
  pub peer_as : ℕ
  pub local_as : ℕ
  pub interface : ℕ
  pub peer_addr : PeerAddr
  pub local_addr : PeerAddr

-- 1 is IPv4, 2 is IPv6
abbrev pub family_of : PeerAddr → ℕ
family_of addr = if is_ipv6 addr then 2 else 1

abbrev pub session_bytes : Width → SessionForm → List ℕ
session_bytes width f =
    asn_bytes width f.peer_as
    ++ (asn_bytes width f.local_as
    ++ (big_bytes 2 f.interface
    ++ (big_bytes 2 (family_of f.peer_addr)
    ++ (addr_bytes f.peer_addr ++ addr_bytes f.local_addr))))

pub record FitsSession (width : Width) (f : SessionForm) : Type 0 where
  pub peer_as : f.peer_as < 256 ^ number_len width
  pub local_as : f.local_as < 256 ^ number_len width
  pub interface : f.interface < 256 ^ 2
  pub family : is_ipv6 f.local_addr ≡ is_ipv6 f.peer_addr
  pub peer_addr : FitsAddr f.peer_addr
  pub local_addr : FitsAddr f.local_addr

-- an extended timestamp has four bytes of microseconds, any number; another timestamp has none, and they are 0
abbrev pub microseconds_bytes : Bool → ℕ → List ℕ
microseconds_bytes true microseconds = big_bytes 4 microseconds
microseconds_bytes false microseconds = []

abbrev pub FitsMicroseconds : Bool → ℕ → Type 0
FitsMicroseconds true microseconds = microseconds < 256 ^ 4
FitsMicroseconds false microseconds = microseconds ≡ 0

abbrev pub session_peer : SessionForm → PeerKey
session_peer f = record { asn = f.peer_as; addr = f.peer_addr }

-- an external peer: one of another AS than the local end (RFC 4271, 1.1)
abbrev pub is_external : SessionForm → Bool
is_external f = not (f.peer_as == f.local_as)

-- the peer as a message is told it
pub record RecordedPeer : Type 0 where
  pub key : PeerKey
  pub external : Bool

abbrev pub recorded_peer : SessionForm → RecordedPeer
recorded_peer f = record { key = session_peer f; external = is_external f }

abbrev pub session_ends : SessionForm → SessionEnds
session_ends f = record { peer = session_peer f; local = record { asn = f.local_as; addr = f.local_addr } }

-- ---- reading

-- whether the family is IPv6
abbrev pub family_at : List ℕ → Reading Bool
family_at bytes = number_at ShortRecord 2 bytes >>= λ family.
    if family.0 == 1 then Ok (false, family.1) else
    (if family.0 == 2 then Ok (true, family.1) else Err BadFamily)

-- the fields before a message or states
unfoldable pub session_at : Width → List ℕ → Reading SessionForm
session_at width bytes = do
  peer_as ← asn_at width bytes
  local_as ← asn_at width peer_as.1
  interface ← number_at ShortRecord 2 local_as.1
  family ← family_at interface.1
  peer_addr ← addr_at family.0 family.1
  local_addr ← addr_at family.0 peer_addr.1
  Ok (
    record {
      peer_as = peer_as.0;
      local_as = local_as.0;
      interface = interface.0;
      peer_addr = peer_addr.0;
      local_addr = local_addr.0;
    },
    local_addr.1,
  )

unfoldable pub session_peer_at : Width → List ℕ → Reading RecordedPeer
session_peer_at width bytes = session_at width bytes >>= λ s. Ok (recorded_peer s.0, s.1)

unfoldable pub session_ends_at : Width → List ℕ → Reading SessionEnds
session_ends_at width bytes = session_at width bytes >>= λ s. Ok (session_ends s.0, s.1)

-- old state 2, new state 2, and nothing more
unfoldable pub states_in : List ℕ → Result (ℕ × ℕ) Fault
states_in bytes = do
  old ← number_at ShortRecord 2 bytes
  new ← number_at ShortRecord 2 old.1
  ended (old.0, new.0) new.1

-- the microseconds before the body proper, where the timestamp is extended
abbrev pub microseconds_at : Bool → List ℕ → Reading ℕ
microseconds_at true body = number_at ShortRecord 4 body
microseconds_at false body = Ok (0, body)

abbrev pub change_with : ℕ → SessionEnds → ℕ × ℕ → StateChange
change_with microseconds ends states =
    record { microseconds = microseconds; ends = ends; from = states.0; to = states.1 }

-- the state change that a body spells, or its first fault
unfoldable pub state_change_in : Bool → Width → List ℕ → Result StateChange Fault
state_change_in extended width body = do
  microseconds ← microseconds_at extended body
  ends ← session_ends_at width microseconds.1
  states ← states_in ends.1
  Ok (change_with microseconds.0 ends.0 states)
