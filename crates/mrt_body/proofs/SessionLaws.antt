-- What the fields before a message leave.
use Rattle.std.proofs.Common.{◌≡◌, ℕ, ◌-◌, ◌≤◌, Bool, true, false, cond, eqb, List, length, drop, Ok, Err, sym, ap}
use Rattle.mrt_frame.specs.declared.fault.Fault.TheVariants.{ShortRecord, BadFamily}
use Rattle.mrt_frame.specs.Fields.{◌>>=◌, number_at}
use Rattle.mrt_frame.proofs.Items.{bind_ok}
use Rattle.bgp_update.specs.declared.width.Width.{Width}
use Rattle.bgp_update.specs.Segments.{number_len}
use Rattle.bgp_update.specs.Families.{Rules, of_peer}
use Rattle.peer_units.specs.declared.unit.PeerAddr.{PeerAddr}
use Rattle.peer_units.specs.declared.unit.PeerAddr.TheVariants.{V4, V6}
use Rattle.mrt_body.specs.declared.record_place.RecordAt.{RecordAt}
use Rattle.peer_units.specs.declared.unit.Payload.TheVariants.{Message}
use Rattle.mrt_body.specs.Units.{session_unit, message_unit}
use Rattle.mrt_body.specs.Indexes.{addr_at, asn_at}
use Rattle.mrt_body.specs.Bgp4mp.{RecordedPeer, SessionForm, recorded_peer, family_at, session_at, session_peer_at, microseconds_at}
use Rattle.mrt_body.proofs.Behind.{Behind, behind_more, behind-le, behind-drop, number_behind, ok_behind}
use Rattle.mrt_body.proofs.ManyLaws.{done, seen_ok}

pub addr_behind : (is_ipv6 : Bool) (bytes : List ℕ) (x : PeerAddr × List ℕ) → addr_at is_ipv6 bytes ≡ Ok x → Behind bytes x.1
addr_behind true bytes x e =
    let a = bind_ok (number_at ShortRecord 16 bytes) (λ addr. Ok (V6 addr.0, addr.1)) x e in
    behind_more bytes a.0.1 x.1 (number_behind ShortRecord 16 bytes a.0 a.1) (ok_behind (V6 a.0.0) a.0.1 x a.2)
addr_behind false bytes x e =
    let a = bind_ok (number_at ShortRecord 4 bytes) (λ addr. Ok (V4 addr.0, addr.1)) x e in
    behind_more bytes a.0.1 x.1 (number_behind ShortRecord 4 bytes a.0 a.1) (ok_behind (V4 a.0.0) a.0.1 x a.2)

family_behind : (bytes : List ℕ) (x : Bool × List ℕ) → family_at bytes ≡ Ok x → Behind bytes x.1
family_behind bytes x e =
    let a = bind_ok (number_at ShortRecord 2 bytes) (λ family. cond (eqb family.0 1) (Ok (false, family.1)) (cond (eqb family.0 2) (Ok (true, family.1)) (Err BadFamily))) x e in
    behind_more bytes a.0.1 x.1 (number_behind ShortRecord 2 bytes a.0 a.1) (tested (eqb a.0.0 1) (eqb a.0.0 2) a.0.1 x a.2)
  where
    tested : (b c : Bool) (rest : List ℕ) (y : Bool × List ℕ) → cond b (Ok (false, rest)) (cond c (Ok (true, rest)) (Err BadFamily)) ≡ Ok y → Behind rest y.1
    tested true c rest y e = ok_behind false rest y e
    tested false true rest y e = ok_behind true rest y e
    tested false false rest y e = absurd cc

abbrev form : ℕ → ℕ → ℕ → PeerAddr → PeerAddr → SessionForm
form peer_as local_as interface peer_addr local_addr = record { peer_as = peer_as; local_as = local_as; interface = interface; peer_addr = peer_addr; local_addr = local_addr }

session_behind : (width : Width) (bytes : List ℕ) (x : SessionForm × List ℕ) → session_at width bytes ≡ Ok x → Behind bytes x.1
unfolding session_at
session_behind width bytes x e =
    let a = bind_ok (asn_at width bytes) (λ peer_as. asn_at width peer_as.1 >>= λ local_as. number_at ShortRecord 2 local_as.1 >>= λ interface. family_at interface.1 >>= λ family. addr_at family.0 family.1 >>= λ peer_addr. addr_at family.0 peer_addr.1 >>= λ local_addr. Ok (form peer_as.0 local_as.0 interface.0 peer_addr.0 local_addr.0, local_addr.1)) x e in
    let b = bind_ok (asn_at width a.0.1) (λ local_as. number_at ShortRecord 2 local_as.1 >>= λ interface. family_at interface.1 >>= λ family. addr_at family.0 family.1 >>= λ peer_addr. addr_at family.0 peer_addr.1 >>= λ local_addr. Ok (form a.0.0 local_as.0 interface.0 peer_addr.0 local_addr.0, local_addr.1)) x a.2 in
    let d = bind_ok (number_at ShortRecord 2 b.0.1) (λ interface. family_at interface.1 >>= λ family. addr_at family.0 family.1 >>= λ peer_addr. addr_at family.0 peer_addr.1 >>= λ local_addr. Ok (form a.0.0 b.0.0 interface.0 peer_addr.0 local_addr.0, local_addr.1)) x b.2 in
    let f = bind_ok (family_at d.0.1) (λ family. addr_at family.0 family.1 >>= λ peer_addr. addr_at family.0 peer_addr.1 >>= λ local_addr. Ok (form a.0.0 b.0.0 d.0.0 peer_addr.0 local_addr.0, local_addr.1)) x d.2 in
    let p = bind_ok (addr_at f.0.0 f.0.1) (λ peer_addr. addr_at f.0.0 peer_addr.1 >>= λ local_addr. Ok (form a.0.0 b.0.0 d.0.0 peer_addr.0 local_addr.0, local_addr.1)) x f.2 in
    let l = bind_ok (addr_at f.0.0 p.0.1) (λ local_addr. Ok (form a.0.0 b.0.0 d.0.0 p.0.0 local_addr.0, local_addr.1)) x p.2 in
    behind_more bytes a.0.1 x.1 (number_behind ShortRecord (number_len width) bytes a.0 a.1) (behind_more a.0.1 b.0.1 x.1 (number_behind ShortRecord (number_len width) a.0.1 b.0 b.1) (behind_more b.0.1 d.0.1 x.1 (number_behind ShortRecord 2 b.0.1 d.0 d.1)
    (behind_more d.0.1 f.0.1 x.1 (family_behind d.0.1 f.0 f.1) (behind_more f.0.1 p.0.1 x.1 (addr_behind f.0.0 f.0.1 p.0 p.1) (behind_more p.0.1 l.0.1 x.1 (addr_behind f.0.0 p.0.1 l.0 l.1) (ok_behind (form a.0.0 b.0.0 d.0.0 p.0.0 l.0.0) l.0.1 x l.2))))))

session_peer_behind : (width : Width) (bytes : List ℕ) (peer : RecordedPeer) (rest : List ℕ) → session_peer_at width bytes ≡ Ok (peer, rest) → Behind bytes rest
unfolding session_peer_at
session_peer_behind width bytes peer rest e = let s = seen_ok recorded_peer (session_at width bytes) peer rest e in session_behind width bytes (s.0, rest) s.1

microseconds_behind : (extended : Bool) (bytes : List ℕ) (x : ℕ × List ℕ) → microseconds_at extended bytes ≡ Ok x → Behind bytes x.1
microseconds_behind true bytes x e = number_behind ShortRecord 4 bytes x e
microseconds_behind false bytes x e = ok_behind 0 bytes x e

-- the message is the end of the body
pub message_behind : (extended : Bool) (width : Width) (body : List ℕ) (microseconds : ℕ) (after : List ℕ) (peer : RecordedPeer) (rest : List ℕ) → microseconds_at extended body ≡ Ok (microseconds, after) → session_peer_at width after ≡ Ok (peer, rest) → Behind body rest
message_behind extended width body microseconds after peer rest m s = behind_more body after rest (microseconds_behind extended body (microseconds, after) m) (session_peer_behind width after peer rest s)

-- the unit of a message
pub message_is : (rules : Rules) (at : RecordAt) (extended : Bool) (width : Width) (add_path : Bool) (body : List ℕ) (microseconds : ℕ) (after : List ℕ) (peer : RecordedPeer) (rest : List ℕ) → microseconds_at extended body ≡ Ok (microseconds, after) → session_peer_at width after ≡ Ok (peer, rest)
    → message_unit rules at extended width add_path body ≡ Ok (session_unit at microseconds peer.key (Message (drop (length body - length rest) body) width add_path (of_peer peer.external rules)))
unfolding message_unit
message_is rules at extended width add_path body microseconds after peer rest m s =
    rw (m, s) (ap (λ (bytes : List ℕ). done (session_unit at microseconds peer.key (Message bytes width add_path (of_peer peer.external rules)))) (sym (behind-drop body rest (message_behind extended width body microseconds after peer rest m s))))

pub message-le : (extended : Bool) (width : Width) (body : List ℕ) (microseconds : ℕ) (after : List ℕ) (peer : RecordedPeer) (rest : List ℕ) → microseconds_at extended body ≡ Ok (microseconds, after) → session_peer_at width after ≡ Ok (peer, rest) → length rest ≤ length body
message-le extended width body microseconds after peer rest m s = behind-le body rest (message_behind extended width body microseconds after peer rest m s)
