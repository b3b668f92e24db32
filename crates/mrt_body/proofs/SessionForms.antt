-- A BGP4MP record is read as it is written, and what is read was written so.
use Rattle.std.proofs.Common.{◌≡◌, ℕ, ◌^◌, ◌<◌, Bool, true, false, cond, eqb, List, [], ◌∷◌, ◌++◌, length, Ok, Err, refl, sym, ap, subst, ◌∙◌, append_assoc, append-nil, arith}
use Rattle.std.proofs.lemmas.Bool.{eqb-true}
use Rattle.byteorder.specs.Endian.{big_bytes}
use Rattle.mrt_frame.specs.declared.fault.Fault.TheVariants.{ShortRecord, BadFamily}
use Rattle.mrt_frame.specs.Fields.{◌>>=◌, number_at}
use Rattle.mrt_frame.proofs.Items.{bind_ok, ok_is}
use Rattle.mrt_frame.proofs.FieldLaws.{IsBytes, number_takes, number_at-again}
use Rattle.bgp_update.specs.declared.width.Width.{Width}
use Rattle.bgp_update.specs.Segments.{number_len}
use Rattle.bgp_update.specs.Families.{Rules, of_peer}
use Rattle.mrt_body.specs.declared.record_place.RecordAt.{RecordAt}
use Rattle.peer_units.specs.declared.unit.PeerAddr.{PeerAddr}
use Rattle.peer_units.specs.declared.unit.Payload.TheVariants.{Message}
use Rattle.peer_units.specs.Plain.{Unit as ReplayUnit}
use Rattle.mrt_body.specs.declared.bgp4mp.SessionEnds.{SessionEnds}
use Rattle.mrt_body.specs.declared.bgp4mp.StateChange.{StateChange}
use Rattle.mrt_body.specs.Many.{ended}
use Rattle.mrt_body.specs.Indexes.{addr_bytes, is_ipv6, asn_bytes, addr_at, asn_at}
use Rattle.mrt_body.specs.Bgp4mp.{RecordedPeer, SessionForm, family_of, session_bytes, FitsSession, session_ends, recorded_peer, family_at, session_at, session_ends_at, session_peer_at, states_in, change_with, state_change_in, microseconds_at, microseconds_bytes, FitsMicroseconds}
use Rattle.mrt_body.specs.Units.{session_unit, message_unit}
use Rattle.mrt_body.specs.Agreement.{IsMessageBody, IsStatesBody}
use Rattle.mrt_body.proofs.PeerForms.{addr_takes, addr_again}

-- ---- the family

abbrev family_number : Bool → ℕ
family_number is_long = cond is_long 2 1

pub record TakesFamily (bytes : List ℕ) (is_long : Bool) (rest : List ℕ) : Type 0 where
  pub parts : bytes ≡ big_bytes 2 (family_number is_long) ++ rest
  pub fine : IsBytes rest

family_takes : (bytes : List ℕ) (x : Bool × List ℕ) → IsBytes bytes → family_at bytes ≡ Ok x → TakesFamily bytes x.0 x.1
family_takes bytes x fine e =
    let a = bind_ok (number_at ShortRecord 2 bytes) (λ family. cond (eqb family.0 1) (Ok (false, family.1)) (cond (eqb family.0 2) (Ok (true, family.1)) (Err BadFamily))) x e in
    let t = number_takes ShortRecord 2 bytes a.0 fine a.1 in
    let g = tested (eqb a.0.0 1) (eqb a.0.0 2) a.0.0 a.0.1 x (λ h. eqb-true _ _ h) (λ h. eqb-true _ _ h) a.2 in
    record {
      parts = t.parts ∙ ap (λ (n : ℕ). big_bytes 2 n ++ a.0.1) g.0 ∙ ap (λ (l : List ℕ). big_bytes 2 (family_number x.0) ++ l) g.1;
      fine = subst IsBytes g.1 t.fine;
    }
  where
    tested : (b c : Bool) (n : ℕ) (rest : List ℕ) (y : Bool × List ℕ) → (b ≡ true → n ≡ 1) → (c ≡ true → n ≡ 2) → cond b (Ok (false, rest)) (cond c (Ok (true, rest)) (Err BadFamily)) ≡ Ok y → (n ≡ family_number y.0) × (rest ≡ y.1)
    tested true c n rest y one two e = let same = ok_is (false, rest) y e in (one refl ∙ ap (λ (z : Bool × List ℕ). family_number z.0) same, ap (λ (z : Bool × List ℕ). z.1) same)
    tested false true n rest y one two e = let same = ok_is (true, rest) y e in (two refl ∙ ap (λ (z : Bool × List ℕ). family_number z.0) same, ap (λ (z : Bool × List ℕ). z.1) same)
    tested false false n rest y one two e = absurd cc

family_again : (is_long : Bool) (rest : List ℕ) → family_at (big_bytes 2 (family_number is_long) ++ rest) ≡ Ok (is_long, rest)
family_again true rest = rw (number_at-again ShortRecord 2 2 rest (omega arith)) refl
family_again false rest = rw (number_at-again ShortRecord 2 1 rest (omega arith)) refl

-- ---- the fields of a session

abbrev session_with : ℕ → ℕ → ℕ → PeerAddr → PeerAddr → SessionForm
session_with peer_as local_as interface peer_addr local_addr = record { peer_as = peer_as; local_as = local_as; interface = interface; peer_addr = peer_addr; local_addr = local_addr }

six_parts : (a b c d f g rest : List ℕ) → a ++ (b ++ (c ++ (d ++ (f ++ (g ++ rest))))) ≡ (a ++ (b ++ (c ++ (d ++ (f ++ g))))) ++ rest
six_parts a b c d f g rest = sym (simp append_assoc)

pub record TakesSession (width : Width) (bytes : List ℕ) (session : SessionForm) (rest : List ℕ) : Type 0 where
  pub parts : bytes ≡ session_bytes width session ++ rest
  pub fits : FitsSession width session
  pub fine : IsBytes rest

pub session_takes : (width : Width) (bytes : List ℕ) (x : SessionForm × List ℕ) → IsBytes bytes → session_at width bytes ≡ Ok x → TakesSession width bytes x.0 x.1
unfolding session_at
session_takes width bytes x fine e =
    let a = bind_ok (asn_at width bytes) (λ peer_as. asn_at width peer_as.1 >>= λ local_as. number_at ShortRecord 2 local_as.1 >>= λ interface. family_at interface.1 >>= λ family. addr_at family.0 family.1 >>= λ peer_addr. addr_at family.0 peer_addr.1 >>= λ local_addr. Ok (session_with peer_as.0 local_as.0 interface.0 peer_addr.0 local_addr.0, local_addr.1)) x e in
    let b = bind_ok (asn_at width a.0.1) (λ local_as. number_at ShortRecord 2 local_as.1 >>= λ interface. family_at interface.1 >>= λ family. addr_at family.0 family.1 >>= λ peer_addr. addr_at family.0 peer_addr.1 >>= λ local_addr. Ok (session_with a.0.0 local_as.0 interface.0 peer_addr.0 local_addr.0, local_addr.1)) x a.2 in
    let d = bind_ok (number_at ShortRecord 2 b.0.1) (λ interface. family_at interface.1 >>= λ family. addr_at family.0 family.1 >>= λ peer_addr. addr_at family.0 peer_addr.1 >>= λ local_addr. Ok (session_with a.0.0 b.0.0 interface.0 peer_addr.0 local_addr.0, local_addr.1)) x b.2 in
    let f = bind_ok (family_at d.0.1) (λ family. addr_at family.0 family.1 >>= λ peer_addr. addr_at family.0 peer_addr.1 >>= λ local_addr. Ok (session_with a.0.0 b.0.0 d.0.0 peer_addr.0 local_addr.0, local_addr.1)) x d.2 in
    let p = bind_ok (addr_at f.0.0 f.0.1) (λ peer_addr. addr_at f.0.0 peer_addr.1 >>= λ local_addr. Ok (session_with a.0.0 b.0.0 d.0.0 peer_addr.0 local_addr.0, local_addr.1)) x f.2 in
    let l = bind_ok (addr_at f.0.0 p.0.1) (λ local_addr. Ok (session_with a.0.0 b.0.0 d.0.0 p.0.0 local_addr.0, local_addr.1)) x p.2 in
    let ta = number_takes ShortRecord (number_len width) bytes a.0 fine a.1 in
    let tb = number_takes ShortRecord (number_len width) a.0.1 b.0 ta.fine b.1 in
    let td = number_takes ShortRecord 2 b.0.1 d.0 tb.fine d.1 in
    let tf = family_takes d.0.1 f.0 td.fine f.1 in
    let tp = addr_takes f.0.0 f.0.1 p.0 tf.fine p.1 in
    let tl = addr_takes f.0.0 p.0.1 l.0 tp.fine l.1 in
    let as_bytes : List ℕ = asn_bytes width a.0.0 in
    let local_bytes : List ℕ = asn_bytes width b.0.0 in
    let interface_bytes : List ℕ = big_bytes 2 d.0.0 in
    let family_bytes : List ℕ = big_bytes 2 (family_of p.0.0) in
    let named : big_bytes 2 (family_number f.0.0) ≡ family_bytes = ap (λ (b : Bool). big_bytes 2 (family_number b)) (sym tp.family) in
    let addresses : f.0.1 ≡ addr_bytes p.0.0 ++ (addr_bytes l.0.0 ++ l.0.1) = tp.parts ∙ ap (λ (r : List ℕ). addr_bytes p.0.0 ++ r) tl.parts in
    let behind : d.0.1 ≡ family_bytes ++ (addr_bytes p.0.0 ++ (addr_bytes l.0.0 ++ l.0.1)) = tf.parts ∙ ap (λ (r : List ℕ). big_bytes 2 (family_number f.0.0) ++ r) addresses ∙ ap (λ (r : List ℕ). r ++ (addr_bytes p.0.0 ++ (addr_bytes l.0.0 ++ l.0.1))) named in
    subst (λ (y : SessionForm × List ℕ). TakesSession width bytes y.0 y.1) (ok_is (session_with a.0.0 b.0.0 d.0.0 p.0.0 l.0.0, l.0.1) x l.2) (record {
      parts = ta.parts ∙ ap (λ (r : List ℕ). as_bytes ++ r) (tb.parts ∙ ap (λ (r : List ℕ). local_bytes ++ r) (td.parts ∙ ap (λ (r : List ℕ). interface_bytes ++ r) behind)) ∙ six_parts as_bytes local_bytes interface_bytes family_bytes (addr_bytes p.0.0) (addr_bytes l.0.0) l.0.1;
      fits = record { peer_as = ta.below; local_as = tb.below; interface = td.below; family = tl.family ∙ sym tp.family; peer_addr = tp.fits; local_addr = tl.fits };
      fine = tl.fine;
    })

pub session_again : (width : Width) (s : SessionForm) (rest : List ℕ) → FitsSession width s → session_at width (session_bytes width s ++ rest) ≡ Ok (s, rest)
unfolding session_at
session_again width s rest h =
    let addresses : List ℕ = addr_bytes s.peer_addr ++ (addr_bytes s.local_addr ++ rest) in
    let family_bytes : List ℕ = big_bytes 2 (family_of s.peer_addr) in
    ap (session_at width) (sym (six_parts (asn_bytes width s.peer_as) (asn_bytes width s.local_as) (big_bytes 2 s.interface) family_bytes (addr_bytes s.peer_addr) (addr_bytes s.local_addr) rest))
    ∙ rw (number_at-again ShortRecord (number_len width) s.peer_as (asn_bytes width s.local_as ++ (big_bytes 2 s.interface ++ (family_bytes ++ addresses))) h.peer_as, number_at-again ShortRecord (number_len width) s.local_as (big_bytes 2 s.interface ++ (family_bytes ++ addresses)) h.local_as, number_at-again ShortRecord 2 s.interface (family_bytes ++ addresses) h.interface, family_again (is_ipv6 s.peer_addr) addresses, addr_again (is_ipv6 s.peer_addr) s.peer_addr (addr_bytes s.local_addr ++ rest) refl h.peer_addr, addr_again (is_ipv6 s.peer_addr) s.local_addr rest h.family h.local_addr) refl

-- ---- the peer of a session

pub record TakesPeer (width : Width) (bytes : List ℕ) (peer : RecordedPeer) (rest : List ℕ) : Type 0 where
  pub session : SessionForm
  pub takes : TakesSession width bytes session rest
  pub same : recorded_peer session ≡ peer

pub peer_takes : (width : Width) (bytes : List ℕ) (x : RecordedPeer × List ℕ) → IsBytes bytes → session_peer_at width bytes ≡ Ok x → TakesPeer width bytes x.0 x.1
unfolding session_peer_at
peer_takes width bytes x fine e =
    let s = bind_ok (session_at width bytes) (λ s. Ok (recorded_peer s.0, s.1)) x e in
    subst (λ (y : RecordedPeer × List ℕ). TakesPeer width bytes y.0 y.1) (ok_is (recorded_peer s.0.0, s.0.1) x s.2) (record { session = s.0.0; takes = session_takes width bytes s.0 fine s.1; same = refl })

pub peer_again : (width : Width) (s : SessionForm) (rest : List ℕ) → FitsSession width s → session_peer_at width (session_bytes width s ++ rest) ≡ Ok (recorded_peer s, rest)
unfolding session_peer_at
peer_again width s rest h = rw (session_again width s rest h) refl

-- ---- microseconds

pub record TakesMicroseconds (extended : Bool) (body : List ℕ) (microseconds : ℕ) (rest : List ℕ) : Type 0 where
  pub parts : body ≡ microseconds_bytes extended microseconds ++ rest
  pub fits : FitsMicroseconds extended microseconds
  pub fine : IsBytes rest

pub microseconds_take : (extended : Bool) (body : List ℕ) (x : ℕ × List ℕ) → IsBytes body → microseconds_at extended body ≡ Ok x → TakesMicroseconds extended body x.0 x.1
microseconds_take true body x fine e = let t = number_takes ShortRecord 4 body x fine e in record { parts = t.parts; fits = t.below; fine = t.fine }
microseconds_take false body x fine e = subst (λ (y : ℕ × List ℕ). TakesMicroseconds false body y.0 y.1) (ok_is (0, body) x e) (record { parts = refl; fits = refl; fine = fine })

pub microseconds_again : (extended : Bool) (microseconds : ℕ) (rest : List ℕ) → FitsMicroseconds extended microseconds → microseconds_at extended (microseconds_bytes extended microseconds ++ rest) ≡ Ok (microseconds, rest)
microseconds_again true microseconds rest fits = number_at-again ShortRecord 4 microseconds rest fits
microseconds_again false microseconds rest fits = ap (λ (n : ℕ). Ok (n, rest)) (sym fits)

-- ---- messages

-- the unit of a message of this peer
abbrev message_of : Rules → RecordAt → ℕ → Width → Bool → List ℕ → RecordedPeer → ReplayUnit
message_of rules at microseconds width add_path message peer = session_unit at microseconds peer.key (Message message width add_path (of_peer peer.external rules))

pub message_body-is : (rules : Rules) (at : RecordAt) (extended : Bool) (width : Width) (add_path : Bool) (body : List ℕ) (unit : ReplayUnit) → IsBytes body → message_unit rules at extended width add_path body ≡ Ok unit → IsMessageBody rules at extended width add_path body unit
unfolding message_unit
message_body-is rules at extended width add_path body unit fine e =
    let m = bind_ok (microseconds_at extended body) (λ m. session_peer_at width m.1 >>= λ peer. Ok (message_of rules at m.0 width add_path peer.1 peer.0)) unit e in
    let p = bind_ok (session_peer_at width m.0.1) (λ peer. Ok (message_of rules at m.0.0 width add_path peer.1 peer.0)) unit m.2 in
    let tm = microseconds_take extended body m.0 fine m.1 in
    let tp = peer_takes width m.0.1 p.0 tm.fine p.1 in
    record {
      microseconds = m.0.0;
      session = tp.session;
      message = p.0.1;
      fits_microseconds = tm.fits;
      fits_session = tp.takes.fits;
      spelled = tm.parts ∙ ap (λ (l : List ℕ). microseconds_bytes extended m.0.0 ++ l) tp.takes.parts;
      said = sym (ap (message_of rules at m.0.0 width add_path p.0.1) tp.same ∙ ok_is (message_of rules at m.0.0 width add_path p.0.1 p.0.0) unit p.2);
    }

pub message_body-again : (rules : Rules) (at : RecordAt) (extended : Bool) (width : Width) (add_path : Bool) (body : List ℕ) (unit : ReplayUnit) → IsMessageBody rules at extended width add_path body unit → message_unit rules at extended width add_path body ≡ Ok unit
unfolding message_unit
message_body-again rules at extended width add_path body unit h =
    let m : microseconds_at extended body ≡ Ok (h.microseconds, session_bytes width h.session ++ h.message) = ap (microseconds_at extended) h.spelled ∙ microseconds_again extended h.microseconds (session_bytes width h.session ++ h.message) h.fits_microseconds in
    rw (m, peer_again width h.session h.message h.fits_session) (ap (λ (u : ReplayUnit). Ok u) (sym h.said))

-- ---- state changes

pub record TakesStates (bytes : List ℕ) (from to : ℕ) : Type 0 where
  pub parts : bytes ≡ big_bytes 2 from ++ big_bytes 2 to
  pub from_below : from < 256 ^ 2
  pub to_below : to < 256 ^ 2

pub ended_is : {A : Type 0} (s y : A) (rest : List ℕ) → ended s rest ≡ Ok y → (rest ≡ []) × (s ≡ y)
ended_is s y [] e = (refl, ok_is s y e)
ended_is s y (b ∷ rest) e =
    let some : eqb (length (b ∷ rest)) 0 ≡ false = grind arith in
    let h = rw some at e in
    absurd cc

pub states_take : (bytes : List ℕ) (s : ℕ × ℕ) → IsBytes bytes → states_in bytes ≡ Ok s → TakesStates bytes s.0 s.1
unfolding states_in
states_take bytes s fine e =
    let o = bind_ok (number_at ShortRecord 2 bytes) (λ old. number_at ShortRecord 2 old.1 >>= λ new. ended (old.0, new.0) new.1) s e in
    let n = bind_ok (number_at ShortRecord 2 o.0.1) (λ new. ended (o.0.0, new.0) new.1) s o.2 in
    let to = number_takes ShortRecord 2 bytes o.0 fine o.1 in
    let tn = number_takes ShortRecord 2 o.0.1 n.0 to.fine n.1 in
    let last = ended_is (o.0.0, n.0.0) s n.0.1 n.2 in
    subst (λ (y : ℕ × ℕ). TakesStates bytes y.0 y.1) last.1 (record {
      parts = to.parts ∙ ap (λ (l : List ℕ). big_bytes 2 o.0.0 ++ l) (tn.parts ∙ ap (λ (l : List ℕ). big_bytes 2 n.0.0 ++ l) last.0 ∙ sym (append-nil (big_bytes 2 n.0.0)));
      from_below = to.below;
      to_below = tn.below;
    })

states_are : (bytes second : List ℕ) (from to : ℕ) → number_at ShortRecord 2 bytes ≡ Ok (from, second) → number_at ShortRecord 2 second ≡ Ok (to, []) → states_in bytes ≡ Ok (from, to)
unfolding states_in
states_are bytes second from to f t = rw (f, t) refl

pub states_again : (from to : ℕ) → from < 256 ^ 2 → to < 256 ^ 2 → states_in (big_bytes 2 from ++ big_bytes 2 to) ≡ Ok (from, to)
states_again from to from_below to_below =
    let second : number_at ShortRecord 2 (big_bytes 2 to) ≡ Ok (to, []) = ap (number_at ShortRecord 2) (append-nil (big_bytes 2 to)) ∙ number_at-again ShortRecord 2 to [] to_below in
    states_are (big_bytes 2 from ++ big_bytes 2 to) (big_bytes 2 to) from to (number_at-again ShortRecord 2 from (big_bytes 2 to) from_below) second

-- ---- the ends of a session, and a whole state change

pub record TakesEnds (width : Width) (bytes : List ℕ) (ends : SessionEnds) (rest : List ℕ) : Type 0 where
  pub session : SessionForm
  pub takes : TakesSession width bytes session rest
  pub same : session_ends session ≡ ends

pub ends_take : (width : Width) (bytes : List ℕ) (x : SessionEnds × List ℕ) → IsBytes bytes → session_ends_at width bytes ≡ Ok x → TakesEnds width bytes x.0 x.1
unfolding session_ends_at
ends_take width bytes x fine e =
    let s = bind_ok (session_at width bytes) (λ s. Ok (session_ends s.0, s.1)) x e in
    subst (λ (y : SessionEnds × List ℕ). TakesEnds width bytes y.0 y.1) (ok_is (session_ends s.0.0, s.0.1) x s.2) (record { session = s.0.0; takes = session_takes width bytes s.0 fine s.1; same = refl })

pub ends_again : (width : Width) (s : SessionForm) (rest : List ℕ) → FitsSession width s → session_ends_at width (session_bytes width s ++ rest) ≡ Ok (session_ends s, rest)
unfolding session_ends_at
ends_again width s rest h = rw (session_again width s rest h) refl

pub states_body-is : (extended : Bool) (width : Width) (body : List ℕ) (change : StateChange) → IsBytes body → state_change_in extended width body ≡ Ok change → IsStatesBody extended width body change
unfolding state_change_in
states_body-is extended width body change fine e =
    let m = bind_ok (microseconds_at extended body) (λ m. session_ends_at width m.1 >>= λ ends. states_in ends.1 >>= λ s. Ok (change_with m.0 ends.0 s)) change e in
    let p = bind_ok (session_ends_at width m.0.1) (λ ends. states_in ends.1 >>= λ s. Ok (change_with m.0.0 ends.0 s)) change m.2 in
    let s = bind_ok (states_in p.0.1) (λ s. Ok (change_with m.0.0 p.0.0 s)) change p.2 in
    let tm = microseconds_take extended body m.0 fine m.1 in
    let tp = ends_take width m.0.1 p.0 tm.fine p.1 in
    let ts = states_take p.0.1 s.0 tp.takes.fine s.1 in
    record {
      microseconds = m.0.0;
      session = tp.session;
      from = s.0.0;
      to = s.0.1;
      fits_microseconds = tm.fits;
      fits_session = tp.takes.fits;
      fits_from = ts.from_below;
      fits_to = ts.to_below;
      spelled = tm.parts ∙ ap (λ (l : List ℕ). microseconds_bytes extended m.0.0 ++ l) (tp.takes.parts ∙ ap (λ (l : List ℕ). session_bytes width tp.session ++ l) ts.parts);
      said = sym (ap (λ (ends : SessionEnds). change_with m.0.0 ends s.0) tp.same ∙ ok_is (change_with m.0.0 p.0.0 s.0) change s.2);
    }

pub states_body-again : (extended : Bool) (width : Width) (body : List ℕ) (change : StateChange) → IsStatesBody extended width body change → state_change_in extended width body ≡ Ok change
unfolding state_change_in
states_body-again extended width body change h =
    let states : List ℕ = big_bytes 2 h.from ++ big_bytes 2 h.to in
    let m : microseconds_at extended body ≡ Ok (h.microseconds, session_bytes width h.session ++ states) = ap (microseconds_at extended) h.spelled ∙ microseconds_again extended h.microseconds (session_bytes width h.session ++ states) h.fits_microseconds in
    rw (m, ends_again width h.session states h.fits_session, states_again h.from h.to h.fits_from h.fits_to) (ap (λ (c : StateChange). Ok c) (sym h.said))
