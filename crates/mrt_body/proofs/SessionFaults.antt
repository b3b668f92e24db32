-- Which fault a BGP4MP record has.
use Rattle.std.proofs.Common.{◌≡◌, ◌≢◌, ◌⊎◌, inl, inr, ℕ, ◌<◌, ◌^◌, Bool, true, false, cond, eqb, List, [], ◌∷◌, ◌++◌, length, Ok, Err, refl, sym, ap, ◌∙◌, append_assoc, arith}
use Rattle.std.proofs.lemmas.Bool.Decides.{nat_tests}
use Rattle.byteorder.specs.Endian.{big_bytes}
use Rattle.mrt_frame.specs.declared.fault.Fault.{Fault}
use Rattle.mrt_frame.specs.declared.fault.Fault.TheVariants.{ShortRecord, TrailingBytes, BadFamily}
use Rattle.mrt_frame.specs.Fields.{Reading, ◌>>=◌, number_at}
use Rattle.mrt_frame.proofs.FieldLaws.{IsBytes, number_takes, number_at-again}
use Rattle.bgp_update.specs.declared.width.Width.{Width}
use Rattle.bgp_update.specs.Segments.{number_len}
use Rattle.bgp_update.specs.Families.{Rules, of_peer}
use Rattle.bgp_update.proofs.Readings.{mapped_err}
use Rattle.mrt_body.specs.declared.record_place.RecordAt.{RecordAt}
use Rattle.peer_units.specs.declared.unit.PeerAddr.{PeerAddr}
use Rattle.peer_units.specs.declared.unit.Payload.TheVariants.{Message}
use Rattle.mrt_body.specs.declared.bgp4mp.SessionEnds.{SessionEnds}
use Rattle.mrt_body.specs.declared.bgp4mp.StateChange.{StateChange}
use Rattle.mrt_body.specs.Many.{ended}
use Rattle.mrt_body.specs.Indexes.{asn_bytes, addr_at, asn_at}
use Rattle.mrt_body.specs.Bgp4mp.{SessionForm, session_bytes, session_ends, recorded_peer, family_at, session_at, session_ends_at, session_peer_at, states_in, change_with, state_change_in, microseconds_at, microseconds_bytes}
use Rattle.mrt_body.specs.Units.{session_unit, message_unit}
use Rattle.mrt_body.specs.Agreement.{IsStatesBody}
use Rattle.mrt_body.specs.Refusals.{HasOtherFamily}
use Rattle.mrt_body.proofs.ManyLaws.{bind_err}
use Rattle.peer_units.proofs.MessageLaws.{ok_never}
use Rattle.mrt_body.proofs.ShortFields.{IsShort, then_short, number_short, addr_short, asn_short}
use Rattle.mrt_body.proofs.SessionForms.{ends_take, ends_again, microseconds_take, microseconds_again}

-- ---- the family

pub record OtherFamily (bytes : List ℕ) : Type 0 where
  pub family : ℕ
  pub rest : List ℕ
  pub fits : family < 256 ^ 2
  pub other : (family ≢ 1) × (family ≢ 2)
  pub parts : bytes ≡ big_bytes 2 family ++ rest

abbrev as_family : Bool → List ℕ → Reading Bool
as_family is_long rest = Ok (is_long, rest)

family_refused : (bytes : List ℕ) (fault : Fault) → IsBytes bytes → family_at bytes ≡ Err fault → ((fault ≡ BadFamily) × OtherFamily bytes) ⊎ (fault ≡ ShortRecord)
family_refused bytes fault fine e =
    then_short (number_at ShortRecord 2 bytes) (λ family. cond (eqb family.0 1) (Ok (false, family.1)) (cond (eqb family.0 2) (Ok (true, family.1)) (Err BadFamily))) fault (number_short 2 bytes) (λ n n_is ne.
    let t = number_takes ShortRecord 2 bytes n fine n_is in
    let g = tested (eqb n.0 1) (eqb n.0 2) n.1 ne in
    inl (g.2, record { family = n.0; rest = n.1; fits = t.below; other = (differs n.0 1 g.0, differs n.0 2 g.1); parts = t.parts })) e
  where
    differs : (a b : ℕ) → eqb a b ≡ false → a ≢ b
    differs a b h = grind (arith, nat_tests)

    tested : (a b : Bool) (rest : List ℕ) → cond a (as_family false rest) (cond b (as_family true rest) (Err BadFamily)) ≡ Err fault → (a ≡ false) × (b ≡ false) × (fault ≡ BadFamily)
    tested true b rest h = absurd cc
    tested false true rest h = absurd cc
    tested false false rest h = (refl, refl, cc)

family_other : (family : ℕ) (rest : List ℕ) → family < 256 ^ 2 → family ≢ 1 → family ≢ 2 → family_at (big_bytes 2 family ++ rest) ≡ Err BadFamily
family_other family rest fits one two =
    let a : eqb family 1 ≡ false = grind (arith, nat_tests) in
    let b : eqb family 2 ≡ false = grind (arith, nat_tests) in
    rw (number_at-again ShortRecord 2 family rest fits, a, b) refl

-- ---- the fields of a session

abbrev session_with : ℕ → ℕ → ℕ → PeerAddr → PeerAddr → SessionForm
session_with peer_as local_as interface peer_addr local_addr = record { peer_as = peer_as; local_as = local_as; interface = interface; peer_addr = peer_addr; local_addr = local_addr }

pub record OtherSession (width : Width) (bytes : List ℕ) : Type 0 where
  pub peer_as : ℕ
  pub local_as : ℕ
  pub interface : ℕ
  pub family : ℕ
  pub rest : List ℕ
  pub fits_peer_as : peer_as < 256 ^ number_len width
  pub fits_local_as : local_as < 256 ^ number_len width
  pub fits_interface : interface < 256 ^ 2
  pub fits_family : family < 256 ^ 2
  pub other : (family ≢ 1) × (family ≢ 2)
  pub parts : bytes ≡ asn_bytes width peer_as ++ (asn_bytes width local_as ++ (big_bytes 2 interface ++ (big_bytes 2 family ++ rest)))

abbrev as_session : ℕ → ℕ → ℕ → PeerAddr → PeerAddr × List ℕ → Reading SessionForm
as_session peer_as local_as interface peer_addr local_addr = Ok (session_with peer_as local_as interface peer_addr local_addr.0, local_addr.1)

session_refused : (width : Width) (bytes : List ℕ) (fault : Fault) → IsBytes bytes → session_at width bytes ≡ Err fault → ((fault ≡ BadFamily) × OtherSession width bytes) ⊎ (fault ≡ ShortRecord)
unfolding session_at
session_refused width bytes fault fine e =
    then_short (asn_at width bytes) (λ peer_as. asn_at width peer_as.1 >>= λ local_as. number_at ShortRecord 2 local_as.1 >>= λ interface. family_at interface.1 >>= λ family. addr_at family.0 family.1 >>= λ peer_addr. addr_at family.0 peer_addr.1 >>= λ local_addr. Ok (session_with peer_as.0 local_as.0 interface.0 peer_addr.0 local_addr.0, local_addr.1)) fault (asn_short width bytes) (λ a a_is ae.
    then_short (asn_at width a.1) (λ local_as. number_at ShortRecord 2 local_as.1 >>= λ interface. family_at interface.1 >>= λ family. addr_at family.0 family.1 >>= λ peer_addr. addr_at family.0 peer_addr.1 >>= λ local_addr. Ok (session_with a.0 local_as.0 interface.0 peer_addr.0 local_addr.0, local_addr.1)) fault (asn_short width a.1) (λ b b_is be.
    then_short (number_at ShortRecord 2 b.1) (λ interface. family_at interface.1 >>= λ family. addr_at family.0 family.1 >>= λ peer_addr. addr_at family.0 peer_addr.1 >>= λ local_addr. Ok (session_with a.0 b.0 interface.0 peer_addr.0 local_addr.0, local_addr.1)) fault (number_short 2 b.1) (λ d d_is de.
    by_family a b d a_is b_is d_is (bind_err (family_at d.1) (λ family. addr_at family.0 family.1 >>= λ peer_addr. addr_at family.0 peer_addr.1 >>= λ local_addr. Ok (session_with a.0 b.0 d.0 peer_addr.0 local_addr.0, local_addr.1)) fault de)) be) ae) e
  where
    other_session : (a b d : ℕ × List ℕ) → asn_at width bytes ≡ Ok a → asn_at width a.1 ≡ Ok b → number_at ShortRecord 2 b.1 ≡ Ok d → IsBytes d.1 → ((fault ≡ BadFamily) × OtherFamily d.1) ⊎ (fault ≡ ShortRecord) → ((fault ≡ BadFamily) × OtherSession width bytes) ⊎ (fault ≡ ShortRecord)
    other_session a b d a_is b_is d_is fine_d (inr short) = inr short
    other_session a b d a_is b_is d_is fine_d (inl o) =
        let ta = number_takes ShortRecord (number_len width) bytes a fine a_is in
        let tb = number_takes ShortRecord (number_len width) a.1 b ta.fine b_is in
        let td = number_takes ShortRecord 2 b.1 d tb.fine d_is in
        inl (
          o.0,
          record {
            peer_as = a.0;
            local_as = b.0;
            interface = d.0;
            family = o.1.family;
            rest = o.1.rest;
            fits_peer_as = ta.below;
            fits_local_as = tb.below;
            fits_interface = td.below;
            fits_family = o.1.fits;
            other = o.1.other;
            parts = ta.parts ∙ ap (λ (r : List ℕ). asn_bytes width a.0 ++ r) (tb.parts ∙ ap (λ (r : List ℕ). asn_bytes width b.0 ++ r) (td.parts ∙ ap (λ (r : List ℕ). big_bytes 2 d.0 ++ r) o.1.parts));
          },
        )

    by_family : (a b d : ℕ × List ℕ) → asn_at width bytes ≡ Ok a → asn_at width a.1 ≡ Ok b → number_at ShortRecord 2 b.1 ≡ Ok d
        → (family_at d.1 ≡ Err fault) ⊎ ((f : Bool × List ℕ) × (family_at d.1 ≡ Ok f) × ((addr_at f.0 f.1 >>= λ peer_addr. addr_at f.0 peer_addr.1 >>= as_session a.0 b.0 d.0 peer_addr.0) ≡ Err fault))
        → ((fault ≡ BadFamily) × OtherSession width bytes) ⊎ (fault ≡ ShortRecord)
    by_family a b d a_is b_is d_is (inl h) =
        let ta = number_takes ShortRecord (number_len width) bytes a fine a_is in
        let tb = number_takes ShortRecord (number_len width) a.1 b ta.fine b_is in
        let td = number_takes ShortRecord 2 b.1 d tb.fine d_is in
        other_session a b d a_is b_is d_is td.fine (family_refused d.1 fault td.fine h)
    by_family a b d a_is b_is d_is (inr h) =
        let f = h.0 in
        then_short (addr_at f.0 f.1) (λ peer_addr. addr_at f.0 peer_addr.1 >>= λ local_addr. Ok (session_with a.0 b.0 d.0 peer_addr.0 local_addr.0, local_addr.1)) fault (addr_short f.0 f.1) (λ p p_is pe.
        then_short (addr_at f.0 p.1) (λ local_addr. Ok (session_with a.0 b.0 d.0 p.0 local_addr.0, local_addr.1)) fault (addr_short f.0 p.1) (λ l l_is le.
        ok_never (session_with a.0 b.0 d.0 p.0 l.0, l.1) fault le) pe) h.2

session_other : (width : Width) (peer_as local_as interface family : ℕ) (rest : List ℕ) → peer_as < 256 ^ number_len width → local_as < 256 ^ number_len width → interface < 256 ^ 2 → family < 256 ^ 2 → family ≢ 1 → family ≢ 2
    → session_at width (asn_bytes width peer_as ++ (asn_bytes width local_as ++ (big_bytes 2 interface ++ (big_bytes 2 family ++ rest)))) ≡ Err BadFamily
unfolding session_at
session_other width peer_as local_as interface family rest fa fb fi ff one two =
    rw (number_at-again ShortRecord (number_len width) peer_as (asn_bytes width local_as ++ (big_bytes 2 interface ++ (big_bytes 2 family ++ rest))) fa, number_at-again ShortRecord (number_len width) local_as (big_bytes 2 interface ++ (big_bytes 2 family ++ rest)) fb, number_at-again ShortRecord 2 interface (big_bytes 2 family ++ rest) fi, family_other family rest ff one two) refl

peer_err : (width : Width) (bytes : List ℕ) (fault : Fault) → session_peer_at width bytes ≡ Err fault → session_at width bytes ≡ Err fault
unfolding session_peer_at
peer_err width bytes fault e = mapped_err (session_at width bytes) (λ s. (recorded_peer s.0, s.1)) fault e

ends_err : (width : Width) (bytes : List ℕ) (fault : Fault) → session_ends_at width bytes ≡ Err fault → session_at width bytes ≡ Err fault
unfolding session_ends_at
ends_err width bytes fault e = mapped_err (session_at width bytes) (λ s. (session_ends s.0, s.1)) fault e

peer_other : (width : Width) (peer_as local_as interface family : ℕ) (rest : List ℕ) → peer_as < 256 ^ number_len width → local_as < 256 ^ number_len width → interface < 256 ^ 2 → family < 256 ^ 2 → family ≢ 1 → family ≢ 2
    → session_peer_at width (asn_bytes width peer_as ++ (asn_bytes width local_as ++ (big_bytes 2 interface ++ (big_bytes 2 family ++ rest)))) ≡ Err BadFamily
unfolding session_peer_at
peer_other width peer_as local_as interface family rest fa fb fi ff one two = rw (session_other width peer_as local_as interface family rest fa fb fi ff one two) refl

ends_other : (width : Width) (peer_as local_as interface family : ℕ) (rest : List ℕ) → peer_as < 256 ^ number_len width → local_as < 256 ^ number_len width → interface < 256 ^ 2 → family < 256 ^ 2 → family ≢ 1 → family ≢ 2
    → session_ends_at width (asn_bytes width peer_as ++ (asn_bytes width local_as ++ (big_bytes 2 interface ++ (big_bytes 2 family ++ rest)))) ≡ Err BadFamily
unfolding session_ends_at
ends_other width peer_as local_as interface family rest fa fb fi ff one two = rw (session_other width peer_as local_as interface family rest fa fb fi ff one two) refl

-- ---- microseconds, and the session behind them

microseconds_short : (extended : Bool) (body : List ℕ) → IsShort (microseconds_at extended body)
microseconds_short true body fault e = number_short 4 body fault e
microseconds_short false body fault e = absurd cc

other_family : (extended : Bool) (width : Width) (body : List ℕ) (fault : Fault) (m : ℕ × List ℕ) → IsBytes body → microseconds_at extended body ≡ Ok m → session_at width m.1 ≡ Err fault → ((fault ≡ BadFamily) × HasOtherFamily extended width body) ⊎ (fault ≡ ShortRecord)
other_family extended width body fault m fine m_is e = by_session (session_refused width m.1 fault (microseconds_take extended body m fine m_is).fine e)
  where
    by_session : ((fault ≡ BadFamily) × OtherSession width m.1) ⊎ (fault ≡ ShortRecord) → ((fault ≡ BadFamily) × HasOtherFamily extended width body) ⊎ (fault ≡ ShortRecord)
    by_session (inr short) = inr short
    by_session (inl o) =
        let tm = microseconds_take extended body m fine m_is in
        inl (
          o.0,
          record {
            microseconds = m.0;
            peer_as = o.1.peer_as;
            local_as = o.1.local_as;
            interface = o.1.interface;
            family = o.1.family;
            rest = o.1.rest;
            fits_microseconds = tm.fits;
            fits_peer_as = o.1.fits_peer_as;
            fits_local_as = o.1.fits_local_as;
            fits_interface = o.1.fits_interface;
            fits_family = o.1.fits_family;
            other = o.1.other;
            spelled = tm.parts ∙ ap (λ (l : List ℕ). microseconds_bytes extended m.0 ++ l) o.1.parts;
          },
        )

behind_microseconds : (extended : Bool) (width : Width) (body : List ℕ) → (h : HasOtherFamily extended width body)
    → microseconds_at extended body ≡ Ok (h.microseconds, asn_bytes width h.peer_as ++ (asn_bytes width h.local_as ++ (big_bytes 2 h.interface ++ (big_bytes 2 h.family ++ h.rest))))
behind_microseconds extended width body h = ap (microseconds_at extended) h.spelled ∙ microseconds_again extended h.microseconds (asn_bytes width h.peer_as ++ (asn_bytes width h.local_as ++ (big_bytes 2 h.interface ++ (big_bytes 2 h.family ++ h.rest)))) h.fits_microseconds

-- ---- messages

module _ (rules : Rules) (at : RecordAt) (extended : Bool) (width : Width) where
  pub message_refused : (add_path : Bool) (body : List ℕ) (fault : Fault) → IsBytes body → message_unit rules at extended width add_path body ≡ Err fault → ((fault ≡ BadFamily) × HasOtherFamily extended width body) ⊎ (fault ≡ ShortRecord)
  unfolding message_unit
  message_refused add_path body fault fine e =
      then_short (microseconds_at extended body) (λ m. session_peer_at width m.1 >>= λ peer. Ok (session_unit at m.0 peer.0.key (Message peer.1 width add_path (of_peer peer.0.external rules)))) fault (microseconds_short extended body) (λ m m_is me.
      other_family extended width body fault m fine m_is (peer_err width m.1 fault (mapped_err (session_peer_at width m.1) (λ peer. session_unit at m.0 peer.0.key (Message peer.1 width add_path (of_peer peer.0.external rules))) fault me))) e

  pub message_other : (add_path : Bool) (body : List ℕ) → HasOtherFamily extended width body → message_unit rules at extended width add_path body ≡ Err BadFamily
  unfolding message_unit
  message_other add_path body h = rw (behind_microseconds extended width body h, peer_other width h.peer_as h.local_as h.interface h.family h.rest h.fits_peer_as h.fits_local_as h.fits_interface h.fits_family h.other.0 h.other.1) refl

-- ---- state changes

-- two states, and then more bytes
pub record StatesAndMore (bytes : List ℕ) : Type 0 where
  pub from : ℕ
  pub to : ℕ
  pub more : List ℕ
  pub from_below : from < 256 ^ 2
  pub to_below : to < 256 ^ 2
  pub parts : bytes ≡ big_bytes 2 from ++ (big_bytes 2 to ++ more)
  pub some : 0 < length more

pub ended_err : {A : Type 0} (s : A) (rest : List ℕ) (fault : Fault) → ended s rest ≡ Err fault → (fault ≡ TrailingBytes) × (0 < length rest)
ended_err s [] fault e = absurd cc
ended_err s (b ∷ rest) fault e =
    let some : eqb (length (b ∷ rest)) 0 ≡ false = grind arith in
    let h = rw some at e in
    (cc, omega arith)

pub ended_more : {A : Type 0} (s : A) (rest : List ℕ) → 0 < length rest → ended s rest ≡ Err TrailingBytes
ended_more s [] some = absurd (omega (arith, some))
ended_more s (b ∷ rest) some = let long : eqb (length (b ∷ rest)) 0 ≡ false = grind arith in rw long refl

states_refused : (bytes : List ℕ) (fault : Fault) → IsBytes bytes → states_in bytes ≡ Err fault → ((fault ≡ TrailingBytes) × StatesAndMore bytes) ⊎ (fault ≡ ShortRecord)
unfolding states_in
states_refused bytes fault fine e =
    then_short (number_at ShortRecord 2 bytes) (λ old. number_at ShortRecord 2 old.1 >>= λ new. ended (old.0, new.0) new.1) fault (number_short 2 bytes) (λ o o_is oe.
    then_short (number_at ShortRecord 2 o.1) (λ new. ended (o.0, new.0) new.1) fault (number_short 2 o.1) (λ n n_is ne.
    let to = number_takes ShortRecord 2 bytes o fine o_is in
    let tn = number_takes ShortRecord 2 o.1 n to.fine n_is in
    let last = ended_err (o.0, n.0) n.1 fault ne in
    inl (last.0, record { from = o.0; to = n.0; more = n.1; from_below = to.below; to_below = tn.below; parts = to.parts ∙ ap (λ (l : List ℕ). big_bytes 2 o.0 ++ l) tn.parts; some = last.1 })) oe) e

states_more : (bytes : List ℕ) → StatesAndMore bytes → states_in bytes ≡ Err TrailingBytes
unfolding states_in
states_more bytes h =
    let first : number_at ShortRecord 2 bytes ≡ Ok (h.from, big_bytes 2 h.to ++ h.more) = ap (number_at ShortRecord 2) h.parts ∙ number_at-again ShortRecord 2 h.from (big_bytes 2 h.to ++ h.more) h.from_below in
    rw (first, number_at-again ShortRecord 2 h.to h.more h.to_below) (ended_more (h.from, h.to) h.more h.some)

-- a state change, and then more bytes
pub record ChangeAndMore (extended : Bool) (width : Width) (body : List ℕ) : Type 0 where
  pub front : List ℕ
  pub more : List ℕ
  pub change : StateChange
  pub parts : body ≡ front ++ more
  pub some : 0 < length more
  pub agrees : IsStatesBody extended width front change

regroup : (a b c d more : List ℕ) → a ++ (b ++ (c ++ (d ++ more))) ≡ (a ++ (b ++ (c ++ d))) ++ more
regroup a b c d more = sym (simp append_assoc)

module _ (extended : Bool) (width : Width) (body : List ℕ) where
  change_of : (fault : Fault) (m : ℕ × List ℕ) (p : SessionEnds × List ℕ) → IsBytes body → microseconds_at extended body ≡ Ok m → session_ends_at width m.1 ≡ Ok p → StatesAndMore p.1 → ChangeAndMore extended width body
  change_of fault m p fine m_is p_is s =
      let tm = microseconds_take extended body m fine m_is in
      let tp = ends_take width m.1 p tm.fine p_is in
      let a : List ℕ = microseconds_bytes extended m.0 in
      let b : List ℕ = session_bytes width tp.session in
      record {
        front = a ++ (b ++ (big_bytes 2 s.from ++ big_bytes 2 s.to));
        more = s.more;
        change = change_with m.0 (session_ends tp.session) (s.from, s.to);
        parts = tm.parts ∙ ap (λ (l : List ℕ). a ++ l) (tp.takes.parts ∙ ap (λ (l : List ℕ). b ++ l) s.parts) ∙ regroup a b (big_bytes 2 s.from) (big_bytes 2 s.to) s.more;
        some = s.some;
        agrees = record { microseconds = m.0; session = tp.session; from = s.from; to = s.to; fits_microseconds = tm.fits; fits_session = tp.takes.fits; fits_from = s.from_below; fits_to = s.to_below; spelled = refl; said = refl };
      }

  abbrev pub ChangeFault : Fault → Type 0
  ChangeFault fault = ((fault ≡ BadFamily) × HasOtherFamily extended width body) ⊎ ((fault ≡ TrailingBytes) × ChangeAndMore extended width body)

  of_family : (fault : Fault) → ((fault ≡ BadFamily) × HasOtherFamily extended width body) ⊎ (fault ≡ ShortRecord) → ChangeFault fault ⊎ (fault ≡ ShortRecord)
  of_family fault (inl h) = inl (inl h)
  of_family fault (inr h) = inr h

  of_states : (fault : Fault) (m : ℕ × List ℕ) (p : SessionEnds × List ℕ) → IsBytes body → microseconds_at extended body ≡ Ok m → session_ends_at width m.1 ≡ Ok p → ((fault ≡ TrailingBytes) × StatesAndMore p.1) ⊎ (fault ≡ ShortRecord) → ChangeFault fault ⊎ (fault ≡ ShortRecord)
  of_states fault m p fine m_is p_is (inl h) = inl (inr (h.0, change_of fault m p fine m_is p_is h.1))
  of_states fault m p fine m_is p_is (inr h) = inr h

  pub change_refused : (fault : Fault) → IsBytes body → state_change_in extended width body ≡ Err fault → ChangeFault fault ⊎ (fault ≡ ShortRecord)
  unfolding state_change_in
  change_refused fault fine e =
      then_short (microseconds_at extended body) (λ m. session_ends_at width m.1 >>= λ ends. states_in ends.1 >>= λ s. Ok (change_with m.0 ends.0 s)) fault (microseconds_short extended body) (λ m m_is me.
      by_peer m m_is (bind_err (session_ends_at width m.1) (λ ends. states_in ends.1 >>= λ s. Ok (change_with m.0 ends.0 s)) fault me)) e
    where
      by_peer : (m : ℕ × List ℕ) → microseconds_at extended body ≡ Ok m → (session_ends_at width m.1 ≡ Err fault) ⊎ ((p : SessionEnds × List ℕ) × (session_ends_at width m.1 ≡ Ok p) × ((states_in p.1 >>= λ s. Ok (change_with m.0 p.0 s)) ≡ Err fault)) → ChangeFault fault ⊎ (fault ≡ ShortRecord)
      by_peer m m_is (inl h) = of_family fault (other_family extended width body fault m fine m_is (ends_err width m.1 fault h))
      by_peer m m_is (inr h) =
          let p = h.0 in
          let fine_p = (ends_take width m.1 p (microseconds_take extended body m fine m_is).fine h.1).takes.fine in
          of_states fault m p fine m_is h.1 (states_refused p.1 fault fine_p (mapped_err (states_in p.1) (λ s. change_with m.0 p.0 s) fault h.2))

  pub change_other : HasOtherFamily extended width body → state_change_in extended width body ≡ Err BadFamily
  unfolding state_change_in
  change_other h = rw (behind_microseconds extended width body h, ends_other width h.peer_as h.local_as h.interface h.family h.rest h.fits_peer_as h.fits_local_as h.fits_interface h.fits_family h.other.0 h.other.1) refl

  pub change_goes_on : (front more : List ℕ) (change : StateChange) → body ≡ front ++ more → 0 < length more → IsStatesBody extended width front change → state_change_in extended width body ≡ Err TrailingBytes
  unfolding state_change_in
  change_goes_on front more change parts some h =
      let a : List ℕ = microseconds_bytes extended h.microseconds in
      let b : List ℕ = session_bytes width h.session in
      let states : List ℕ = big_bytes 2 h.from ++ (big_bytes 2 h.to ++ more) in
      let whole : body ≡ a ++ (b ++ states) = parts ∙ ap (λ (l : List ℕ). l ++ more) h.spelled ∙ sym (regroup a b (big_bytes 2 h.from) (big_bytes 2 h.to) more) in
      let m : microseconds_at extended body ≡ Ok (h.microseconds, b ++ states) = ap (microseconds_at extended) whole ∙ microseconds_again extended h.microseconds (b ++ states) h.fits_microseconds in
      rw (m, ends_again width h.session states h.fits_session, states_more states (record { from = h.from; to = h.to; more = more; from_below = h.fits_from; to_below = h.fits_to; parts = refl; some = some })) refl
