-- A TABLE_DUMP record is read as it is written, and what is read was written so.
use Rattle.std.proofs.Common.{◌≡◌, ℕ, ◌^◌, ◌<◌, ◌≤◌, Bool, true, false, ◌||◌, ltb, List, [], ◌∷◌, ◌++◌, length, take, drop, Ok, refl, sym, ap, subst, ◌∙◌, append_assoc, append-nil, arith}
use Rattle.std.specs.Int.{div_ceil}
use Rattle.std.proofs.lemmas.Bool.Decides.{nat_tests}
use Rattle.byteorder.specs.Endian.{big_bytes}
use Rattle.mrt_frame.specs.declared.fault.Fault.TheVariants.{ShortRecord, BadPrefix}
use Rattle.mrt_frame.specs.Fields.{◌>>=◌, byte_at, bytes_at, number_at}
use Rattle.mrt_frame.proofs.Items.{bind_ok, guard_ok, ok_is}
use Rattle.mrt_frame.proofs.FieldLaws.{IsBytes, byte_at-takes, byte_at-again, number_takes, number_at-again, bytes_at-takes, bytes_at-again}
use Rattle.bgp_update.specs.Keys.{octets_at}
use Rattle.bgp_update.specs.Families.{FamilyOf, Rules}
use Rattle.peer_units.specs.Plain.{Unit as ReplayUnit}
use Rattle.mrt_body.specs.declared.record_place.RecordAt.{RecordAt}
use Rattle.mrt_body.specs.Indexes.{addr_at, addr_bytes}
use Rattle.mrt_body.specs.Many.{ended}
use Rattle.mrt_body.specs.OldEntries.{OldPrefix, OldPeer, OldEntryForm, FitsOldPrefix, FitsOldPeer, FitsOldEntry, address_len, is_ipv6_family, old_prefix_bytes, old_peer_bytes, old_entry_bytes, old_prefix_at, old_peer_at, old_attributes_in, old_entry_in, prefix_with, peer_with, entry_with}
use Rattle.mrt_body.specs.Units.{old_unit, old_entry_unit}
use Rattle.mrt_body.specs.Agreement.{IsOldBody}
use Rattle.mrt_body.proofs.PeerForms.{addr_takes, addr_again}
use Rattle.mrt_body.proofs.SessionForms.{ended_is}

-- ---- the prefix

pub three_parts : (a b c rest : List ℕ) → a ++ (b ++ (c ++ rest)) ≡ (a ++ (b ++ c)) ++ rest
three_parts a b c rest = sym (simp append_assoc)

pub record TakesPrefix (family : FamilyOf) (bytes : List ℕ) (p : OldPrefix) (rest : List ℕ) : Type 0 where
  pub parts : bytes ≡ old_prefix_bytes p ++ rest
  pub fits : FitsOldPrefix family p
  pub fine : IsBytes rest

pub whole_octets : (width len : ℕ) (octets : List ℕ) (y : List ℕ × List ℕ) → octets_at width len octets ≡ Ok y → (len ≤ width) × (div_ceil len 8 ≤ length octets)
whole_octets width len octets y e =
    let g = guard_ok (ltb width len || ltb (length octets) (div_ceil len 8)) BadPrefix (take (div_ceil len 8) octets, drop (div_ceil len 8) octets) y e in
    tested (ltb width len) (ltb (length octets) (div_ceil len 8)) refl refl g.0
  where
    tested : (a b : Bool) → ltb width len ≡ a → ltb (length octets) (div_ceil len 8) ≡ b → (a || b) ≡ false → (len ≤ width) × (div_ceil len 8 ≤ length octets)
    tested true b a_is b_is h = absurd cc
    tested false true a_is b_is h = absurd cc
    tested false false a_is b_is h = (grind (arith, nat_tests), grind (arith, nat_tests))

pub octets_whole : (width len : ℕ) (octets : List ℕ) → len ≤ width → div_ceil len 8 ≤ length octets → octets_at width len octets ≡ Ok (take (div_ceil len 8) octets, drop (div_ceil len 8) octets)
octets_whole width len octets short whole =
    let a : ltb width len ≡ false = grind (arith, nat_tests) in
    let b : ltb (length octets) (div_ceil len 8) ≡ false = grind (arith, nat_tests) in
    rw (a, b) refl

pub prefix_takes : (family : FamilyOf) (bytes : List ℕ) (x : OldPrefix × List ℕ) → IsBytes bytes → old_prefix_at family bytes ≡ Ok x → TakesPrefix family bytes x.0 x.1
unfolding old_prefix_at
prefix_takes family bytes x fine e =
    let size = address_len (is_ipv6_family family) in
    let n = bind_ok (bytes_at ShortRecord 4 bytes) (λ numbers. bytes_at ShortRecord size numbers.1 >>= λ octets. byte_at ShortRecord octets.1 >>= λ len. octets_at family.width len.0 octets.0 >>= λ whole. Ok (prefix_with numbers.0 octets.0 len.0, len.1)) x e in
    let o = bind_ok (bytes_at ShortRecord size n.0.1) (λ octets. byte_at ShortRecord octets.1 >>= λ len. octets_at family.width len.0 octets.0 >>= λ whole. Ok (prefix_with n.0.0 octets.0 len.0, len.1)) x n.2 in
    let l = bind_ok (byte_at ShortRecord o.0.1) (λ len. octets_at family.width len.0 o.0.0 >>= λ whole. Ok (prefix_with n.0.0 o.0.0 len.0, len.1)) x o.2 in
    let w = bind_ok (octets_at family.width l.0.0 o.0.0) (λ whole. Ok (prefix_with n.0.0 o.0.0 l.0.0, l.0.1)) x l.2 in
    let tn = bytes_at-takes ShortRecord 4 bytes n.0 n.1 in
    let to = bytes_at-takes ShortRecord size n.0.1 o.0 o.1 in
    let tl = byte_at-takes ShortRecord o.0.1 l.0 l.1 in
    let fits = whole_octets family.width l.0.0 o.0.0 w.0 w.1 in
    subst (λ (y : OldPrefix × List ℕ). TakesPrefix family bytes y.0 y.1) (ok_is (prefix_with n.0.0 o.0.0 l.0.0, l.0.1) x w.2) (record {
      parts = tn.0 ∙ ap (λ (r : List ℕ). n.0.0 ++ r) (to.0 ∙ ap (λ (r : List ℕ). o.0.0 ++ r) tl.0) ∙ three_parts n.0.0 o.0.0 (l.0.0 ∷ []) l.0.1;
      fits = record { numbers = tn.1; octets = to.1; short = fits.0; whole = fits.1 };
      fine = tl.1 (to.2 (tn.2 fine));
    })

pub prefix_again : (family : FamilyOf) (p : OldPrefix) (rest : List ℕ) → FitsOldPrefix family p → old_prefix_at family (old_prefix_bytes p ++ rest) ≡ Ok (p, rest)
unfolding old_prefix_at
prefix_again family p rest h =
    ap (old_prefix_at family) (sym (three_parts p.numbers p.octets (p.len ∷ []) rest))
    ∙ rw (bytes_at-again ShortRecord 4 p.numbers (p.octets ++ (p.len ∷ rest)) h.numbers, bytes_at-again ShortRecord (address_len (is_ipv6_family family)) p.octets (p.len ∷ rest) h.octets, byte_at-again ShortRecord p.len rest, octets_whole family.width p.len p.octets h.short h.whole) refl

-- ---- the peer

pub record TakesPeer (ipv6 : Bool) (bytes : List ℕ) (p : OldPeer) (rest : List ℕ) : Type 0 where
  pub parts : bytes ≡ old_peer_bytes p ++ rest
  pub fits : FitsOldPeer ipv6 p
  pub fine : IsBytes rest

pub peer_takes : (ipv6 : Bool) (bytes : List ℕ) (x : OldPeer × List ℕ) → IsBytes bytes → old_peer_at ipv6 bytes ≡ Ok x → TakesPeer ipv6 bytes x.0 x.1
unfolding old_peer_at
peer_takes ipv6 bytes x fine e =
    let t = bind_ok (bytes_at ShortRecord 5 bytes) (λ times. addr_at ipv6 times.1 >>= λ addr. number_at ShortRecord 2 addr.1 >>= λ asn. Ok (peer_with times.0 addr.0 asn.0, asn.1)) x e in
    let a = bind_ok (addr_at ipv6 t.0.1) (λ addr. number_at ShortRecord 2 addr.1 >>= λ asn. Ok (peer_with t.0.0 addr.0 asn.0, asn.1)) x t.2 in
    let n = bind_ok (number_at ShortRecord 2 a.0.1) (λ asn. Ok (peer_with t.0.0 a.0.0 asn.0, asn.1)) x a.2 in
    let tt' = bytes_at-takes ShortRecord 5 bytes t.0 t.1 in
    let ta = addr_takes ipv6 t.0.1 a.0 (tt'.2 fine) a.1 in
    let tn = number_takes ShortRecord 2 a.0.1 n.0 ta.fine n.1 in
    subst (λ (y : OldPeer × List ℕ). TakesPeer ipv6 bytes y.0 y.1) (ok_is (peer_with t.0.0 a.0.0 n.0.0, n.0.1) x n.2) (record {
      parts = tt'.0 ∙ ap (λ (r : List ℕ). t.0.0 ++ r) (ta.parts ∙ ap (λ (r : List ℕ). addr_bytes a.0.0 ++ r) tn.parts) ∙ three_parts t.0.0 (addr_bytes a.0.0) (big_bytes 2 n.0.0) n.0.1;
      fits = record { times = tt'.1; family = ta.family; addr = ta.fits; asn = tn.below };
      fine = tn.fine;
    })

pub peer_again : (ipv6 : Bool) (p : OldPeer) (rest : List ℕ) → FitsOldPeer ipv6 p → old_peer_at ipv6 (old_peer_bytes p ++ rest) ≡ Ok (p, rest)
unfolding old_peer_at
peer_again ipv6 p rest h =
    ap (old_peer_at ipv6) (sym (three_parts p.times (addr_bytes p.addr) (big_bytes 2 p.asn) rest))
    ∙ rw (bytes_at-again ShortRecord 5 p.times (addr_bytes p.addr ++ (big_bytes 2 p.asn ++ rest)) h.times, addr_again ipv6 p.addr (big_bytes 2 p.asn ++ rest) h.family h.addr, number_at-again ShortRecord 2 p.asn rest h.asn) refl

-- ---- the attributes

pub record TakesAttributes (bytes attributes : List ℕ) : Type 0 where
  pub parts : bytes ≡ big_bytes 2 (length attributes) ++ attributes
  pub few : length attributes < 256 ^ 2

pub attributes_take : (bytes attributes : List ℕ) → IsBytes bytes → old_attributes_in bytes ≡ Ok attributes → TakesAttributes bytes attributes
unfolding old_attributes_in
attributes_take bytes attributes fine e =
    let l = bind_ok (number_at ShortRecord 2 bytes) (λ len. bytes_at ShortRecord len.0 len.1 >>= λ a. ended a.0 a.1) attributes e in
    let a = bind_ok (bytes_at ShortRecord l.0.0 l.0.1) (λ a. ended a.0 a.1) attributes l.2 in
    let tl = number_takes ShortRecord 2 bytes l.0 fine l.1 in
    let ta = bytes_at-takes ShortRecord l.0.0 l.0.1 a.0 a.1 in
    let last = ended_is a.0.0 attributes a.0.1 a.2 in
    let all : l.0.1 ≡ a.0.0 = ta.0 ∙ ap (λ (r : List ℕ). a.0.0 ++ r) last.0 ∙ append-nil a.0.0 in
    subst (λ (y : List ℕ). TakesAttributes bytes y) last.1 (record {
      parts = tl.parts ∙ ap (λ (r : List ℕ). big_bytes 2 l.0.0 ++ r) all ∙ ap (λ (n : ℕ). big_bytes 2 n ++ a.0.0) (sym ta.1);
      few = omega (arith, tl.below, ta.1);
    })

pub attributes_again : (attributes : List ℕ) → length attributes < 256 ^ 2 → old_attributes_in (big_bytes 2 (length attributes) ++ attributes) ≡ Ok attributes
unfolding old_attributes_in
attributes_again attributes few =
    let whole : bytes_at ShortRecord (length attributes) attributes ≡ Ok (attributes, []) = ap (bytes_at ShortRecord (length attributes)) (sym (append-nil attributes)) ∙ bytes_at-again ShortRecord (length attributes) attributes [] refl in
    rw (number_at-again ShortRecord 2 (length attributes) attributes few, whole) refl

-- ---- the entry

pub record TakesEntry (family : FamilyOf) (body : List ℕ) (form : OldEntryForm) : Type 0 where
  pub parts : body ≡ old_entry_bytes form
  pub fits : FitsOldEntry family form

pub entry_takes : (family : FamilyOf) (body : List ℕ) (form : OldEntryForm) → IsBytes body → old_entry_in family body ≡ Ok form → TakesEntry family body form
unfolding old_entry_in
entry_takes family body form fine e =
    let p = bind_ok (old_prefix_at family body) (λ prefix. old_peer_at (is_ipv6_family family) prefix.1 >>= λ peer. old_attributes_in peer.1 >>= λ attributes. Ok (entry_with prefix.0 peer.0 attributes)) form e in
    let q = bind_ok (old_peer_at (is_ipv6_family family) p.0.1) (λ peer. old_attributes_in peer.1 >>= λ attributes. Ok (entry_with p.0.0 peer.0 attributes)) form p.2 in
    let a = bind_ok (old_attributes_in q.0.1) (λ attributes. Ok (entry_with p.0.0 q.0.0 attributes)) form q.2 in
    let tp = prefix_takes family body p.0 fine p.1 in
    let tq = peer_takes (is_ipv6_family family) p.0.1 q.0 tp.fine q.1 in
    let ta = attributes_take q.0.1 a.0 tq.fine a.1 in
    subst (λ (y : OldEntryForm). TakesEntry family body y) (ok_is (entry_with p.0.0 q.0.0 a.0) form a.2) (record {
      parts = tp.parts ∙ ap (λ (r : List ℕ). old_prefix_bytes p.0.0 ++ r) (tq.parts ∙ ap (λ (r : List ℕ). old_peer_bytes q.0.0 ++ r) ta.parts);
      fits = record { prefix = tp.fits; peer = tq.fits; attributes = ta.few };
    })

pub entry_again : (family : FamilyOf) (form : OldEntryForm) → FitsOldEntry family form → old_entry_in family (old_entry_bytes form) ≡ Ok form
unfolding old_entry_in
entry_again family form h =
    let attributes : List ℕ = big_bytes 2 (length form.attributes) ++ form.attributes in
    rw (prefix_again family form.prefix (old_peer_bytes form.peer ++ attributes) h.prefix, peer_again (is_ipv6_family family) form.peer attributes h.peer, attributes_again form.attributes h.attributes) refl

pub old_body-is : (rules : Rules) (at : RecordAt) (body : List ℕ) (unit : ReplayUnit) → IsBytes body → old_entry_unit rules at body ≡ Ok unit → IsOldBody rules at body unit
unfolding old_entry_unit
old_body-is rules at body unit fine e =
    let f = bind_ok (old_entry_in rules.family body) (λ form. Ok (old_unit rules at form)) unit e in
    let t = entry_takes rules.family body f.0 fine f.1 in
    record { form = f.0; fits = t.fits; spelled = t.parts; said = sym (ok_is (old_unit rules at f.0) unit f.2) }

pub old_body-again : (rules : Rules) (at : RecordAt) (body : List ℕ) (unit : ReplayUnit) → IsOldBody rules at body unit → old_entry_unit rules at body ≡ Ok unit
unfolding old_entry_unit
old_body-again rules at body unit h =
    let read : old_entry_in rules.family body ≡ Ok h.form = ap (old_entry_in rules.family) h.spelled ∙ entry_again rules.family h.form h.fits in
    rw read (ap (λ (u : ReplayUnit). Ok u) (sym h.said))
