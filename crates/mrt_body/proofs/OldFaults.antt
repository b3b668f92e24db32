-- Which fault a TABLE_DUMP record has.
use Rattle.std.proofs.Common.{◌≡◌, ◌⊎◌, inl, inr, ℕ, ◌^◌, ◌<◌, Bool, List, [], ◌∷◌, ◌++◌, length, Ok, Err, refl, sym, ap, ◌∙◌, append_assoc, arith}
use Rattle.byteorder.specs.Endian.{big_bytes}
use Rattle.mrt_frame.specs.declared.fault.Fault.{Fault}
use Rattle.mrt_frame.specs.declared.fault.Fault.TheVariants.{ShortRecord, TrailingBytes, BadPrefix}
use Rattle.mrt_frame.specs.Fields.{◌>>=◌, byte_at, bytes_at, number_at}
use Rattle.mrt_frame.proofs.FieldLaws.{IsBytes, byte_at-takes, byte_at-again, number_takes, number_at-again, bytes_at-takes, bytes_at-again}
use Rattle.bgp_update.specs.Keys.{octets_at}
use Rattle.bgp_update.specs.Families.{FamilyOf, Rules}
use Rattle.bgp_update.proofs.Readings.{mapped_err}
use Rattle.peer_units.specs.Plain.{Unit as ReplayUnit}
use Rattle.peer_units.proofs.MessageLaws.{ok_never}
use Rattle.mrt_body.specs.declared.record_place.RecordAt.{RecordAt}
use Rattle.mrt_body.specs.Indexes.{addr_at}
use Rattle.mrt_body.specs.Many.{ended}
use Rattle.mrt_body.specs.OldEntries.{OldPrefix, OldPeer, OldEntryForm, FitsOldEntry, address_len, is_ipv6_family, old_prefix_bytes, old_peer_bytes, old_entry_bytes, old_prefix_at, old_peer_at, old_attributes_in, old_entry_in, prefix_with, peer_with, entry_with}
use Rattle.mrt_body.specs.Units.{old_unit, old_entry_unit}
use Rattle.mrt_body.specs.Agreement.{IsOldBody}
use Rattle.mrt_body.specs.Refusals.{HasBadOldPrefix}
use Rattle.mrt_body.proofs.ManyLaws.{bind_err}
use Rattle.mrt_body.proofs.ShortFields.{IsShort, then_short, only_short, byte_short, number_short, bytes_short, addr_short}
use Rattle.mrt_body.proofs.RibFaults.{octets_refused, octets_bad}
use Rattle.mrt_body.proofs.SessionFaults.{ended_err, ended_more}
use Rattle.mrt_body.proofs.OldForms.{three_parts, prefix_takes, prefix_again, peer_takes, peer_again}

-- ---- the prefix

prefix_refused : (family : FamilyOf) (body : List ℕ) (fault : Fault) → old_prefix_at family body ≡ Err fault → ((fault ≡ BadPrefix) × HasBadOldPrefix family body) ⊎ (fault ≡ ShortRecord)
unfolding old_prefix_at
prefix_refused family body fault e =
    then_short (bytes_at ShortRecord 4 body) (λ numbers. bytes_at ShortRecord size numbers.1 >>= λ octets. byte_at ShortRecord octets.1 >>= λ len. octets_at family.width len.0 octets.0 >>= λ whole. Ok (prefix_with numbers.0 octets.0 len.0, len.1)) fault (bytes_short 4 body) (λ n n_is ne.
    then_short (bytes_at ShortRecord size n.1) (λ octets. byte_at ShortRecord octets.1 >>= λ len. octets_at family.width len.0 octets.0 >>= λ whole. Ok (prefix_with n.0 octets.0 len.0, len.1)) fault (bytes_short size n.1) (λ o o_is oe.
    then_short (byte_at ShortRecord o.1) (λ len. octets_at family.width len.0 o.0 >>= λ whole. Ok (prefix_with n.0 o.0 len.0, len.1)) fault (byte_short o.1) (λ l l_is le.
    let h = octets_refused family.width l.0 o.0 fault (mapped_err (octets_at family.width l.0 o.0) (λ whole. (prefix_with n.0 o.0 l.0, l.1)) fault le) in
    let tn = bytes_at-takes ShortRecord 4 body n n_is in
    let to = bytes_at-takes ShortRecord size n.1 o o_is in
    let tl = byte_at-takes ShortRecord o.1 l l_is in
    inl (
      h.0,
      record {
        prefix = prefix_with n.0 o.0 l.0;
        rest = l.1;
        numbers = tn.1;
        octets = to.1;
        bad = h.1;
        spelled = tn.0 ∙ ap (λ (r : List ℕ). n.0 ++ r) (to.0 ∙ ap (λ (r : List ℕ). o.0 ++ r) tl.0) ∙ three_parts n.0 o.0 (l.0 ∷ []) l.1;
      },
    )) oe) ne) e
  where
    size : ℕ
    size = address_len (is_ipv6_family family)

prefix_bad : (family : FamilyOf) (body : List ℕ) → HasBadOldPrefix family body → old_prefix_at family body ≡ Err BadPrefix
unfolding old_prefix_at
prefix_bad family body h =
    let p = h.prefix in
    ap (old_prefix_at family) (h.spelled ∙ sym (three_parts p.numbers p.octets (p.len ∷ []) h.rest))
    ∙ rw (bytes_at-again ShortRecord 4 p.numbers (p.octets ++ (p.len ∷ h.rest)) h.numbers, bytes_at-again ShortRecord (address_len (is_ipv6_family family)) p.octets (p.len ∷ h.rest) h.octets, byte_at-again ShortRecord p.len h.rest, octets_bad family.width p.len p.octets h.bad) refl

-- ---- the peer

peer_short : (ipv6 : Bool) (bytes : List ℕ) → IsShort (old_peer_at ipv6 bytes)
unfolding old_peer_at
peer_short ipv6 bytes fault e = only_short (
    then_short (bytes_at ShortRecord 5 bytes) (λ times. addr_at ipv6 times.1 >>= λ addr. number_at ShortRecord 2 addr.1 >>= λ asn. Ok (peer_with times.0 addr.0 asn.0, asn.1)) fault (bytes_short 5 bytes) (λ t t_is te.
    then_short (addr_at ipv6 t.1) (λ addr. number_at ShortRecord 2 addr.1 >>= λ asn. Ok (peer_with t.0 addr.0 asn.0, asn.1)) fault (addr_short ipv6 t.1) (λ a a_is ae.
    then_short (number_at ShortRecord 2 a.1) (λ asn. Ok (peer_with t.0 a.0 asn.0, asn.1)) fault (number_short 2 a.1) (λ n n_is ne.
    ok_never (peer_with t.0 a.0 n.0, n.1) fault ne) ae) te) e)

-- ---- the attributes

-- attributes of their length, and then more bytes
pub record AttributesAndMore (bytes : List ℕ) : Type 0 where
  pub attributes : List ℕ
  pub more : List ℕ
  pub few : length attributes < 256 ^ 2
  pub parts : bytes ≡ big_bytes 2 (length attributes) ++ (attributes ++ more)
  pub some : 0 < length more

attributes_refused : (bytes : List ℕ) (fault : Fault) → IsBytes bytes → old_attributes_in bytes ≡ Err fault → ((fault ≡ TrailingBytes) × AttributesAndMore bytes) ⊎ (fault ≡ ShortRecord)
unfolding old_attributes_in
attributes_refused bytes fault fine e =
    then_short (number_at ShortRecord 2 bytes) (λ len. bytes_at ShortRecord len.0 len.1 >>= λ a. ended a.0 a.1) fault (number_short 2 bytes) (λ l l_is le.
    then_short (bytes_at ShortRecord l.0 l.1) (λ a. ended a.0 a.1) fault (bytes_short l.0 l.1) (λ a a_is ae.
    let tl = number_takes ShortRecord 2 bytes l fine l_is in
    let ta = bytes_at-takes ShortRecord l.0 l.1 a a_is in
    let last = ended_err a.0 a.1 fault ae in
    inl (
      last.0,
      record {
        attributes = a.0;
        more = a.1;
        few = omega (arith, tl.below, ta.1);
        parts = tl.parts ∙ ap (λ (r : List ℕ). big_bytes 2 l.0 ++ r) ta.0 ∙ ap (λ (n : ℕ). big_bytes 2 n ++ (a.0 ++ a.1)) (sym ta.1);
        some = last.1;
      },
    )) le) e

attributes_more : (bytes : List ℕ) → AttributesAndMore bytes → old_attributes_in bytes ≡ Err TrailingBytes
unfolding old_attributes_in
attributes_more bytes h =
    let first : number_at ShortRecord 2 bytes ≡ Ok (length h.attributes, h.attributes ++ h.more) = ap (number_at ShortRecord 2) h.parts ∙ number_at-again ShortRecord 2 (length h.attributes) (h.attributes ++ h.more) h.few in
    rw (first, bytes_at-again ShortRecord (length h.attributes) h.attributes h.more refl) (ended_more h.attributes h.more h.some)

-- ---- the entry

-- an entry, and then more bytes
pub record EntryAndMore (family : FamilyOf) (body : List ℕ) : Type 0 where
  pub form : OldEntryForm
  pub more : List ℕ
  pub fits : FitsOldEntry family form
  pub parts : body ≡ old_entry_bytes form ++ more
  pub some : 0 < length more

abbrev pub OldFault : FamilyOf → List ℕ → Fault → Type 0
OldFault family body fault = ((fault ≡ BadPrefix) × HasBadOldPrefix family body) ⊎ ((fault ≡ TrailingBytes) × EntryAndMore family body)

four_parts : (a b c d rest : List ℕ) → a ++ (b ++ (c ++ (d ++ rest))) ≡ (a ++ (b ++ (c ++ d))) ++ rest
four_parts a b c d rest = sym (simp append_assoc)

module _ (family : FamilyOf) (body : List ℕ) (fault : Fault) (fine : IsBytes body) where
  of_prefix : ((fault ≡ BadPrefix) × HasBadOldPrefix family body) ⊎ (fault ≡ ShortRecord) → OldFault family body fault ⊎ (fault ≡ ShortRecord)
  of_prefix (inl h) = inl (inl h)
  of_prefix (inr h) = inr h

  module _ (p : OldPrefix × List ℕ) (p_is : old_prefix_at family body ≡ Ok p) (q : OldPeer × List ℕ) (q_is : old_peer_at (is_ipv6_family family) p.1 ≡ Ok q) where
    of_attributes : ((fault ≡ TrailingBytes) × AttributesAndMore q.1) ⊎ (fault ≡ ShortRecord) → OldFault family body fault ⊎ (fault ≡ ShortRecord)
    of_attributes (inr h) = inr h
    of_attributes (inl h) =
        let tp = prefix_takes family body p fine p_is in
        let tq = peer_takes (is_ipv6_family family) p.1 q tp.fine q_is in
        inl (inr (
          h.0,
          record {
            form = entry_with p.0 q.0 h.1.attributes;
            more = h.1.more;
            fits = record { prefix = tp.fits; peer = tq.fits; attributes = h.1.few };
            parts = tp.parts ∙ ap (λ (r : List ℕ). old_prefix_bytes p.0 ++ r) (tq.parts ∙ ap (λ (r : List ℕ). old_peer_bytes q.0 ++ r) h.1.parts) ∙ four_parts (old_prefix_bytes p.0) (old_peer_bytes q.0) (big_bytes 2 (length h.1.attributes)) h.1.attributes h.1.more;
            some = h.1.some;
          },
        ))

    fine_attributes : IsBytes q.1
    fine_attributes = (peer_takes (is_ipv6_family family) p.1 q (prefix_takes family body p fine p_is).fine q_is).fine

  by_prefix : (old_prefix_at family body ≡ Err fault) ⊎ ((p : OldPrefix × List ℕ) × (old_prefix_at family body ≡ Ok p) × ((old_peer_at (is_ipv6_family family) p.1 >>= λ peer. old_attributes_in peer.1 >>= λ attributes. Ok (entry_with p.0 peer.0 attributes)) ≡ Err fault))
      → OldFault family body fault ⊎ (fault ≡ ShortRecord)
  by_prefix (inl h) = of_prefix (prefix_refused family body fault h)
  by_prefix (inr h) =
      let p = h.0 in
      then_short (old_peer_at (is_ipv6_family family) p.1) (λ peer. old_attributes_in peer.1 >>= λ attributes. Ok (entry_with p.0 peer.0 attributes)) fault (peer_short (is_ipv6_family family) p.1) (λ q q_is qe.
      of_attributes p h.1 q q_is (attributes_refused q.1 fault (fine_attributes p h.1 q q_is) (mapped_err (old_attributes_in q.1) (λ attributes. entry_with p.0 q.0 attributes) fault qe))) h.2

  entry_refused : old_entry_in family body ≡ Err fault → OldFault family body fault ⊎ (fault ≡ ShortRecord)
  unfolding old_entry_in
  entry_refused e = by_prefix (bind_err (old_prefix_at family body) (λ prefix. old_peer_at (is_ipv6_family family) prefix.1 >>= λ peer. old_attributes_in peer.1 >>= λ attributes. Ok (entry_with prefix.0 peer.0 attributes)) fault e)

entry_bad : (family : FamilyOf) (body : List ℕ) → HasBadOldPrefix family body → old_entry_in family body ≡ Err BadPrefix
unfolding old_entry_in
entry_bad family body h = rw (prefix_bad family body h) refl

entry_more : (family : FamilyOf) (body : List ℕ) → EntryAndMore family body → old_entry_in family body ≡ Err TrailingBytes
unfolding old_entry_in
entry_more family body h =
    let f = h.form in
    let last : List ℕ = big_bytes 2 (length f.attributes) ++ (f.attributes ++ h.more) in
    let whole : body ≡ old_prefix_bytes f.prefix ++ (old_peer_bytes f.peer ++ last) = h.parts ∙ sym (four_parts (old_prefix_bytes f.prefix) (old_peer_bytes f.peer) (big_bytes 2 (length f.attributes)) f.attributes h.more) in
    let first : old_prefix_at family body ≡ Ok (f.prefix, old_peer_bytes f.peer ++ last) = ap (old_prefix_at family) whole ∙ prefix_again family f.prefix (old_peer_bytes f.peer ++ last) h.fits.prefix in
    rw (first, peer_again (is_ipv6_family family) f.peer last h.fits.peer, attributes_more last (record { attributes = f.attributes; more = h.more; few = h.fits.attributes; parts = refl; some = h.some })) refl

-- ---- the unit

module _ (rules : Rules) (at : RecordAt) (body : List ℕ) where
  pub old_unit_refused : (fault : Fault) → IsBytes body → old_entry_unit rules at body ≡ Err fault → OldFault rules.family body fault ⊎ (fault ≡ ShortRecord)
  unfolding old_entry_unit
  old_unit_refused fault fine e = entry_refused rules.family body fault fine (mapped_err (old_entry_in rules.family body) (old_unit rules at) fault e)

  pub bad_old_prefix_refused : HasBadOldPrefix rules.family body → old_entry_unit rules at body ≡ Err BadPrefix
  unfolding old_entry_unit
  bad_old_prefix_refused h = rw (entry_bad rules.family body h) refl

  pub old_goes_on : (front more : List ℕ) (unit : ReplayUnit) → body ≡ front ++ more → 0 < length more → IsOldBody rules at front unit → old_entry_unit rules at body ≡ Err TrailingBytes
  unfolding old_entry_unit
  old_goes_on front more unit parts some h =
      rw (entry_more rules.family body (record { form = h.form; more = more; fits = h.fits; parts = parts ∙ ap (λ (l : List ℕ). l ++ more) h.spelled; some = some })) refl
