-- Which fault a RIB record has.
use Rattle.std.proofs.Common.{◌≡◌, ◌⊎◌, inl, inr, ℕ, ◌<◌, ◌≤◌, ◌^◌, Bool, true, false, ◌||◌, cond, ltb, List, ◌∷◌, ◌++◌, length, take, drop, Result, Ok, Err, refl, sym, ap, subst, ◌∙◌, append_assoc, arith}
use Rattle.std.specs.Int.{div_ceil}
use Rattle.std.specs.List.{flat_map}
use Rattle.std.proofs.lemmas.Bool.{ltb-true, ltb-false, le-ltb, lt-ltb}
use Rattle.byteorder.specs.Endian.{big_bytes}
use Rattle.mrt_frame.specs.declared.fault.Fault.{Fault}
use Rattle.mrt_frame.specs.declared.fault.Fault.TheVariants.{ShortRecord, TrailingBytes, BadPrefix, BadPeerIndex}
use Rattle.mrt_frame.specs.Fields.{Reading, ◌>>=◌, byte_at, number_at, bytes_at}
use Rattle.mrt_frame.proofs.FieldLaws.{IsBytes, byte_at-takes, byte_at-again, number_takes, number_at-again}
use Rattle.bgp_update.specs.Keys.{octets_at}
use Rattle.bgp_update.specs.Families.{FamilyOf}
use Rattle.bgp_update.proofs.Readings.{mapped_err}
use Rattle.mrt_body.specs.Many.{many}
use Rattle.mrt_body.specs.RibRecords.{WrittenEntry, entry_bytes, FitsEntry, RibForm, rib_bytes, FitsRib, peer_index_at, identifier_at, entry_at, RibHead, rib_head_at, rib_in}
use Rattle.mrt_body.specs.Refusals.{HasBadPrefix, HasUnknownPeer}
use Rattle.mrt_body.proofs.ManyLaws.{BreaksOff, GoesOn, bind_err, many-unread, many-goes_on, many-breaks_off}
use Rattle.peer_units.proofs.MessageLaws.{ok_never}
use Rattle.mrt_body.proofs.ShortFields.{IsShort, then_short, byte_short, number_short, bytes_short}
use Rattle.mrt_body.proofs.RibForms.{TakesHead, head_with, head_bytes, head_takes, head_again, entry_takes, entry_again}

-- ---- an entry

-- the index is that of no peer
pub record UnknownPeer (peers : ℕ) (bytes : List ℕ) : Type 0 where
  pub peer : ℕ
  pub rest : List ℕ
  pub fits : peer < 256 ^ 2
  pub unknown : peers ≤ peer
  pub parts : bytes ≡ big_bytes 2 peer ++ rest

peer_index-refused : (peers : ℕ) (bytes : List ℕ) (fault : Fault) → IsBytes bytes → peer_index_at peers bytes ≡ Err fault → ((fault ≡ BadPeerIndex) × UnknownPeer peers bytes) ⊎ (fault ≡ ShortRecord)
peer_index-refused peers bytes fault fine e =
    then_short (number_at ShortRecord 2 bytes) (λ index. cond (ltb index.0 peers) (Ok index) (Err BadPeerIndex)) fault (number_short 2 bytes) (λ i i_is ie.
    let t = number_takes ShortRecord 2 bytes i fine i_is in
    let g = tested (ltb i.0 peers) i ie in
    inl (g.1, record { peer = i.0; rest = i.1; fits = t.below; unknown = ltb-false _ _ g.0; parts = t.parts })) e
  where
    tested : (b : Bool) (i : ℕ × List ℕ) → cond b (Ok i) (Err BadPeerIndex) ≡ Err fault → (b ≡ false) × (fault ≡ BadPeerIndex)
    tested true i h = absurd cc
    tested false i h = (refl, cc)

identifier_short : (add_path : Bool) (bytes : List ℕ) → IsShort (identifier_at add_path bytes)
identifier_short true bytes fault e = number_short 4 bytes fault e
identifier_short false bytes fault e = absurd cc

abbrev entry_with : ℕ → ℕ → ℕ → List ℕ → WrittenEntry
entry_with peer originated identifier attributes = record { peer = peer; originated = originated; identifier = identifier; attributes = attributes }

abbrev as_entry : ℕ → ℕ → ℕ → List ℕ × List ℕ → Reading WrittenEntry
as_entry peer originated identifier attributes = Ok (entry_with peer originated identifier attributes.0, attributes.1)

entry_refused : (add_path : Bool) (peers : ℕ) (bytes : List ℕ) (fault : Fault) → IsBytes bytes → entry_at add_path peers bytes ≡ Err fault → ((fault ≡ BadPeerIndex) × UnknownPeer peers bytes) ⊎ (fault ≡ ShortRecord)
unfolding entry_at
entry_refused add_path peers bytes fault fine e =
    by_step (bind_err (peer_index_at peers bytes) (λ peer. number_at ShortRecord 4 peer.1 >>= λ originated. identifier_at add_path originated.1 >>= λ identifier. number_at ShortRecord 2 identifier.1 >>= λ len. bytes_at ShortRecord len.0 len.1 >>= λ attributes. Ok (entry_with peer.0 originated.0 identifier.0 attributes.0, attributes.1)) fault e)
  where
    by_step : (peer_index_at peers bytes ≡ Err fault) ⊎ ((p : ℕ × List ℕ) × (peer_index_at peers bytes ≡ Ok p) × ((number_at ShortRecord 4 p.1 >>= λ originated. identifier_at add_path originated.1 >>= λ identifier. number_at ShortRecord 2 identifier.1 >>= λ len. bytes_at ShortRecord len.0 len.1 >>= as_entry p.0 originated.0 identifier.0) ≡ Err fault))
        → ((fault ≡ BadPeerIndex) × UnknownPeer peers bytes) ⊎ (fault ≡ ShortRecord)
    by_step (inl h) = peer_index-refused peers bytes fault fine h
    by_step (inr h) =
        let p = h.0 in
        then_short (number_at ShortRecord 4 p.1) (λ originated. identifier_at add_path originated.1 >>= λ identifier. number_at ShortRecord 2 identifier.1 >>= λ len. bytes_at ShortRecord len.0 len.1 >>= λ attributes. Ok (entry_with p.0 originated.0 identifier.0 attributes.0, attributes.1)) fault (number_short 4 p.1) (λ o o_is oe.
        then_short (identifier_at add_path o.1) (λ identifier. number_at ShortRecord 2 identifier.1 >>= λ len. bytes_at ShortRecord len.0 len.1 >>= λ attributes. Ok (entry_with p.0 o.0 identifier.0 attributes.0, attributes.1)) fault (identifier_short add_path o.1) (λ i i_is ie.
        then_short (number_at ShortRecord 2 i.1) (λ len. bytes_at ShortRecord len.0 len.1 >>= λ attributes. Ok (entry_with p.0 o.0 i.0 attributes.0, attributes.1)) fault (number_short 2 i.1) (λ l l_is le.
        then_short (bytes_at ShortRecord l.0 l.1) (λ attributes. Ok (entry_with p.0 o.0 i.0 attributes.0, attributes.1)) fault (bytes_short l.0 l.1) (λ a a_is ae.
        ok_never (entry_with p.0 o.0 i.0 a.0, a.1) fault ae) le) ie) oe) h.2

entry_unknown : (add_path : Bool) (peers peer : ℕ) (rest : List ℕ) → peer < 256 ^ 2 → peers ≤ peer → entry_at add_path peers (big_bytes 2 peer ++ rest) ≡ Err BadPeerIndex
unfolding entry_at
entry_unknown add_path peers peer rest fits unknown = rw (number_at-again ShortRecord 2 peer rest fits, le-ltb peer peers unknown) refl

-- ---- what stands before the entries

abbrev octets_of : ℕ → List ℕ → Reading (List ℕ)
octets_of len rest = Ok (take (div_ceil len 8) rest, drop (div_ceil len 8) rest)

pub octets_refused : (width len : ℕ) (rest : List ℕ) (fault : Fault) → octets_at width len rest ≡ Err fault → (fault ≡ BadPrefix) × ((width < len) ⊎ (length rest < div_ceil len 8))
octets_refused width len rest fault e = tested (ltb width len) (ltb (length rest) (div_ceil len 8)) (λ h. ltb-true _ _ h) (λ h. ltb-true _ _ h) e
  where
    tested : (a b : Bool) → (a ≡ true → width < len) → (b ≡ true → length rest < div_ceil len 8) → cond (a || b) (Err BadPrefix) (octets_of len rest) ≡ Err fault → (fault ≡ BadPrefix) × ((width < len) ⊎ (length rest < div_ceil len 8))
    tested true b long few h = (cc, inl (long refl))
    tested false true long few h = (cc, inr (few refl))
    tested false false long few h = absurd cc

pub octets_bad : (width len : ℕ) (rest : List ℕ) → (width < len) ⊎ (length rest < div_ceil len 8) → octets_at width len rest ≡ Err BadPrefix
octets_bad width len rest (inl long) = rw (lt-ltb width len long) refl
octets_bad width len rest (inr few) = rw (lt-ltb (length rest) (div_ceil len 8) few) (either (ltb width len))
  where
    either : (a : Bool) → cond (a || true) (Err BadPrefix) (octets_of len rest) ≡ Err BadPrefix
    either true = refl
    either false = refl

abbrev as_head : ℕ → ℕ → List ℕ → ℕ × List ℕ → Reading RibHead
as_head sequence len octets count = Ok (head_with sequence len octets count.0, count.1)

head_refused : (family : FamilyOf) (body : List ℕ) (fault : Fault) → IsBytes body → rib_head_at family body ≡ Err fault → ((fault ≡ BadPrefix) × HasBadPrefix family body) ⊎ (fault ≡ ShortRecord)
unfolding rib_head_at
head_refused family body fault fine e =
    then_short (number_at ShortRecord 4 body) (λ sequence. byte_at ShortRecord sequence.1 >>= λ len. octets_at family.width len.0 len.1 >>= λ octets. number_at ShortRecord 2 octets.1 >>= λ count. Ok (head_with sequence.0 len.0 octets.0 count.0, count.1)) fault (number_short 4 body) (λ s s_is se.
    then_short (byte_at ShortRecord s.1) (λ len. octets_at family.width len.0 len.1 >>= λ octets. number_at ShortRecord 2 octets.1 >>= λ count. Ok (head_with s.0 len.0 octets.0 count.0, count.1)) fault (byte_short s.1) (λ l l_is le.
    by_octets s l s_is l_is (bind_err (octets_at family.width l.0 l.1) (λ octets. number_at ShortRecord 2 octets.1 >>= λ count. Ok (head_with s.0 l.0 octets.0 count.0, count.1)) fault le)) se) e
  where
    by_octets : (s l : ℕ × List ℕ) → number_at ShortRecord 4 body ≡ Ok s → byte_at ShortRecord s.1 ≡ Ok l
        → (octets_at family.width l.0 l.1 ≡ Err fault) ⊎ ((o : List ℕ × List ℕ) × (octets_at family.width l.0 l.1 ≡ Ok o) × ((number_at ShortRecord 2 o.1 >>= as_head s.0 l.0 o.0) ≡ Err fault))
        → ((fault ≡ BadPrefix) × HasBadPrefix family body) ⊎ (fault ≡ ShortRecord)
    by_octets s l s_is l_is (inl h) =
        let ts = number_takes ShortRecord 4 body s fine s_is in
        let tl = byte_at-takes ShortRecord s.1 l l_is in
        let o = octets_refused family.width l.0 l.1 fault h in
        inl (o.0, record { sequence = s.0; len = l.0; rest = l.1; fits_sequence = ts.below; bad = o.1; spelled = ts.parts ∙ ap (λ (t : List ℕ). big_bytes 4 s.0 ++ t) tl.0 })
    by_octets s l s_is l_is (inr h) =
        then_short (number_at ShortRecord 2 h.0.1) (λ count. Ok (head_with s.0 l.0 h.0.0 count.0, count.1)) fault (number_short 2 h.0.1) (λ n n_is ne. ok_never (head_with s.0 l.0 h.0.0 n.0, n.1) fault ne) h.2

head_bad : (family : FamilyOf) (sequence len : ℕ) (rest : List ℕ) → sequence < 256 ^ 4 → (family.width < len) ⊎ (length rest < div_ceil len 8) → rib_head_at family (big_bytes 4 sequence ++ (len ∷ rest)) ≡ Err BadPrefix
unfolding rib_head_at
head_bad family sequence len rest fits bad = rw (number_at-again ShortRecord 4 sequence (len ∷ rest) fits, byte_at-again ShortRecord len rest, octets_bad family.width len rest bad) refl

-- ---- the record

-- a RIB record, and then more bytes
pub record RibAndMore (family : FamilyOf) (add_path : Bool) (peers : ℕ) (body : List ℕ) : Type 0 where
  pub form : RibForm
  pub more : List ℕ
  pub fits : FitsRib family add_path peers form
  pub parts : body ≡ rib_bytes add_path form ++ more
  pub some : 0 < length more

-- its faults other than a field that runs past it
abbrev pub RibFault : FamilyOf → Bool → ℕ → List ℕ → Fault → Type 0
RibFault family add_path peers body fault = ((fault ≡ BadPrefix) × HasBadPrefix family body) ⊎ (((fault ≡ BadPeerIndex) × HasUnknownPeer family add_path peers body) ⊎ ((fault ≡ TrailingBytes) × RibAndMore family add_path peers body))

behind_head : (head : RibHead) (front more : List ℕ) → head_bytes head (front ++ more) ≡ head_bytes head front ++ more
behind_head head front more = sym (simp append_assoc)

abbrev read_rib : RibHead → List WrittenEntry → Result RibForm Fault
read_rib head entries = Ok (record { sequence = head.sequence; len = head.len; octets = head.octets; entries = entries })

pub rib_refused : (family : FamilyOf) (add_path : Bool) (peers : ℕ) (body : List ℕ) (fault : Fault) → IsBytes body → rib_in family add_path peers body ≡ Err fault → RibFault family add_path peers body fault ⊎ (fault ≡ ShortRecord)
unfolding rib_in
rib_refused family add_path peers body fault fine e = by_head (bind_err (rib_head_at family body) (λ head. many (entry_at add_path peers) head.0.count head.1 >>= λ entries. Ok (record { sequence = head.0.sequence; len = head.0.len; octets = head.0.octets; entries = entries })) fault e)
  where
    of_head : ((fault ≡ BadPrefix) × HasBadPrefix family body) ⊎ (fault ≡ ShortRecord) → RibFault family add_path peers body fault ⊎ (fault ≡ ShortRecord)
    of_head (inl h) = inl (inl h)
    of_head (inr h) = inr h

    of_entry : (h : RibHead × List ℕ) → TakesHead family body h.0 h.1 → (b : BreaksOff (entry_at add_path peers) (entry_bytes add_path) (FitsEntry add_path peers) h.0.count h.1 fault)
        → ((fault ≡ BadPeerIndex) × UnknownPeer peers b.rest) ⊎ (fault ≡ ShortRecord) → RibFault family add_path peers body fault ⊎ (fault ≡ ShortRecord)
    of_entry h t b (inr short) = inr short
    of_entry h t b (inl u) =
        let fewer = b.fewer in
        let below = t.count in
        inl (inr (inl (
          u.0,
          record {
            form = record { sequence = h.0.sequence; len = h.0.len; octets = h.0.octets; entries = b.front };
            count = h.0.count;
            peer = u.1.peer;
            rest = u.1.rest;
            fits = record { sequence = t.sequence; short = t.short; octets = t.octets; count = omega arith; entries = b.good };
            fewer = b.fewer;
            fits_count = t.count;
            fits_peer = u.1.fits;
            unknown = u.1.unknown;
            spelled = t.parts ∙ ap (head_bytes h.0) (b.parts ∙ ap (λ (l : List ℕ). flat_map (entry_bytes add_path) b.front ++ l) u.1.parts);
          },
        )))

    of_entries : (h : RibHead × List ℕ) → TakesHead family body h.0 h.1
        → BreaksOff (entry_at add_path peers) (entry_bytes add_path) (FitsEntry add_path peers) h.0.count h.1 fault ⊎ ((fault ≡ TrailingBytes) × GoesOn (entry_at add_path peers) (entry_bytes add_path) (FitsEntry add_path peers) h.0.count h.1)
        → RibFault family add_path peers body fault ⊎ (fault ≡ ShortRecord)
    of_entries h t (inl b) = of_entry h t b (entry_refused add_path peers b.rest fault b.fine b.refused)
    of_entries h t (inr m) =
        let entries : List ℕ = flat_map (entry_bytes add_path) m.1.items in
        inl (inr (inr (
          m.0,
          record {
            form = record { sequence = h.0.sequence; len = h.0.len; octets = h.0.octets; entries = m.1.items };
            more = m.1.more;
            fits = record { sequence = t.sequence; short = t.short; octets = t.octets; count = subst (λ (n : ℕ). n < 256 ^ 2) (sym m.1.number) t.count; entries = m.1.good };
            parts = t.parts ∙ ap (head_bytes h.0) m.1.parts ∙ behind_head h.0 entries m.1.more ∙ ap (λ (n : ℕ). head_bytes (head_with h.0.sequence h.0.len h.0.octets n) entries ++ m.1.more) (sym m.1.number);
            some = m.1.some;
          },
        )))

    by_head : (rib_head_at family body ≡ Err fault) ⊎ ((h : RibHead × List ℕ) × (rib_head_at family body ≡ Ok h) × ((many (entry_at add_path peers) h.0.count h.1 >>= λ entries. read_rib h.0 entries) ≡ Err fault)) → RibFault family add_path peers body fault ⊎ (fault ≡ ShortRecord)
    by_head (inl r) = of_head (head_refused family body fault fine r)
    by_head (inr r) =
        let h = r.0 in
        let t = head_takes family body h fine r.1 in
        let unread = mapped_err (many (entry_at add_path peers) h.0.count h.1) (λ entries. record { sequence = h.0.sequence; len = h.0.len; octets = h.0.octets; entries = entries }) fault r.2 in
        of_entries h t (many-unread (entry_at add_path peers) (entry_bytes add_path) (FitsEntry add_path peers) (entry_takes add_path peers) h.0.count h.1 fault t.fine unread)

-- ---- and what has a fault is refused for it

pub bad_prefix_refused : (family : FamilyOf) (add_path : Bool) (peers : ℕ) (body : List ℕ) → HasBadPrefix family body → rib_in family add_path peers body ≡ Err BadPrefix
unfolding rib_in
bad_prefix_refused family add_path peers body h =
    let read : rib_head_at family body ≡ Err BadPrefix = ap (rib_head_at family) h.spelled ∙ head_bad family h.sequence h.len h.rest h.fits_sequence h.bad in
    rw read refl

pub unknown_peer_refused : (family : FamilyOf) (add_path : Bool) (peers : ℕ) (body : List ℕ) → HasUnknownPeer family add_path peers body → rib_in family add_path peers body ≡ Err BadPeerIndex
unfolding rib_in
unknown_peer_refused family add_path peers body h =
    let form = h.form in
    let behind : List ℕ = flat_map (entry_bytes add_path) form.entries ++ (big_bytes 2 h.peer ++ h.rest) in
    let head : rib_head_at family body ≡ Ok (head_with form.sequence form.len form.octets h.count, behind) = ap (rib_head_at family) h.spelled ∙ head_again family (head_with form.sequence form.len form.octets h.count) behind h.fits.sequence h.fits.short h.fits.octets h.fits_count in
    rw (head, many-breaks_off (entry_at add_path peers) (entry_bytes add_path) (FitsEntry add_path peers) (entry_again add_path peers) form.entries h.count (big_bytes 2 h.peer ++ h.rest) BadPeerIndex h.fits.entries h.fewer (entry_unknown add_path peers h.peer h.rest h.fits_peer h.unknown)) refl

pub rib_goes_on : (family : FamilyOf) (add_path : Bool) (peers : ℕ) (form : RibForm) (more : List ℕ) → FitsRib family add_path peers form → 0 < length more → rib_in family add_path peers (rib_bytes add_path form ++ more) ≡ Err TrailingBytes
unfolding rib_in
rib_goes_on family add_path peers form more h some =
    let head : RibHead = head_with form.sequence form.len form.octets (length form.entries) in
    let entries : List ℕ = flat_map (entry_bytes add_path) form.entries in
    ap (rib_in family add_path peers) (sym (behind_head head entries more))
    ∙ rw (head_again family head (entries ++ more) h.sequence h.short h.octets h.count, many-goes_on (entry_at add_path peers) (entry_bytes add_path) (FitsEntry add_path peers) (entry_again add_path peers) form.entries more h.entries some) refl
