-- A RIB record is read as it is written, and what is read was written so.
use Rattle.std.proofs.Common.{◌≡◌, ℕ, ◌^◌, ◌<◌, ◌≤◌, Bool, true, false, ◌||◌, cond, ltb, List, ◌∷◌, ◌++◌, length, take, drop, Some, None, Option, Ok, Err, refl, sym, ap, subst, ◌∙◌, append_assoc, arith}
use Rattle.std.specs.Int.{div_ceil}
use Rattle.std.specs.List.{flat_map}
use Rattle.std.proofs.lemmas.Bool.{ltb-true, ltb-false, le-ltb, lt-ltb}
use Rattle.std.proofs.lemmas.List.{length-append, length-take, take-append-drop, take_at, drop_at}
use Rattle.byteorder.specs.Endian.{big_bytes}
use Rattle.mrt_frame.specs.declared.fault.Fault.TheVariants.{ShortRecord, BadPrefix, BadPeerIndex}
use Rattle.mrt_frame.specs.Fields.{◌>>=◌, byte_at, number_at, bytes_at}
use Rattle.mrt_frame.proofs.Items.{bind_ok, guard_ok, ok_is}
use Rattle.mrt_frame.proofs.FieldLaws.{IsBytes, IsBytes-drop, TakesNumber, byte_at-takes, byte_at-again, number_takes, number_at-again, bytes_at-takes, bytes_at-again}
use Rattle.bgp_update.specs.Keys.{octets_at}
use Rattle.bgp_update.specs.Families.{FamilyOf, Rules}
use Rattle.mrt_body.specs.declared.record_place.RecordAt.{RecordAt}
use Rattle.peer_units.specs.declared.unit.PeerKey.{PeerKey}
use Rattle.peer_units.specs.Plain.{Unit as ReplayUnit}
use Rattle.mrt_body.specs.Many.{many}
use Rattle.mrt_body.specs.RibRecords.{WrittenEntry, identifier_bytes, entry_bytes, FitsIdentifier, FitsEntry, RibForm, rib_bytes, FitsRib, peer_index_at, identifier_at, entry_at, RibHead, rib_head_at, rib_in}
use Rattle.mrt_body.specs.Units.{rib_units, rib_units_in}
use Rattle.mrt_body.specs.Agreement.{IsRibBodyBeside}
use Rattle.mrt_body.proofs.ManyLaws.{Takes, Again, many-is, many-again}

-- ---- the fields of an entry

pub record TakesPeer (peers : ℕ) (bytes : List ℕ) (index : ℕ) (rest : List ℕ) : Type 0 where
  pub known : index < peers
  pub number : TakesNumber 2 bytes index rest

peer_index-takes : (peers : ℕ) (bytes : List ℕ) (x : ℕ × List ℕ) → IsBytes bytes → peer_index_at peers bytes ≡ Ok x → TakesPeer peers bytes x.0 x.1
peer_index-takes peers bytes x fine e =
    let a = bind_ok (number_at ShortRecord 2 bytes) (λ index. cond (ltb index.0 peers) (Ok index) (Err BadPeerIndex)) x e in
    let t = number_takes ShortRecord 2 bytes a.0 fine a.1 in
    let g = tested (ltb a.0.0 peers) a.0 x a.2 in
    subst (λ (y : ℕ × List ℕ). TakesPeer peers bytes y.0 y.1) g.1 (record { known = ltb-true _ _ g.0; number = t })
  where
    tested : (b : Bool) (i y : ℕ × List ℕ) → cond b (Ok i) (Err BadPeerIndex) ≡ Ok y → (b ≡ true) × (i ≡ y)
    tested true i y e = (refl, cc)
    tested false i y e = absurd cc

peer_index-again : (peers index : ℕ) (rest : List ℕ) → index < peers → index < 256 ^ 2 → peer_index_at peers (big_bytes 2 index ++ rest) ≡ Ok (index, rest)
peer_index-again peers index rest known fits = rw (number_at-again ShortRecord 2 index rest fits, lt-ltb index peers known) refl

pub record TakesIdentifier (add_path : Bool) (bytes : List ℕ) (identifier : ℕ) (rest : List ℕ) : Type 0 where
  pub parts : bytes ≡ identifier_bytes add_path identifier ++ rest
  pub fits : FitsIdentifier add_path identifier
  pub fine : IsBytes rest

identifier-takes : (add_path : Bool) (bytes : List ℕ) (x : ℕ × List ℕ) → IsBytes bytes → identifier_at add_path bytes ≡ Ok x → TakesIdentifier add_path bytes x.0 x.1
identifier-takes true bytes x fine e = let t = number_takes ShortRecord 4 bytes x fine e in record { parts = t.parts; fits = t.below; fine = t.fine }
identifier-takes false bytes x fine e = subst (λ (y : ℕ × List ℕ). TakesIdentifier false bytes y.0 y.1) (ok_is (0, bytes) x e) (record { parts = refl; fits = refl; fine = fine })

identifier-again : (add_path : Bool) (identifier : ℕ) (rest : List ℕ) → FitsIdentifier add_path identifier → identifier_at add_path (identifier_bytes add_path identifier ++ rest) ≡ Ok (identifier, rest)
identifier-again true identifier rest fits = number_at-again ShortRecord 4 identifier rest fits
identifier-again false identifier rest fits = ap (λ (n : ℕ). Ok (n, rest)) (sym fits)

abbrev entry_with : ℕ → ℕ → ℕ → List ℕ → WrittenEntry
entry_with peer originated identifier attributes = record { peer = peer; originated = originated; identifier = identifier; attributes = attributes }

five_parts : (a b c d f rest : List ℕ) → a ++ (b ++ (c ++ (d ++ (f ++ rest)))) ≡ (a ++ (b ++ (c ++ (d ++ f)))) ++ rest
five_parts a b c d f rest = sym (simp append_assoc)

pub entry_takes : (add_path : Bool) (peers : ℕ) → Takes (entry_at add_path peers) (entry_bytes add_path) (FitsEntry add_path peers)
unfolding entry_at
entry_takes add_path peers bytes x fine e =
    let p = bind_ok (peer_index_at peers bytes) (λ peer. number_at ShortRecord 4 peer.1 >>= λ originated. identifier_at add_path originated.1 >>= λ identifier. number_at ShortRecord 2 identifier.1 >>= λ len. bytes_at ShortRecord len.0 len.1 >>= λ attributes. Ok (entry_with peer.0 originated.0 identifier.0 attributes.0, attributes.1)) x e in
    let o = bind_ok (number_at ShortRecord 4 p.0.1) (λ originated. identifier_at add_path originated.1 >>= λ identifier. number_at ShortRecord 2 identifier.1 >>= λ len. bytes_at ShortRecord len.0 len.1 >>= λ attributes. Ok (entry_with p.0.0 originated.0 identifier.0 attributes.0, attributes.1)) x p.2 in
    let i = bind_ok (identifier_at add_path o.0.1) (λ identifier. number_at ShortRecord 2 identifier.1 >>= λ len. bytes_at ShortRecord len.0 len.1 >>= λ attributes. Ok (entry_with p.0.0 o.0.0 identifier.0 attributes.0, attributes.1)) x o.2 in
    let l = bind_ok (number_at ShortRecord 2 i.0.1) (λ len. bytes_at ShortRecord len.0 len.1 >>= λ attributes. Ok (entry_with p.0.0 o.0.0 i.0.0 attributes.0, attributes.1)) x i.2 in
    let t = bind_ok (bytes_at ShortRecord l.0.0 l.0.1) (λ attributes. Ok (entry_with p.0.0 o.0.0 i.0.0 attributes.0, attributes.1)) x l.2 in
    let tp = peer_index-takes peers bytes p.0 fine p.1 in
    let to = number_takes ShortRecord 4 p.0.1 o.0 tp.number.fine o.1 in
    let ti = identifier-takes add_path o.0.1 i.0 to.fine i.1 in
    let tl = number_takes ShortRecord 2 i.0.1 l.0 ti.fine l.1 in
    let tt' = bytes_at-takes ShortRecord l.0.0 l.0.1 t.0 t.1 in
    let peer_bytes : List ℕ = big_bytes 2 p.0.0 in
    let time_bytes : List ℕ = big_bytes 4 o.0.0 in
    let id_bytes : List ℕ = identifier_bytes add_path i.0.0 in
    let len_bytes : List ℕ = big_bytes 2 (length t.0.0) in
    let named : big_bytes 2 l.0.0 ≡ len_bytes = ap (big_bytes 2) (sym tt'.1) in
    let last : i.0.1 ≡ len_bytes ++ (t.0.0 ++ t.0.1) = tl.parts ∙ ap (λ (r : List ℕ). big_bytes 2 l.0.0 ++ r) tt'.0 ∙ ap (λ (r : List ℕ). r ++ (t.0.0 ++ t.0.1)) named in
    let parts : bytes ≡ entry_bytes add_path (entry_with p.0.0 o.0.0 i.0.0 t.0.0) ++ t.0.1 =
    tp.number.parts ∙ ap (λ (r : List ℕ). peer_bytes ++ r) (to.parts ∙ ap (λ (r : List ℕ). time_bytes ++ r) (ti.parts ∙ ap (λ (r : List ℕ). id_bytes ++ r) last)) ∙ five_parts peer_bytes time_bytes id_bytes len_bytes t.0.0 t.0.1 in
    subst (λ (y : WrittenEntry × List ℕ). (bytes ≡ entry_bytes add_path y.0 ++ y.1) × FitsEntry add_path peers y.0 × IsBytes y.1) (ok_is (entry_with p.0.0 o.0.0 i.0.0 t.0.0, t.0.1) x t.2)
    (parts, record { known = tp.known; peer = tp.number.below; originated = to.below; identifier = ti.fits; attributes = subst (λ (n : ℕ). n < 256 ^ 2) (sym tt'.1) tl.below }, tt'.2 tl.fine)

pub entry_again : (add_path : Bool) (peers : ℕ) → Again (entry_at add_path peers) (entry_bytes add_path) (FitsEntry add_path peers)
unfolding entry_at
entry_again add_path peers w rest h =
    let id_bytes : List ℕ = identifier_bytes add_path w.identifier in
    let len_bytes : List ℕ = big_bytes 2 (length w.attributes) in
    ap (entry_at add_path peers) (sym (five_parts (big_bytes 2 w.peer) (big_bytes 4 w.originated) id_bytes len_bytes w.attributes rest))
    ∙ rw (peer_index-again peers w.peer (big_bytes 4 w.originated ++ (id_bytes ++ (len_bytes ++ (w.attributes ++ rest)))) h.known h.peer, number_at-again ShortRecord 4 w.originated (id_bytes ++ (len_bytes ++ (w.attributes ++ rest))) h.originated, identifier-again add_path w.identifier (len_bytes ++ (w.attributes ++ rest)) h.identifier, number_at-again ShortRecord 2 (length w.attributes) (w.attributes ++ rest) h.attributes, bytes_at-again ShortRecord (length w.attributes) w.attributes rest refl) refl

-- ---- what stands before the entries

neither : (a b : Bool) → (a || b) ≡ false → (a ≡ false) × (b ≡ false)
neither true b e = absurd cc
neither false b e = (refl, e)

pub record TakesOctets (width len : ℕ) (bytes octets rest : List ℕ) : Type 0 where
  pub parts : bytes ≡ octets ++ rest
  pub number : length octets ≡ div_ceil len 8
  pub short : len ≤ width
  pub fine : IsBytes rest

octets_take : (width len : ℕ) (bytes : List ℕ) (x : List ℕ × List ℕ) → IsBytes bytes → octets_at width len bytes ≡ Ok x → TakesOctets width len bytes x.0 x.1
octets_take width len bytes x fine e =
    let g = guard_ok (ltb width len || ltb (length bytes) (div_ceil len 8)) BadPrefix (take (div_ceil len 8) bytes, drop (div_ceil len 8) bytes) x e in
    let tests = neither (ltb width len) (ltb (length bytes) (div_ceil len 8)) g.0 in
    let long : div_ceil len 8 ≤ length bytes = ltb-false _ _ tests.1 in
    subst (λ (y : List ℕ × List ℕ). TakesOctets width len bytes y.0 y.1) g.1
    (record { parts = sym (take-append-drop (div_ceil len 8) bytes); number = omega (arith, long, length-take (div_ceil len 8) bytes); short = ltb-false _ _ tests.0; fine = IsBytes-drop (div_ceil len 8) bytes fine })

octets_again : (width len : ℕ) (octets rest : List ℕ) → len ≤ width → length octets ≡ div_ceil len 8 → octets_at width len (octets ++ rest) ≡ Ok (octets, rest)
octets_again width len octets rest short e =
    rw (le-ltb width len short, le-ltb (length (octets ++ rest)) (div_ceil len 8) (omega (arith, e, length-append octets rest)), take_at octets rest (div_ceil len 8) e, drop_at octets rest (div_ceil len 8) e) refl

abbrev pub head_with : ℕ → ℕ → List ℕ → ℕ → RibHead
head_with sequence len octets count = record { sequence = sequence; len = len; octets = octets; count = count }

abbrev pub head_bytes : RibHead → List ℕ → List ℕ
head_bytes head rest = big_bytes 4 head.sequence ++ ((head.len ∷ head.octets) ++ (big_bytes 2 head.count ++ rest))

pub record TakesHead (family : FamilyOf) (body : List ℕ) (head : RibHead) (rest : List ℕ) : Type 0 where
  pub parts : body ≡ head_bytes head rest
  pub sequence : head.sequence < 256 ^ 4
  pub short : head.len ≤ family.width
  pub octets : length head.octets ≡ div_ceil head.len 8
  pub count : head.count < 256 ^ 2
  pub fine : IsBytes rest

pub head_takes : (family : FamilyOf) (body : List ℕ) (x : RibHead × List ℕ) → IsBytes body → rib_head_at family body ≡ Ok x → TakesHead family body x.0 x.1
unfolding rib_head_at
head_takes family body x fine e =
    let s = bind_ok (number_at ShortRecord 4 body) (λ sequence. byte_at ShortRecord sequence.1 >>= λ len. octets_at family.width len.0 len.1 >>= λ octets. number_at ShortRecord 2 octets.1 >>= λ count. Ok (head_with sequence.0 len.0 octets.0 count.0, count.1)) x e in
    let l = bind_ok (byte_at ShortRecord s.0.1) (λ len. octets_at family.width len.0 len.1 >>= λ octets. number_at ShortRecord 2 octets.1 >>= λ count. Ok (head_with s.0.0 len.0 octets.0 count.0, count.1)) x s.2 in
    let o = bind_ok (octets_at family.width l.0.0 l.0.1) (λ octets. number_at ShortRecord 2 octets.1 >>= λ count. Ok (head_with s.0.0 l.0.0 octets.0 count.0, count.1)) x l.2 in
    let n = bind_ok (number_at ShortRecord 2 o.0.1) (λ count. Ok (head_with s.0.0 l.0.0 o.0.0 count.0, count.1)) x o.2 in
    let ts = number_takes ShortRecord 4 body s.0 fine s.1 in
    let tl = byte_at-takes ShortRecord s.0.1 l.0 l.1 in
    let to = octets_take family.width l.0.0 l.0.1 o.0 (tl.1 ts.fine) o.1 in
    let tn = number_takes ShortRecord 2 o.0.1 n.0 to.fine n.1 in
    let inner : l.0.1 ≡ o.0.0 ++ (big_bytes 2 n.0.0 ++ n.0.1) = to.parts ∙ ap (λ (t : List ℕ). o.0.0 ++ t) tn.parts in
    subst (λ (y : RibHead × List ℕ). TakesHead family body y.0 y.1) (ok_is (head_with s.0.0 l.0.0 o.0.0 n.0.0, n.0.1) x n.2) (record {
      parts = ts.parts ∙ ap (λ (t : List ℕ). big_bytes 4 s.0.0 ++ t) (tl.0 ∙ ap (λ (t : List ℕ). l.0.0 ∷ t) inner);
      sequence = ts.below;
      short = to.short;
      octets = to.number;
      count = tn.below;
      fine = tn.fine;
    })

pub head_again : (family : FamilyOf) (head : RibHead) (rest : List ℕ) → head.sequence < 256 ^ 4 → head.len ≤ family.width → length head.octets ≡ div_ceil head.len 8 → head.count < 256 ^ 2 → rib_head_at family (head_bytes head rest) ≡ Ok (head, rest)
unfolding rib_head_at
head_again family head rest s short octets n =
    rw (number_at-again ShortRecord 4 head.sequence ((head.len ∷ head.octets) ++ (big_bytes 2 head.count ++ rest)) s, byte_at-again ShortRecord head.len (head.octets ++ (big_bytes 2 head.count ++ rest)), octets_again family.width head.len head.octets (big_bytes 2 head.count ++ rest) short octets, number_at-again ShortRecord 2 head.count rest n) refl

-- ---- the record

abbrev rib_with : ℕ → ℕ → List ℕ → List WrittenEntry → RibForm
rib_with sequence len octets entries = record { sequence = sequence; len = len; octets = octets; entries = entries }

pub record TakesRib (family : FamilyOf) (add_path : Bool) (peers : ℕ) (body : List ℕ) (form : RibForm) : Type 0 where
  pub parts : body ≡ rib_bytes add_path form
  pub fits : FitsRib family add_path peers form

rib_takes : (family : FamilyOf) (add_path : Bool) (peers : ℕ) (body : List ℕ) (form : RibForm) → IsBytes body → rib_in family add_path peers body ≡ Ok form → TakesRib family add_path peers body form
unfolding rib_in
rib_takes family add_path peers body form fine e =
    let h = bind_ok (rib_head_at family body) (λ head. many (entry_at add_path peers) head.0.count head.1 >>= λ entries. Ok (rib_with head.0.sequence head.0.len head.0.octets entries)) form e in
    let w = bind_ok (many (entry_at add_path peers) h.0.0.count h.0.1) (λ entries. Ok (rib_with h.0.0.sequence h.0.0.len h.0.0.octets entries)) form h.2 in
    let th = head_takes family body h.0 fine h.1 in
    let tw = many-is (entry_at add_path peers) (entry_bytes add_path) (FitsEntry add_path peers) (entry_takes add_path peers) h.0.0.count h.0.1 w.0 th.fine w.1 in
    let head : RibHead = head_with h.0.0.sequence h.0.0.len h.0.0.octets (length w.0) in
    subst (TakesRib family add_path peers body) (ok_is (rib_with h.0.0.sequence h.0.0.len h.0.0.octets w.0) form w.2) (record {
      parts = th.parts ∙ ap (λ (n : ℕ). head_bytes (head_with h.0.0.sequence h.0.0.len h.0.0.octets n) h.0.1) (sym tw.number) ∙ ap (head_bytes head) tw.parts;
      fits = record { sequence = th.sequence; short = th.short; octets = th.octets; count = subst (λ (n : ℕ). n < 256 ^ 2) (sym tw.number) th.count; entries = tw.good };
    })

rib_again : (family : FamilyOf) (add_path : Bool) (peers : ℕ) (form : RibForm) → FitsRib family add_path peers form → rib_in family add_path peers (rib_bytes add_path form) ≡ Ok form
unfolding rib_in
rib_again family add_path peers form h =
    rw (head_again family (head_with form.sequence form.len form.octets (length form.entries)) (flat_map (entry_bytes add_path) form.entries) h.sequence h.short h.octets h.count, many-again (entry_at add_path peers) (entry_bytes add_path) (FitsEntry add_path peers) (entry_again add_path peers) form.entries h.entries) refl

-- ---- the units of a record beside the index in force

pub rib_body-is : (rules : Rules) (at : RecordAt) (add_path : Bool) (index : Option (List PeerKey)) (body : List ℕ) (units : List ReplayUnit) → IsBytes body → rib_units_in rules at add_path index body ≡ Ok units → IsRibBodyBeside rules at add_path index body units
rib_body-is rules at add_path None body units fine e = absurd cc
rib_body-is rules at add_path (Some peers) body units fine e =
    let f = bind_ok (rib_in rules.family add_path (length peers) body) (λ form. Ok (rib_units rules at (Some peers) form)) units e in
    let t = rib_takes rules.family add_path (length peers) body f.0 fine f.1 in
    record { form = f.0; fits = t.fits; spelled = t.parts; said = sym (ok_is (rib_units rules at (Some peers) f.0) units f.2) }

pub rib_body-again : (rules : Rules) (at : RecordAt) (add_path : Bool) (index : Option (List PeerKey)) (body : List ℕ) (units : List ReplayUnit) → IsRibBodyBeside rules at add_path index body units → rib_units_in rules at add_path index body ≡ Ok units
rib_body-again rules at add_path None body units h = absurd h
rib_body-again rules at add_path (Some peers) body units h =
    let read : rib_in rules.family add_path (length peers) body ≡ Ok h.form = ap (rib_in rules.family add_path (length peers)) h.spelled ∙ rib_again rules.family add_path (length peers) h.form h.fits in
    rw read (ap (λ (us : List ReplayUnit). Ok us) (sym h.said))
