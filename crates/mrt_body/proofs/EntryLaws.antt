-- Entries of RIB records, as loops read them.
use Rattle.std.proofs.Common.{◌≡◌, ℕ, ◌+◌, ◌-◌, ◌<◌, ◌≤◌, Bool, true, false, ◌||◌, cond, ltb, List, [], ◌∷◌, ◌++◌, length, map, take, drop, Some, Result, Ok, Err, refl, sym, ap, subst, ◌∙◌, arith}
use Rattle.std.specs.Int.{div_ceil}
use Rattle.std.specs.List.{All}
use Rattle.std.proofs.lemmas.List.{length-map, length-drop, length-append}
use Rattle.std.proofs.lemmas.Bool.{ltb-true}
use Rattle.bgp_prefix.specs.Prefixes.{IpPrefix}
use Rattle.mrt_frame.specs.declared.fault.Fault.{Fault}
use Rattle.mrt_frame.specs.declared.fault.Fault.TheVariants.{ShortRecord, BadPrefix, BadPeerIndex}
use Rattle.mrt_frame.specs.Fields.{◌>>=◌, byte_at, bytes_at, number_at}
use Rattle.mrt_frame.proofs.Items.{bind_ok, guard_ok, ok_is}
use Rattle.mrt_frame.proofs.FieldLaws.{bytes_at-takes, number_at-long}
use Rattle.bgp_update.specs.Results.{Fails}
use Rattle.bgp_update.specs.declared.attr_error.AttrError.{AttrError}
use Rattle.bgp_update.specs.declared.attr_error.AttrError.TheVariants as errors
use Rattle.bgp_update.specs.Keys.{octets_at, prefix_of}
use Rattle.bgp_update.specs.Families.{FamilyOf, Rules}
use Rattle.bgp_update.proofs.Readings.{mapped_err}
use Rattle.peer_units.specs.declared.unit.PeerKey.{PeerKey}
use Rattle.peer_units.specs.Plain.{Unit as ReplayUnit}
use Rattle.mrt_body.specs.declared.record_place.RecordAt.{RecordAt}
use Rattle.mrt_body.specs.declared.rib.ListedEntry.{ListedEntry}
use Rattle.mrt_body.specs.Pending.{RibRecord}
use Rattle.mrt_body.specs.Many.{many}
use Rattle.mrt_body.specs.RibRecords.{WrittenEntry, RibHead, RibForm, RibSummary, ReadEntry, read_of, peer_index_at, identifier_at, entry_at, read_entry_at, rib_head_at, read_head_at, rib_in}
use Rattle.mrt_body.specs.Units.{entry_unit, entry_units, rib_units, rib_units_in}
use Rattle.mrt_body.specs.Listed.{AreNumbered, IsListed, read_listed}
use Rattle.mrt_body.specs.Pending.{AreListed, read_unit, listed_unit, units_left}
use Rattle.mrt_body.proofs.Behind.{Behind, behind_more, behind-le, behind-drop, behind_front, number_behind, byte_behind, ok_behind}
use Rattle.mrt_body.proofs.ManyLaws.{done, seen_ok, many-map, many-length}

pub written_entry : (add_path : Bool) (peers : ℕ) (bytes : List ℕ) (e : ReadEntry) (after : List ℕ) → read_entry_at add_path peers bytes ≡ Ok (e, after) → (w : WrittenEntry) × (entry_at add_path peers bytes ≡ Ok (w, after)) × (read_of w ≡ e)
unfolding read_entry_at
written_entry add_path peers bytes e after h = seen_ok read_of (entry_at add_path peers bytes) e after h

-- ---- what an entry leaves

number_shorter : (n : ℕ) (bytes : List ℕ) (x : ℕ × List ℕ) → number_at ShortRecord n bytes ≡ Ok x → length x.1 + n ≤ length bytes
number_shorter n bytes x e =
    let long = number_at-long ShortRecord n bytes x e in
    omega (arith, long.0, ap length long.1, length-drop n bytes)

peer_index_takes : (peers : ℕ) (bytes : List ℕ) (x : ℕ × List ℕ) → peer_index_at peers bytes ≡ Ok x → Behind bytes x.1 × (x.0 < peers) × (length x.1 + 2 ≤ length bytes)
peer_index_takes peers bytes x e =
    let a = bind_ok (number_at ShortRecord 2 bytes) (λ index. cond (ltb index.0 peers) (Ok index) (Err BadPeerIndex)) x e in
    let g = tested (ltb a.0.0 peers) a.0 x a.2 in
    let below : a.0.0 < peers = ltb-true _ _ g.0 in
    subst (λ (y : ℕ × List ℕ). Behind bytes y.1 × (y.0 < peers) × (length y.1 + 2 ≤ length bytes)) g.1 (number_behind ShortRecord 2 bytes a.0 a.1, below, number_shorter 2 bytes a.0 a.1)
  where
    tested : (b : Bool) (i y : ℕ × List ℕ) → cond b (Ok i) (Err BadPeerIndex) ≡ Ok y → (b ≡ true) × (i ≡ y)
    tested true i y e = (refl, cc)
    tested false i y e = absurd cc

identifier_behind : (add_path : Bool) (bytes : List ℕ) (x : ℕ × List ℕ) → identifier_at add_path bytes ≡ Ok x → Behind bytes x.1
identifier_behind true bytes x e = number_behind ShortRecord 4 bytes x e
identifier_behind false bytes x e = ok_behind 0 bytes x e

pub record TakesEntry (peers : ℕ) (bytes : List ℕ) (w : WrittenEntry) (rest : List ℕ) : Type 0 where
  pub behind : Behind bytes (w.attributes ++ rest)
  pub known : w.peer < peers
  pub long : length rest + 8 ≤ length bytes

pub entry_takes : (add_path : Bool) (peers : ℕ) (bytes : List ℕ) (x : WrittenEntry × List ℕ) → entry_at add_path peers bytes ≡ Ok x → TakesEntry peers bytes x.0 x.1
unfolding entry_at
entry_takes add_path peers bytes x e =
    let a = bind_ok (peer_index_at peers bytes) (λ peer. number_at ShortRecord 4 peer.1 >>= λ originated. identifier_at add_path originated.1 >>= λ identifier. number_at ShortRecord 2 identifier.1 >>= λ len. bytes_at ShortRecord len.0 len.1 >>= λ attributes. Ok (record { peer = peer.0; originated = originated.0; identifier = identifier.0; attributes = attributes.0 }, attributes.1)) x e in
    let b = bind_ok (number_at ShortRecord 4 a.0.1) (λ originated. identifier_at add_path originated.1 >>= λ identifier. number_at ShortRecord 2 identifier.1 >>= λ len. bytes_at ShortRecord len.0 len.1 >>= λ attributes. Ok (record { peer = a.0.0; originated = originated.0; identifier = identifier.0; attributes = attributes.0 }, attributes.1)) x a.2 in
    let d = bind_ok (identifier_at add_path b.0.1) (λ identifier. number_at ShortRecord 2 identifier.1 >>= λ len. bytes_at ShortRecord len.0 len.1 >>= λ attributes. Ok (record { peer = a.0.0; originated = b.0.0; identifier = identifier.0; attributes = attributes.0 }, attributes.1)) x b.2 in
    let l = bind_ok (number_at ShortRecord 2 d.0.1) (λ len. bytes_at ShortRecord len.0 len.1 >>= λ attributes. Ok (record { peer = a.0.0; originated = b.0.0; identifier = d.0.0; attributes = attributes.0 }, attributes.1)) x d.2 in
    let t = bind_ok (bytes_at ShortRecord l.0.0 l.0.1) (λ attributes. Ok (record { peer = a.0.0; originated = b.0.0; identifier = d.0.0; attributes = attributes.0 }, attributes.1)) x l.2 in
    let p = peer_index_takes peers bytes a.0 a.1 in
    let end = t.0.0 ++ t.0.1 in
    let parts : l.0.1 ≡ end = (bytes_at-takes ShortRecord l.0.0 l.0.1 t.0 t.1).0 in
    let attributes : Behind l.0.1 end = record { front = []; parts = parts } in
    let named = identifier_behind add_path b.0.1 d.0 d.1 in
    let long : length t.0.1 + 8 ≤ length bytes = omega (arith, p.2, number_shorter 4 a.0.1 b.0 b.1, behind-le b.0.1 d.0.1 named, number_shorter 2 d.0.1 l.0 l.1, ap length parts, length-append t.0.0 t.0.1) in
    let rest = behind_more bytes a.0.1 end p.0 (behind_more a.0.1 b.0.1 end (number_behind ShortRecord 4 a.0.1 b.0 b.1) (behind_more b.0.1 d.0.1 end named (behind_more d.0.1 l.0.1 end (number_behind ShortRecord 2 d.0.1 l.0 l.1) attributes))) in
    subst (λ (y : WrittenEntry × List ℕ). TakesEntry peers bytes y.0 y.1) (ok_is (record { peer = a.0.0; originated = b.0.0; identifier = d.0.0; attributes = t.0.0 }, t.0.1) x t.2)
    (record { behind = rest; known = p.1; long = long })

-- ---- what stands before the entries

octets_behind : (width len : ℕ) (bytes : List ℕ) (x : List ℕ × List ℕ) → octets_at width len bytes ≡ Ok x → Behind bytes x.1
octets_behind width len bytes x e =
    let g = guard_ok (ltb width len || ltb (length bytes) (div_ceil len 8)) BadPrefix (take (div_ceil len 8) bytes, drop (div_ceil len 8) bytes) x e in
    subst (λ (y : List ℕ × List ℕ). Behind bytes y.1) g.1 (behind_front (div_ceil len 8) bytes)

pub head_behind : (family : FamilyOf) (bytes : List ℕ) (x : RibHead × List ℕ) → rib_head_at family bytes ≡ Ok x → Behind bytes x.1
unfolding rib_head_at
head_behind family bytes x e =
    let a = bind_ok (number_at ShortRecord 4 bytes) (λ sequence. byte_at ShortRecord sequence.1 >>= λ len. octets_at family.width len.0 len.1 >>= λ octets. number_at ShortRecord 2 octets.1 >>= λ count. Ok (record { sequence = sequence.0; len = len.0; octets = octets.0; count = count.0 }, count.1)) x e in
    let b = bind_ok (byte_at ShortRecord a.0.1) (λ len. octets_at family.width len.0 len.1 >>= λ octets. number_at ShortRecord 2 octets.1 >>= λ count. Ok (record { sequence = a.0.0; len = len.0; octets = octets.0; count = count.0 }, count.1)) x a.2 in
    let d = bind_ok (octets_at family.width b.0.0 b.0.1) (λ octets. number_at ShortRecord 2 octets.1 >>= λ count. Ok (record { sequence = a.0.0; len = b.0.0; octets = octets.0; count = count.0 }, count.1)) x b.2 in
    let l = bind_ok (number_at ShortRecord 2 d.0.1) (λ count. Ok (record { sequence = a.0.0; len = b.0.0; octets = d.0.0; count = count.0 }, count.1)) x d.2 in
    behind_more bytes a.0.1 x.1 (number_behind ShortRecord 4 bytes a.0 a.1) (behind_more a.0.1 b.0.1 x.1 (byte_behind ShortRecord a.0.1 b.0 b.1) (behind_more b.0.1 d.0.1 x.1 (octets_behind family.width b.0.0 b.0.1 d.0 d.1) (behind_more d.0.1 l.0.1 x.1 (number_behind ShortRecord 2 d.0.1 l.0 l.1)
    (ok_behind (record { sequence = a.0.0; len = b.0.0; octets = d.0.0; count = l.0.0 }) l.0.1 x l.2))))

-- ---- the entries of a record

abbrev summary : IpPrefix → ℕ → RibSummary
summary prefix count = record { prefix = prefix; count = count }

abbrev summary_of : RibHead → RibSummary
summary_of head = summary (prefix_of head.len head.octets) head.count

pub head_is : (family : FamilyOf) (body : List ℕ) (prefix : IpPrefix) (count : ℕ) (rest : List ℕ) → read_head_at family body ≡ Ok (summary prefix count, rest)
    → (head : RibHead) × (rib_head_at family body ≡ Ok (head, rest)) × (prefix_of head.len head.octets ≡ prefix) × (head.count ≡ count)
unfolding read_head_at
head_is family body prefix count rest h =
    let s = seen_ok summary_of (rib_head_at family body) (summary prefix count) rest h in
    (s.0, s.1, ap (λ (x : RibSummary). x.prefix) s.2, ap (λ (x : RibSummary). x.count) s.2)

pub read_head_behind : (family : FamilyOf) (body : List ℕ) (prefix : IpPrefix) (count : ℕ) (rest : List ℕ) → read_head_at family body ≡ Ok (summary prefix count, rest) → Behind body rest
read_head_behind family body prefix count rest h = let s = head_is family body prefix count rest h in head_behind family body (s.0, rest) s.1

abbrev form_of : RibHead → List WrittenEntry → RibForm
form_of head entries = record { sequence = head.sequence; len = head.len; octets = head.octets; entries = entries }

head_fails : (family : FamilyOf) (add_path : Bool) (peers : ℕ) (body : List ℕ) (fault : Fault) → read_head_at family body ≡ Err fault → rib_in family add_path peers body ≡ Err fault
unfolding rib_in read_head_at
head_fails family add_path peers body fault h = rw (mapped_err (rib_head_at family body) (λ head. (summary_of head.0, head.1)) fault h) refl

-- entries that are read as what is kept of them
read_entries : (add_path : Bool) (peers count : ℕ) (bytes : List ℕ) → many (read_entry_at add_path peers) count bytes ≡ (many (entry_at add_path peers) count bytes >>= λ ws. Ok (map read_of ws))
unfolding read_entry_at
read_entries add_path peers count bytes = many-map (entry_at add_path peers) read_of count bytes

written_entries : (r : Result (List WrittenEntry) Fault) (es : List ReadEntry) → (r >>= λ ws. Ok (map read_of ws)) ≡ done es → (ws : List WrittenEntry) × (r ≡ Ok ws) × (map read_of ws ≡ es)
written_entries (Ok ws) es e = (ws, refl, ok_is (map read_of ws) es e)
written_entries (Err fault) es e = absurd cc

-- the units of entries, the first of which has this number
abbrev read_units : Rules → RecordAt → List PeerKey → IpPrefix → ℕ → List ReadEntry → List ReplayUnit
read_units rules at peers prefix number [] = []
read_units rules at peers prefix number (e ∷ entries) = read_unit rules at peers prefix number e ∷ read_units rules at peers prefix (number + 1) entries

written_units : (rules : Rules) (at : RecordAt) (peers : List PeerKey) (prefix : IpPrefix) (n : ℕ) (ws : List WrittenEntry) → entry_units rules at peers prefix n ws ≡ read_units rules at peers prefix n (map read_of ws)
written_units rules at peers prefix n [] = refl
written_units rules at peers prefix n (w ∷ ws) = ap (λ (units : List ReplayUnit). entry_unit rules at peers prefix n w ∷ units) (written_units rules at peers prefix (n + 1) ws)

-- where they are numbered, each has the unit of its own number
numbered_units : (rules : Rules) (at : RecordAt) (peers : List PeerKey) (prefix : IpPrefix) (body : List ℕ) (n : ℕ) (list : List ListedEntry) → AreNumbered n list → read_units rules at peers prefix n (map (read_listed body) list) ≡ map (listed_unit rules at peers prefix body) list
numbered_units rules at peers prefix body n [] h = refl
numbered_units rules at peers prefix body n (e ∷ list) h =
    ap (λ (k : ℕ). read_unit rules at peers prefix k (read_listed body e) ∷ read_units rules at peers prefix (n + 1) (map (read_listed body) list)) (sym h.0)
    ∙ ap (λ (units : List ReplayUnit). listed_unit rules at peers prefix body e ∷ units) (numbered_units rules at peers prefix body (n + 1) list h.1)

module _ (rules : Rules) (at : RecordAt) (peers : List PeerKey) (add_path : Bool) (body : List ℕ) (prefix : IpPrefix) (count : ℕ) (rest : List ℕ) where
  abbrev entries_of : Result (List WrittenEntry) Fault
  entries_of = many (entry_at add_path (length peers)) count rest

  rib_by_head : (head : RibHead) → rib_head_at rules.family body ≡ Ok (head, rest) → head.count ≡ count → rib_in rules.family add_path (length peers) body ≡ (entries_of >>= λ entries. Ok (form_of head entries))
  unfolding rib_in
  rib_by_head head h same = rw h (ap (λ (n : ℕ). many (entry_at add_path (length peers)) n rest >>= λ entries. Ok (form_of head entries)) same)

  -- the units of a record are those of what is kept of its entries
  units_read : (es : List ReadEntry) → read_head_at rules.family body ≡ Ok (summary prefix count, rest) → many (read_entry_at add_path (length peers)) count rest ≡ Ok es → rib_units_in rules at add_path (Some peers) body ≡ Ok (read_units rules at peers prefix 1 es)
  units_read es h e =
      let s = head_is rules.family body prefix count rest h in
      let w = written_entries entries_of es (sym (read_entries add_path (length peers) count rest) ∙ e) in
      let all : rib_in rules.family add_path (length peers) body ≡ Ok (form_of s.0 w.0) = rib_by_head s.0 s.1 s.3 ∙ ap (λ (r : Result (List WrittenEntry) Fault). r >>= λ entries. Ok (form_of s.0 entries)) w.1 in
      ap (λ (r : Result RibForm Fault). r >>= λ form. Ok (rib_units rules at (Some peers) form)) all
      ∙ ap (λ (p : IpPrefix). done (entry_units rules at peers p 1 w.0)) s.2
      ∙ ap (λ (units : List ReplayUnit). done units) (written_units rules at peers prefix 1 w.0 ∙ ap (read_units rules at peers prefix 1) w.2)

  pub units_fail : (fault : Fault) → read_head_at rules.family body ≡ Ok (summary prefix count, rest) → many (read_entry_at add_path (length peers)) count rest ≡ Err fault → rib_units_in rules at add_path (Some peers) body ≡ Err fault
  units_fail fault h e =
      let s = head_is rules.family body prefix count rest h in
      let broken = mapped_err entries_of (map read_of) fault (sym (read_entries add_path (length peers) count rest) ∙ e) in
      let all : rib_in rules.family add_path (length peers) body ≡ Err fault = rib_by_head s.0 s.1 s.3 ∙ ap (λ (r : Result (List WrittenEntry) Fault). r >>= λ entries. Ok (form_of s.0 entries)) broken in
      ap (λ (r : Result RibForm Fault). r >>= λ form. Ok (rib_units rules at (Some peers) form)) all

  rest_is : read_head_at rules.family body ≡ Ok (summary prefix count, rest) → drop (length body - length rest) body ≡ rest
  rest_is h = behind-drop body rest (read_head_behind rules.family body prefix count rest h)

  pub rest-le : read_head_at rules.family body ≡ Ok (summary prefix count, rest) → length rest ≤ length body
  rest-le h = behind-le body rest (read_head_behind rules.family body prefix count rest h)

  from_rest : read_head_at rules.family body ≡ Ok (summary prefix count, rest) → many (read_entry_at add_path (length peers)) count rest ≡ many (read_entry_at add_path (length peers)) count (drop (length body - length rest) body)
  from_rest h = ap (many (read_entry_at add_path (length peers)) count) (sym (rest_is h))

  -- the record whose entries are listed
  pub all_units : (list : List ListedEntry) → read_head_at rules.family body ≡ Ok (summary prefix count, rest) → many (read_entry_at add_path (length peers)) count (drop (length body - length rest) body) ≡ Ok (map (read_listed body) list) → AreNumbered 1 list
      → rib_units_in rules at add_path (Some peers) body ≡ Ok (units_left peers list (record { at = at; rules = rules; prefix = prefix; body = body; given = 0 }))
  all_units list h e numbers =
      units_read (map (read_listed body) list) h (from_rest h ∙ e)
      ∙ ap (λ (units : List ReplayUnit). done units) (numbered_units rules at peers prefix body 1 list numbers)

  pub all_listed : (list : List ListedEntry) → count ≤ 65535 → many (read_entry_at add_path (length peers)) count (drop (length body - length rest) body) ≡ Ok (map (read_listed body) list) → All (IsListed (length peers) (length body)) list
      → AreListed peers list (record { at = at; rules = rules; prefix = prefix; body = body; given = 0 })
  all_listed list few e within = record {
    given = omega arith;
    few = omega (arith, few, many-length (read_entry_at add_path (length peers)) count (drop (length body - length rest) body) (map (read_listed body) list) e, length-map list (read_listed body));
    within = within;
  }

  pub no_units : (error : AttrError) → read_head_at rules.family body ≡ Ok (summary prefix count, rest) → Fails error (many (read_entry_at add_path (length peers)) count (drop (length body - length rest) body)) → Fails error (rib_units_in rules at add_path (Some peers) body)
  no_units errors.Memory h f = tt
  no_units (errors.Bad fault) h f = units_fail fault h (from_rest h ∙ f)

pub units_fail_early : (rules : Rules) (at : RecordAt) (peers : List PeerKey) (add_path : Bool) (body : List ℕ) (fault : Fault) → read_head_at rules.family body ≡ Err fault → rib_units_in rules at add_path (Some peers) body ≡ Err fault
units_fail_early rules at peers add_path body fault h = ap (λ (r : Result RibForm Fault). r >>= λ form. Ok (rib_units rules at (Some peers) form)) (head_fails rules.family add_path (length peers) body fault h)

-- ---- how many there are

-- at most as many as are listed
pub units_left-few : (peers : List PeerKey) (list : List ListedEntry) (r : RibRecord) → AreListed peers list r → length (units_left peers list r) ≤ 65535
units_left-few peers list r h =
    let few = h.few in
    omega (arith, few, length-map (drop r.given list) (listed_unit r.rules r.at peers r.prefix r.body), length-drop r.given list)
