-- Bytes that come to a writer, and the records of a prefix.
use Rattle.std.proofs.Common.{◌≡◌, ◌≢◌, ℕ, ◌+◌, ◌<◌, ◌≤◌, Bool, true, false, cond, eqb, ◌&&◌, List, [], ◌∷◌, ◌++◌, length, map, Option, refl, sym, ap, subst, ◌∙◌, zero, suc, ◌-◌, drop, take, get_or, arith, append_assoc, append-nil, length-append}
use Rattle.std.specs.Prelude.{nat_lt, nat_le}
use Rattle.std.specs.Int.{div_ceil}
use Rattle.std.specs.List.{flat_map, between}
use Rattle.std.specs.Io.KnownBytes.{Appends}
use Rattle.std.proofs.KnownBytes.{Appends-trans, Appends-nil}
use borrow.Author.Tests.{both_ways, lt-ltb}
use Rattle.std.proofs.lemmas.Grind.{flat_map-append}
use Rattle.std.proofs.lemmas.List.{length-map, length-take, map-append}
use Rattle.byteorder.specs.Endian.{big_bytes}
use Rattle.byteorder.specs.Numbers.{length-bytes_high_first}
use Rattle.bgp_prefix.specs.Prefixes.{IpPrefix}
use Rattle.mrt_frame.specs.Cuts.{body_limit}
use Rattle.bgp_update.specs.Families.{FamilyOf}
use Rattle.mrt_body.specs.RibRecords.{identifier_bytes, entry_bytes, rib_bytes}
use Rattle.mrt_writing.specs.declared.record_kind.RecordKind.{RecordKind}
use Rattle.mrt_writing.specs.declared.record_kind.RecordKind.TheVariants.{Rib}
use Rattle.mrt_writing.specs.Kinds.{mrt_type, mrt_subtype}
use Rattle.mrt_writing.specs.Records.{record_head, record_bytes}
use Rattle.mrt_writing.specs.Prefixes.{prefix_octets}
use Rattle.mrt_writing.specs.RibRecords.{PrefixRoute, entry_field, rib_head, written_entry, written_rib}
use Rattle.mrt_writing.specs.Dumps.{of_kind, record_of}
use Rattle.mrt_writing.proofs.PartLaws.{record_parts, rib_parts}
use Rattle.table_dumps.specs.Checkpoints.{PrefixPart, part_record, closed, split_after, fits_record}
use Rattle.table_dumps.proofs.FitLaws.{both_true}
use Rattle.std.proofs.lemmas.Bool.{leb-true, ltb-true}
use Rattle.checkpoint_writing.specs.Dumping.{Grows, GrowsTo, IsOpenPart, parts_bytes, part_of, entries_bytes, closed_by, next_part}

-- ---- what comes to a writer

pub grows_none : (held : Option (List ℕ)) (waited : List ℕ) → Grows held waited held waited []
grows_none held waited = record { sent = []; written = Appends-nil held; rest = append-nil waited }

pub grows_then : (a b c : Option (List ℕ)) (w x y p q : List ℕ) → Grows a w b x p → Grows b x c y q → Grows a w c y (p ++ q)
grows_then a b c w x y p q g h = record {
  sent = g.sent ++ h.sent;
  written = Appends-trans a b c g.sent h.sent g.written h.written;
  rest = sym (append_assoc w p q) ∙ ap (λ (l : List ℕ). l ++ q) g.rest ∙ append_assoc g.sent x q ∙ ap (λ (l : List ℕ). g.sent ++ l) h.rest ∙ sym (append_assoc g.sent h.sent y);
}

-- bytes that came to those that wait, before some of these were written
pub grows_after : (old new : Option (List ℕ)) (w x y p : List ℕ) → x ≡ w ++ p → Grows old x new y [] → Grows old w new y p
grows_after old new w x y p e g = record { sent = g.sent; written = g.written; rest = sym e ∙ sym (append-nil x) ∙ g.rest }

pub grows_as : (a b : Option (List ℕ)) (w x p q : List ℕ) → p ≡ q → Grows a w b x p → Grows a w b x q
grows_as a b w x p q e g = subst (Grows a w b x) e g

pub record_put : (family : FamilyOf) (seconds : ℕ) (kind : RecordKind) (len : ℕ) (w x y z front back : List ℕ) → len ≡ length front + length back
    → x ≡ w ++ record_head seconds (mrt_type kind) (mrt_subtype family kind) len → y ≡ x ++ front → z ≡ y ++ back
    → z ≡ w ++ record_bytes (of_kind family seconds kind (front ++ back))
record_put family seconds kind len w x y z front back size e f g =
    let head = λ (n : ℕ). record_head seconds (mrt_type kind) (mrt_subtype family kind) n in
    let whole : len ≡ length (front ++ back) = size ∙ sym (length-append front back) in
    g
    ∙ ap (λ (l : List ℕ). l ++ back) (f ∙ ap (λ (l : List ℕ). l ++ front) e)
    ∙ append_assoc (w ++ head len) front back
    ∙ append_assoc w (head len) (front ++ back)
    ∙ ap (λ (n : ℕ). w ++ (head n ++ (front ++ back))) whole
    ∙ ap (λ (l : List ℕ). w ++ l) (sym (record_parts (of_kind family seconds kind (front ++ back))))

-- ---- sizes

entry_size : (family : FamilyOf) (add_path : Bool) (originated : ℕ) (e : PrefixRoute) → length (entry_bytes add_path (written_entry family originated e)) ≡ cond add_path 12 8 + length (entry_field family e.route)
entry_size family add_path originated e =
    let field = entry_field family e.route in
    let id = identifier_bytes add_path e.id in
    omega (
      arith,
      identifier_size add_path e.id,
      length-append (big_bytes 2 e.peer) (big_bytes 4 originated ++ (id ++ (big_bytes 2 (length field) ++ field))),
      length-append (big_bytes 4 originated) (id ++ (big_bytes 2 (length field) ++ field)),
      length-append id (big_bytes 2 (length field) ++ field),
      length-append (big_bytes 2 (length field)) field,
      length-bytes_high_first 2 e.peer,
      length-bytes_high_first 4 originated,
      length-bytes_high_first 2 (length field),
    )
  where
    identifier_size : (b : Bool) (n : ℕ) → 8 + length (identifier_bytes b n) ≡ cond b 12 8
    identifier_size true n = omega (arith, length-bytes_high_first 4 n)
    identifier_size false n = omega arith

-- how long the entries are doesn't depend on their time
entries_size : (family : FamilyOf) (add_path : Bool) (originated : ℕ) (part : List PrefixRoute) → length (entries_bytes family add_path originated part) ≡ length (entries_bytes family add_path 0 part)
entries_size family add_path originated [] = refl
entries_size family add_path originated (e ∷ part) =
    omega (
      arith,
      entries_size family add_path originated part,
      entry_size family add_path originated e,
      entry_size family add_path 0 e,
      length-append (entry_bytes add_path (written_entry family originated e)) (entries_bytes family add_path originated part),
      length-append (entry_bytes add_path (written_entry family 0 e)) (entries_bytes family add_path 0 part),
    )

octets_size : (prefix : IpPrefix) → prefix.len ≤ 128 → length (prefix_octets prefix) ≡ div_ceil prefix.len 8
unfolding prefix_octets
octets_size prefix short =
    let octets = big_bytes 16 prefix.addr in
    omega (arith, length-take (div_ceil prefix.len 8) octets, length-bytes_high_first 16 prefix.addr, ceil_most prefix.len short)
  where
    ceil_most : (n : ℕ) → n ≤ 128 → div_ceil n 8 ≤ 16
    ceil_most n h = omega (arith, h)

octets_most : (prefix : IpPrefix) → length (prefix_octets prefix) ≤ 16
unfolding prefix_octets
octets_most prefix =
    let octets = big_bytes 16 prefix.addr in
    omega (arith, length-take (div_ceil prefix.len 8) octets, length-bytes_high_first 16 prefix.addr)

head_size : (sequence count : ℕ) (prefix : IpPrefix) → length (rib_head sequence prefix count) ≡ 7 + length (prefix_octets prefix)
head_size sequence count prefix =
    omega (
      arith,
      length-append (big_bytes 4 sequence) ((prefix.len ∷ prefix_octets prefix) ++ big_bytes 2 count),
      length-append (prefix.len ∷ prefix_octets prefix) (big_bytes 2 count),
      length-bytes_high_first 4 sequence,
      length-bytes_high_first 2 count,
    )

pub head_short : (sequence count : ℕ) (prefix : IpPrefix) → length (rib_head sequence prefix count) ≤ 23
head_short sequence count prefix = omega (arith, head_size sequence count prefix, octets_most prefix)

pub entries_more : (family : FamilyOf) (add_path : Bool) (seconds : ℕ) (part : List PrefixRoute) (e : PrefixRoute) → entries_bytes family add_path seconds (part ++ e ∷ []) ≡ entries_bytes family add_path seconds part ++ entry_bytes add_path (written_entry family seconds e)
entries_more family add_path seconds part e =
    flat_map-append (λ (x : PrefixRoute). entry_bytes add_path (written_entry family seconds x)) part (e ∷ [])
    ∙ ap (λ (l : List ℕ). entries_bytes family add_path seconds part ++ l) (append-nil (entry_bytes add_path (written_entry family seconds e)))

-- whether there is room for a route more
pub room_is : (family : FamilyOf) (add_path : Bool) (seconds : ℕ) (prefix : IpPrefix) (part : List PrefixRoute) (e : PrefixRoute) (size : ℕ) → prefix.len ≤ 128 → length part < 65535
    → size ≡ ((7 + div_ceil prefix.len 8) + length (entries_bytes family add_path seconds part)) + (cond add_path 12 8 + length (entry_field family e.route))
    → nat_le size 16777216 ≡ fits_record family add_path prefix (part ++ e ∷ [])
room_is family add_path seconds prefix part e size short few is =
    let more = part ++ e ∷ [] in
    let head = rib_head 0 prefix (length more) in
    let all = entries_bytes family add_path 0 more in
    let body : length (rib_bytes add_path (written_rib family 0 0 prefix more)) ≡ size =
    omega (
      arith,
      is,
      ap length (rib_parts family add_path 0 0 prefix more),
      length-append head all,
      head_size 0 (length more) prefix,
      octets_size prefix short,
      ap length (entries_more family add_path 0 part e),
      length-append (entries_bytes family add_path 0 part) (entry_bytes add_path (written_entry family 0 e)),
      entry_size family add_path 0 e,
      entries_size family add_path seconds part,
    ) in
    let room : nat_lt (length more) 65536 ≡ true = lt-ltb (length more) 65536 (omega (arith, few, length-append part (e ∷ []))) in
    sym ((λ i. room i && nat_le (body i) 16777216))

-- ---- the record of a part

pub part_put : (family : FamilyOf) (add_path : Bool) (seconds sequence : ℕ) (prefix : IpPrefix) (part : List PrefixRoute) (head entries : List ℕ) → part ≢ [] → head ≡ rib_head sequence prefix (length part) → entries ≡ entries_bytes family add_path seconds part
    → record_bytes (of_kind family seconds (Rib add_path) (head ++ entries)) ≡ parts_bytes family seconds sequence (map (part_of add_path prefix) (closed part))
part_put family add_path seconds sequence prefix [] head entries some e f = absurd (some refl)
part_put family add_path seconds sequence prefix (x ∷ part) head entries some e f =
    (λ i. record_bytes (of_kind family seconds (Rib add_path) (e i ++ f i)))
    ∙ ap (λ (body : List ℕ). record_bytes (of_kind family seconds (Rib add_path) body)) (sym (rib_parts family add_path seconds sequence prefix (x ∷ part)))
    ∙ sym (append-nil (record_bytes (of_kind family seconds (Rib add_path) (rib_bytes add_path (written_rib family seconds sequence prefix (x ∷ part))))))

pub not_empty : {A : Type 0} (xs : List A) → eqb (length xs) 0 ≡ false → xs ≢ []
not_empty xs h e = absurd (both_ways (eqb (length xs) 0) h (ap (λ l. eqb (length l) 0) e))

-- ---- parts, one after the other

pub grows_to : (held : Option (List ℕ)) (waited bytes : List ℕ) → GrowsTo held waited held waited bytes bytes
grows_to held waited bytes = record { sent = []; written = Appends-nil held; rest = refl }

pub grows_on : (a b c : Option (List ℕ)) (w x y all p left : List ℕ) → GrowsTo a w b x all (p ++ left) → Grows b x c y p → GrowsTo a w c y all left
grows_on a b c w x y all p left g h = record {
  sent = g.sent ++ h.sent;
  written = Appends-trans a b c g.sent h.sent g.written h.written;
  rest =
      g.rest
      ∙ ap (λ (l : List ℕ). g.sent ++ l) (sym (append_assoc x p left) ∙ ap (λ (l : List ℕ). l ++ left) h.rest ∙ append_assoc h.sent y left)
      ∙ sym (append_assoc g.sent h.sent (y ++ left));
}

pub grows_end : (a b c : Option (List ℕ)) (w x y all left : List ℕ) → GrowsTo a w b x all left → Grows b x c y left → Grows a w c y all
grows_end a b c w x y all left g h = record {
  sent = g.sent ++ h.sent;
  written = Appends-trans a b c g.sent h.sent g.written h.written;
  rest = g.rest ∙ ap (λ (l : List ℕ). g.sent ++ l) h.rest ∙ sym (append_assoc g.sent h.sent y);
}

pub parts_more : (family : FamilyOf) (seconds number : ℕ) (parts others : List PrefixPart) → parts_bytes family seconds number (parts ++ others) ≡ parts_bytes family seconds number parts ++ parts_bytes family seconds (number + length parts) others
parts_more family seconds number [] others = ap (λ (n : ℕ). parts_bytes family seconds n others) (none_more number)
  where
    none_more : (n : ℕ) → n ≡ n + 0
    none_more n = omega arith
parts_more family seconds number (part ∷ parts) others =
    let first = record_bytes (record_of family seconds (part_record (number, part))) in
    ap (λ (l : List ℕ). first ++ l) (parts_more family seconds (number + 1) parts others ∙ ap (λ (n : ℕ). parts_bytes family seconds (number + 1) parts ++ parts_bytes family seconds n others) (one_more number (length parts)))
    ∙ sym (append_assoc first (parts_bytes family seconds (number + 1) parts) (parts_bytes family seconds (number + suc (length parts)) others))
  where
    one_more : (n k : ℕ) → (n + 1) + k ≡ n + suc k
    one_more n k = omega arith

split_step : (fits : List PrefixRoute → Bool) (f : Bool) (part : List PrefixRoute) (e : PrefixRoute) (rest : List PrefixRoute) → f ≡ fits (part ++ e ∷ [])
    → split_after fits part (e ∷ rest) ≡ closed_by f part ++ split_after fits (next_part f part e) rest
split_step fits f part e rest is =
    ap (λ (b : Bool). cond b (split_after fits (part ++ e ∷ []) rest) (closed part ++ split_after fits (e ∷ []) rest)) (sym is) ∙ by_test f
  where
    by_test : (b : Bool) → cond b (split_after fits (part ++ e ∷ []) rest) (closed part ++ split_after fits (e ∷ []) rest) ≡ closed_by b part ++ split_after fits (next_part b part e) rest
    by_test true = refl
    by_test false = refl

module _ (family : FamilyOf) (seconds : ℕ) (add_path : Bool) (prefix : IpPrefix) where
  abbrev fits_in : List PrefixRoute → Bool
  fits_in = fits_record family add_path prefix

  abbrev parts_for : List (List PrefixRoute) → List PrefixPart
  parts_for parts = map (part_of add_path prefix) parts

  -- what is left of the records, once a route more has come
  pub left_step : (sequence next : ℕ) (f : Bool) (part : List PrefixRoute) (e : PrefixRoute) (rest : List PrefixRoute) → f ≡ fits_in (part ++ e ∷ []) → next ≡ sequence + length (closed_by f part)
      → parts_bytes family seconds sequence (parts_for (split_after fits_in part (e ∷ rest)))
      ≡ parts_bytes family seconds sequence (parts_for (closed_by f part)) ++ parts_bytes family seconds next (parts_for (split_after fits_in (next_part f part e) rest))
  left_step sequence next f part e rest is numbered =
      ap (λ (parts : List (List PrefixRoute)). parts_bytes family seconds sequence (parts_for parts)) (split_step fits_in f part e rest is)
      ∙ ap (parts_bytes family seconds sequence) (map-append (part_of add_path prefix) (closed_by f part) (split_after fits_in (next_part f part e) rest))
      ∙ parts_more family seconds sequence (parts_for (closed_by f part)) (parts_for (split_after fits_in (next_part f part e) rest))
      ∙ ap (λ (n : ℕ). parts_bytes family seconds sequence (parts_for (closed_by f part)) ++ parts_bytes family seconds n (parts_for (split_after fits_in (next_part f part e) rest)))
      (ap (λ (n : ℕ). sequence + n) (length-map (closed_by f part) (part_of add_path prefix)) ∙ sym numbered)

  pub count_step : (sequence next all : ℕ) (f : Bool) (part : List PrefixRoute) (e : PrefixRoute) (rest : List PrefixRoute) → f ≡ fits_in (part ++ e ∷ []) → next ≡ sequence + length (closed_by f part)
      → sequence + length (split_after fits_in part (e ∷ rest)) ≡ all → next + length (split_after fits_in (next_part f part e) rest) ≡ all
  count_step sequence next all f part e rest is numbered h =
      omega (arith, numbered, h, ap length (split_step fits_in f part e rest is), length-append (closed_by f part) (split_after fits_in (next_part f part e) rest))

-- ---- a part among the routes

pub take_next : {A : Type 0} (xs : List A) (k : ℕ) (e : A) → k < length xs → e ≡ get_or xs k e → take (k + 1) xs ≡ take k xs ++ e ∷ []
take_next [] k e within here = absurd (omega arith)
take_next (x ∷ xs) zero e within here = ap (λ y. y ∷ []) (sym here)
take_next (x ∷ xs) (suc k) e within here = ap (λ n. take n (x ∷ xs)) (later k) ∙ ap (λ ys. x ∷ ys) (take_next xs k e (omega arith) here)
  where
    later : (n : ℕ) → suc n + 1 ≡ suc (n + 1)
    later n = omega arith

mid_next : {A : Type 0} (xs : List A) (from k at : ℕ) (e : A) → from + k ≡ at → at < length xs → e ≡ get_or xs at e → take (k + 1) (drop from xs) ≡ take k (drop from xs) ++ e ∷ []
mid_next xs zero k at e is within here = take_next xs k e (omega (arith, is, within)) (subst (λ n. e ≡ get_or xs n e) (sym is ∙ none_more k) here)
  where
    none_more : (n : ℕ) → 0 + n ≡ n
    none_more n = omega arith
mid_next [] (suc from) k at e is within here = absurd (omega arith)
mid_next (x ∷ xs) (suc from) k zero e is within here = absurd (omega (arith, is))
mid_next (x ∷ xs) (suc from) k (suc at) e is within here = mid_next xs from k at e (omega (arith, is)) (omega arith) here

pub rest_next : {A : Type 0} (xs : List A) (at : ℕ) (e : A) → at < length xs → e ≡ get_or xs at e → drop at xs ≡ e ∷ drop (at + 1) xs
rest_next [] at e within here = absurd (omega arith)
rest_next (x ∷ xs) zero e within here = ap (λ y. y ∷ xs) (sym here)
rest_next (x ∷ xs) (suc at) e within here = rest_next xs at e (omega arith) here ∙ ap (λ n. e ∷ drop n (x ∷ xs)) (later at)
  where
    later : (n : ℕ) → suc (n + 1) ≡ suc n + 1
    later n = omega arith

pub part_next : (routes : List PrefixRoute) (f : Bool) (from at next : ℕ) (e : PrefixRoute) → from ≤ at → at < length routes → e ≡ get_or routes at e → next ≡ cond f from at → between next (at + 1) routes ≡ next_part f (between from at routes) e
part_next routes true from at next e before within here is =
    ap (λ (n : ℕ). take ((at + 1) - n) (drop n routes)) is
    ∙ ap (λ (n : ℕ). take n (drop from routes)) (one_later at from before)
    ∙ mid_next routes from (at - from) at e (whole at from before) within here
  where
    one_later : (a b : ℕ) → b ≤ a → (a + 1) - b ≡ (a - b) + 1
    one_later a b h = omega (arith, h)

    whole : (a b : ℕ) → b ≤ a → b + (a - b) ≡ a
    whole a b h = omega (arith, h)
part_next routes false from at next e before within here is =
    ap (λ (n : ℕ). take ((at + 1) - n) (drop n routes)) is
    ∙ (λ i. take (one at i) (rest_next routes at e within here i))
  where
    one : (a : ℕ) → (a + 1) - a ≡ 1
    one a = omega arith

pub part_before : (f : Bool) (from at next : ℕ) → from ≤ at → next ≡ cond f from at → next ≤ at + 1
part_before true from at next before is = omega (arith, before, is)
part_before false from at next before is = omega (arith, is)

pub rest_is : {A : Type 0} (xs : List A) (at : ℕ) → length xs ≤ at → drop at xs ≡ []
rest_is [] zero h = refl
rest_is [] (suc at) h = refl
rest_is (x ∷ xs) zero h = absurd (omega (arith, h))
rest_is (x ∷ xs) (suc at) h = rest_is xs at (omega (arith, h))

-- at the end, the open part is the last one
pub parts_end : (family : FamilyOf) (seconds : ℕ) (add_path : Bool) (prefix : IpPrefix) (sequence from at : ℕ) (routes : List PrefixRoute) → at ≡ length routes
    → parts_bytes family seconds sequence (map (part_of add_path prefix) (split_after (fits_record family add_path prefix) (between from at routes) (drop at routes)))
    ≡ parts_bytes family seconds sequence (map (part_of add_path prefix) (closed (between from (length routes) routes)))
parts_end family seconds add_path prefix sequence from at routes is =
    ap (λ (rest : List PrefixRoute). parts_bytes family seconds sequence (map (part_of add_path prefix) (split_after (fits_record family add_path prefix) (between from at routes) rest))) (rest_is routes at (omega (arith, is)))
    ∙ ap (λ (n : ℕ). parts_bytes family seconds sequence (map (part_of add_path prefix) (closed (between from n routes)))) is

-- an entry more
pub open_next : (family : FamilyOf) (add_path : Bool) (seconds : ℕ) (prefix : IpPrefix) (f : Bool) (part : List PrefixRoute) (e : PrefixRoute) (old mid new : List ℕ)
    → IsOpenPart family add_path seconds part old → f ≡ fits_record family add_path prefix (part ++ e ∷ []) → length (entry_field family e.route) ≤ 65535
    → mid ≡ cond f old [] → new ≡ mid ++ entry_bytes add_path (written_entry family seconds e) → IsOpenPart family add_path seconds (next_part f part e) new
open_next family add_path seconds prefix f part e old mid new begun is short m n = by_test f is m
  where
    by_test : (b : Bool) → b ≡ fits_record family add_path prefix (part ++ e ∷ []) → mid ≡ cond b old [] → IsOpenPart family add_path seconds (next_part b part e) new
    by_test true t k =
        let both = both_true (nat_lt (length (part ++ e ∷ [])) 65536) (nat_le (length (rib_bytes add_path (written_rib family 0 0 prefix (part ++ e ∷ [])))) body_limit) (sym t) in
        let whole : new ≡ entries_bytes family add_path seconds (part ++ e ∷ []) = n ∙ ap (λ (l : List ℕ). l ++ entry_bytes add_path (written_entry family seconds e)) (k ∙ begun.entries_are) ∙ sym (entries_more family add_path seconds part e) in
        record {
          entries_are = whole;
          few = ltb-true (length (part ++ e ∷ [])) 65536 both.0;
          short =
              omega (
                arith,
                ap length whole,
                entries_size family add_path seconds (part ++ e ∷ []),
                leb-true (length (rib_bytes add_path (written_rib family 0 0 prefix (part ++ e ∷ [])))) body_limit both.1,
                ap length (rib_parts family add_path 0 0 prefix (part ++ e ∷ [])),
                length-append (rib_head 0 prefix (length (part ++ e ∷ []))) (entries_bytes family add_path 0 (part ++ e ∷ [])),
              );
        }
    by_test false t k =
        let whole : new ≡ entries_bytes family add_path seconds (e ∷ []) = n ∙ ap (λ (l : List ℕ). l ++ entry_bytes add_path (written_entry family seconds e)) k ∙ sym (append-nil (entry_bytes add_path (written_entry family seconds e))) in
        record {
          entries_are = whole;
          few = omega arith;
          short = omega (arith, ap length whole, length-append (entry_bytes add_path (written_entry family seconds e)) [], entry_size family add_path seconds e, short, size_most add_path);
        }
      where
        size_most : (b : Bool) → cond b 12 8 ≤ 12
        size_most true = omega arith
        size_most false = omega arith

-- ---- pieces of a list, one after the other

pub take_all : {A : Type 0} (xs : List A) (i : ℕ) → length xs ≤ i → take i xs ≡ xs
take_all [] zero h = refl
take_all [] (suc i) h = refl
take_all (x ∷ xs) zero h = absurd (omega (arith, h))
take_all (x ∷ xs) (suc i) h = ap (λ l. x ∷ l) (take_all xs i (omega (arith, h)))

pub grows_next : {A : Type 0} (xs : List A) (f : A → List ℕ) (i : ℕ) (e : A) (a b c : Option (List ℕ)) (w x y : List ℕ) → i < length xs → e ≡ get_or xs i e
    → Grows a w b x (flat_map f (take i xs)) → Grows b x c y (f e) → Grows a w c y (flat_map f (take (i + 1) xs))
grows_next xs f i e a b c w x y within here g h =
    grows_as a c w y (flat_map f (take i xs) ++ f e) (flat_map f (take (i + 1) xs))
    (sym (ap (flat_map f) (take_next xs i e within here) ∙ flat_map-append f (take i xs) (e ∷ []) ∙ ap (λ (l : List ℕ). flat_map f (take i xs) ++ l) (append-nil (f e))))
    (grows_then a b c w x y (flat_map f (take i xs)) (f e) g h)

pub grows_all : {A : Type 0} (xs : List A) (f : A → List ℕ) (i : ℕ) (a b : Option (List ℕ)) (w x : List ℕ) → length xs ≤ i → Grows a w b x (flat_map f (take i xs)) → Grows a w b x (flat_map f xs)
grows_all xs f i a b w x past g = grows_as a b w x (flat_map f (take i xs)) (flat_map f xs) (ap (flat_map f) (take_all xs i past)) g

-- what was sent and what waited is all that came
pub sent_all : (a b c : Option (List ℕ)) (w p : List ℕ) → Grows a [] b w p → Appends b c w → Appends a c p
sent_all a b c w p g h = subst (Appends a c) (sym g.rest) (Appends-trans a b c g.sent w g.written h)
