-- The bytes of a route spell it: what is packed is unpacked again.
use Rattle.std.proofs.Common.{◌≡◌, ℕ, ◌+◌, ◌-◌, ◌*◌, ◌/◌, ◌%◌, ◌^◌, ◌<◌, ◌≤◌, Bool, true, false, cond, eqb, List, [], ◌∷◌, ◌++◌, length, get_or, take, drop, Option, Some, None, refl, sym, ap, subst, ◌∙◌, arith, append_assoc, Result}
use Rattle.std.specs.Prelude.{is_some, IfSome, option_map}
use Rattle.std.specs.List.{AllByRecursion}
use Rattle.std.proofs.lemmas.Bool.{ne_eqb, eq-eqb}
use Rattle.std.proofs.lemmas.List.{append-nil, length-append, drop_at, drop-drop, drop-take}
use Rattle.std.proofs.Math.Seq.{take-append_seam}
use Rattle.std.specs.Result.{result_unwrap_or}
use Rattle.byteorder.specs.Endian.{big_number, big_bytes}
use Rattle.byteorder.specs.Numbers.{big_number-reads_back, length-bytes_high_first}
use Rattle.mrt_frame.specs.declared.fault.Fault.{Fault}
use Rattle.bgp_update.specs.declared.width.Width.TheVariants.{Four}
use Rattle.bgp_update.specs.declared.next_hop.NextHop.{NextHop}
use Rattle.bgp_update.specs.declared.next_hop.NextHop.TheVariants.{V4, V6, V6Pair}
use Rattle.bgp_update.specs.declared.route.Origin.{Origin}
use Rattle.bgp_update.specs.declared.route.Origin.TheVariants.{Igp}
use Rattle.bgp_update.specs.declared.route.Aggregator.{Aggregator}
use Rattle.bgp_update.specs.declared.route.Route.{Route}
use Rattle.bgp_update.specs.KeptAttributes.{KeptValue}
use Rattle.bgp_update.specs.KeptBytes.{FitsKept, kept_bytes, spelled_values, AreKeptBytes}
use Rattle.bgp_update.specs.Paths.{PathSegment}
use Rattle.bgp_update.proofs.KeptLaws.{spelled_values-bytes, kept-bytes}
use Rattle.bgp_update.specs.Multiprotocol.{FitsHop}
use Rattle.bgp_update.specs.Segments.{path_bytes, IsPath}
use Rattle.bgp_update.proofs.SegmentLaws.{path_in-bytes}
use Rattle.bgp_update.specs.Packing.{FitsAggregator, HaveWidths, IsWritable, CanPack, WritesPath, WritesRoute, flag, part_flags, part_bit, keeps_any, kept_part, kept_len, kept_by, path_end, origin_code, hop_code, field_flags, packed_hop_bytes, number_bytes, aggregator_bytes, path_part, route_bytes, origin_bits, hop_bits, flag_bit, hop_len, starts_in, origin_by, hop_by, number_by, aggregator_by, spelled_path, path_by, unpacked, IsPacked, IsSpelled, front_bytes}

-- ---- flags

pub record AreFlags (f o a k m l g : ℕ) : Type 0 where
  pub origin : f % 4 ≡ o
  pub atomic : f / 4 % 2 ≡ a
  pub hop : f / 8 % 4 ≡ k
  pub med : f / 32 % 2 ≡ m
  pub local_pref : f / 64 % 2 ≡ l
  pub aggregator : f / 128 % 2 ≡ g

are_flags : (o a k m l g : ℕ) → o < 4 → a < 2 → k < 4 → m < 2 → l < 2 → g < 2 → AreFlags (o + 4 * a + 8 * k + 32 * m + 64 * l + 128 * g) o a k m l g
are_flags o a k m l g ho ha hk hm hl hg = record {
  origin = omega arith;
  atomic = omega arith;
  hop = omega arith;
  med = omega arith;
  local_pref = omega arith;
  aggregator = omega arith;
}

flag-lt : (b : Bool) → flag b < 2
flag-lt true = omega arith
flag-lt false = omega arith

origin_code-lt : (origin : Option Origin) → origin_code origin < 4
origin_code-lt (Some Igp) = omega arith
origin_code-lt origin = omega arith

hop_code-lt : (hop : Option NextHop) → hop_code hop < 4
hop_code-lt (Some (V4 a)) = omega arith
hop_code-lt hop = omega arith

flags_are : (r : Route) → AreFlags (field_flags r) (origin_code r.origin) (flag r.atomic) (hop_code r.next_hop) (flag (is_some r.med)) (flag (is_some r.local_pref)) (flag (is_some r.aggregator))
flags_are r =
    are_flags (origin_code r.origin) (flag r.atomic) (hop_code r.next_hop) (flag (is_some r.med)) (flag (is_some r.local_pref)) (flag (is_some r.aggregator))
    (origin_code-lt r.origin) (flag-lt r.atomic) (hop_code-lt r.next_hop) (flag-lt (is_some r.med)) (flag-lt (is_some r.local_pref)) (flag-lt (is_some r.aggregator))

-- ---- fields

origin_again : (origin : Option Origin) → origin_by (origin_code origin) ≡ origin
origin_again (Some Igp) = refl
origin_again origin = refl

atomic_again : (b : Bool) → eqb (flag b) 1 ≡ b
atomic_again true = refl
atomic_again false = refl

-- two numbers of as many bytes
two_again : (n a b : ℕ) (rest : List ℕ) → a < 256 ^ n → b < 256 ^ n
    → (big_number n ((big_bytes n a ++ big_bytes n b) ++ rest) ≡ a) × (big_number n (drop n ((big_bytes n a ++ big_bytes n b) ++ rest)) ≡ b)
two_again n a b rest ha hb =
    (rw append_assoc (big_number-reads_back n a (big_bytes n b ++ rest) ha), rw (append_assoc, drop_at (big_bytes n a) (big_bytes n b ++ rest) n (length-bytes_high_first n a)) (big_number-reads_back n b rest hb))

hop_again : (hop : Option NextHop) (rest : List ℕ) → IfSome hop FitsHop → hop_by (hop_code hop) (packed_hop_bytes hop ++ rest) ≡ hop
hop_again None rest h = refl
hop_again (Some (V4 a)) rest h = ap (λ (n : ℕ). Some (V4 n)) (big_number-reads_back 4 a rest h)
hop_again (Some (V6 a)) rest h = ap (λ (n : ℕ). Some (V6 n)) (big_number-reads_back 16 a rest h)
hop_again (Some (V6Pair a link)) rest h = let t = two_again 16 a link rest h.0 h.1 in λ i. Some (V6Pair (t.0 i) (t.1 i))

hop_len-is : (hop : Option NextHop) → length (packed_hop_bytes hop) ≡ hop_len (hop_code hop)
hop_len-is None = refl
hop_len-is (Some (V4 a)) = length-bytes_high_first 4 a
hop_len-is (Some (V6 a)) = length-bytes_high_first 16 a
hop_len-is (Some (V6Pair a link)) = omega (arith, length-append (big_bytes 16 a) (big_bytes 16 link), length-bytes_high_first 16 a, length-bytes_high_first 16 link)

number_again : (n : Option ℕ) (rest : List ℕ) → IfSome n (λ x. x < 256 ^ 4) → number_by (flag (is_some n)) (number_bytes n ++ rest) ≡ n
number_again None rest h = refl
number_again (Some n) rest h = ap (λ (x : ℕ). Some x) (big_number-reads_back 4 n rest h)

number_len-is : (n : Option ℕ) → length (number_bytes n) ≡ 4 * flag (is_some n)
number_len-is None = refl
number_len-is (Some n) = length-bytes_high_first 4 n

aggregator_again : (a : Option Aggregator) (rest : List ℕ) → IfSome a FitsAggregator → aggregator_by (flag (is_some a)) (aggregator_bytes a ++ rest) ≡ a
aggregator_again None rest h = refl
aggregator_again (Some a) rest h = let t = two_again 4 a.asn a.addr rest h.asn h.addr in λ i. Some (record { asn = t.0 i; addr = t.1 i })

aggregator_len-is : (a : Option Aggregator) → length (aggregator_bytes a) ≡ 8 * flag (is_some a)
aggregator_len-is None = refl
aggregator_len-is (Some a) = omega (arith, length-append (big_bytes 4 a.asn) (big_bytes 4 a.addr), length-bytes_high_first 4 a.asn, length-bytes_high_first 4 a.addr)

pub spelled_path-bytes : (path : List PathSegment) → IsPath 4 path → spelled_path (path_bytes 4 path) ≡ path
unfolding spelled_path
spelled_path-bytes path h = ap (λ (r : Result (List PathSegment) Fault). result_unwrap_or r []) (path_in-bytes Four path h)

pub spelled-bytes : (path : List PathSegment) → IsPath 4 path → IsSpelled (path_bytes 4 path)
spelled-bytes path h = record { fits = subst (IsPath 4) (sym (spelled_path-bytes path h)) h; written = ap (path_bytes 4) (sym (spelled_path-bytes path h)) }

path_again : (path : Option (List PathSegment)) → IfSome path (IsPath 4) → path_by (flag (is_some path)) (path_part path) ≡ path
path_again None h = refl
path_again (Some path) h = ap (λ (p : List PathSegment). Some p) (spelled_path-bytes path h)

-- ---- where the fields lie

abbrev pub path_on : Route → List ℕ
path_on r = path_part r.path ++ kept_part r.kept

abbrev pub aggregator_on : Route → List ℕ
aggregator_on r = aggregator_bytes r.aggregator ++ path_on r

abbrev pub local_pref_on : Route → List ℕ
local_pref_on r = number_bytes r.local_pref ++ aggregator_on r

abbrev pub med_on : Route → List ℕ
med_on r = number_bytes r.med ++ local_pref_on r

-- what stands in front of the path, and what stands in front of what is kept
abbrev pub front : Route → List ℕ
front r = front_bytes r (is_some r.path)

abbrev pub head : Route → List ℕ
head r = front r ++ path_part r.path

-- these bytes are those of the route, field by field
pub record AreLaid (bytes : List ℕ) (r : Route) : Type 0 where
  pub flags : AreFlags (get_or bytes 0 0) (origin_code r.origin) (flag r.atomic) (hop_code r.next_hop) (flag (is_some r.med)) (flag (is_some r.local_pref)) (flag (is_some r.aggregator))
  pub parts : get_or bytes 1 0 ≡ part_flags (is_some r.path) (keeps_any r.kept)
  pub hop : drop 2 bytes ≡ packed_hop_bytes r.next_hop ++ med_on r
  pub med : drop (starts_in bytes).med bytes ≡ med_on r
  pub local_pref : drop (starts_in bytes).local_pref bytes ≡ local_pref_on r
  pub aggregator : drop (starts_in bytes).aggregator bytes ≡ aggregator_on r
  pub path_start : (starts_in bytes).path ≡ length (front r)
  pub whole : bytes ≡ head r ++ kept_part r.kept

-- one part further on
drop_on : (at n : ℕ) (bytes front rest : List ℕ) → drop at bytes ≡ front ++ rest → length front ≡ n → drop (at + n) bytes ≡ rest
drop_on at n bytes front rest e len = sym (drop-drop n at bytes) ∙ ap (drop n) e ∙ drop_at front rest n len

route_bytes-head : (r : Route) → route_bytes r ≡ head r ++ kept_part r.kept
unfolding route_bytes front_bytes
route_bytes-head r = grouped (field_flags r ∷ part_flags (is_some r.path) (keeps_any r.kept) ∷ []) (packed_hop_bytes r.next_hop) (number_bytes r.med) (number_bytes r.local_pref) (aggregator_bytes r.aggregator) (path_part r.path) (kept_part r.kept)
  where
    grouped : (fs hs ms ls gs ps ks : List ℕ) → fs ++ (hs ++ (ms ++ (ls ++ (gs ++ (ps ++ ks))))) ≡ (((((fs ++ hs) ++ ms) ++ ls) ++ gs) ++ ps) ++ ks
    grouped fs hs ms ls gs ps ks = simp append_assoc

path_starts : (r : Route) → (starts_in (route_bytes r)).path ≡ length (front r)
unfolding route_bytes front_bytes starts_in
path_starts r =
    let f = flags_are r in
    let hop : hop_len (hop_bits (route_bytes r)) ≡ length (packed_hop_bytes r.next_hop) = ap hop_len f.hop ∙ sym (hop_len-is r.next_hop) in
    room (field_flags r) (part_flags (is_some r.path) (keeps_any r.kept)) (hop_len (hop_bits (route_bytes r))) (flag_bit 32 (route_bytes r)) (flag_bit 64 (route_bytes r)) (flag_bit 128 (route_bytes r))
    (packed_hop_bytes r.next_hop) (number_bytes r.med) (number_bytes r.local_pref) (aggregator_bytes r.aggregator) hop
    (ap (λ (n : ℕ). 4 * n) f.med ∙ sym (number_len-is r.med)) (ap (λ (n : ℕ). 4 * n) f.local_pref ∙ sym (number_len-is r.local_pref)) (ap (λ (n : ℕ). 8 * n) f.aggregator ∙ sym (aggregator_len-is r.aggregator))
  where
    room : (f p k m l g : ℕ) (hs ms ls gs : List ℕ) → k ≡ length hs → 4 * m ≡ length ms → 4 * l ≡ length ls → 8 * g ≡ length gs
        → 2 + k + 4 * m + 4 * l + 8 * g ≡ length (((((f ∷ p ∷ []) ++ hs) ++ ms) ++ ls) ++ gs)
    room f p k m l g hs ms ls gs hk hm hl hg =
        omega (arith, hk, hm, hl, hg, length-append ((((f ∷ p ∷ []) ++ hs) ++ ms) ++ ls) gs, length-append (((f ∷ p ∷ []) ++ hs) ++ ms) ls, length-append ((f ∷ p ∷ []) ++ hs) ms, length-append (f ∷ p ∷ []) hs)

pub are_laid : (r : Route) → AreLaid (route_bytes r) r
unfolding route_bytes starts_in
are_laid r =
    let bytes : List ℕ = route_bytes r in
    let f = flags_are r in
    let med : drop (starts_in bytes).med bytes ≡ med_on r = drop_on 2 (hop_len (hop_bits bytes)) bytes (packed_hop_bytes r.next_hop) (med_on r) refl (hop_len-is r.next_hop ∙ ap hop_len (sym f.hop)) in
    let local_pref : drop (starts_in bytes).local_pref bytes ≡ local_pref_on r =
    drop_on (starts_in bytes).med (4 * flag_bit 32 bytes) bytes (number_bytes r.med) (local_pref_on r) med (number_len-is r.med ∙ ap (λ (n : ℕ). 4 * n) (sym f.med)) in
    record {
      flags = f;
      parts = refl;
      hop = refl;
      med = med;
      local_pref = local_pref;
      aggregator = drop_on (starts_in bytes).local_pref (4 * flag_bit 64 bytes) bytes (number_bytes r.local_pref) (aggregator_on r) local_pref (number_len-is r.local_pref ∙ ap (λ (n : ℕ). 4 * n) (sym f.local_pref));
      path_start = path_starts r;
      whole = route_bytes-head r;
    }

-- ---- what is kept

part_path : (p k : Bool) → part_flags p k / 1 % 2 ≡ flag p
part_path true true = refl
part_path true false = refl
part_path false true = refl
part_path false false = refl

part_kept : (p k : Bool) → part_flags p k / 2 % 2 ≡ flag k
part_kept true true = refl
part_kept true false = refl
part_kept false true = refl
part_kept false false = refl

-- the parts of bytes that end by what is kept
pub record EndsKept (bytes before : List ℕ) (ks : List KeptValue) : Type 0 where
  pub end : path_end bytes ≡ length before
  pub kept : kept_by (part_bit 2 bytes) (drop (path_end bytes) (take (length bytes - 4) bytes)) ≡ ks
  pub room : part_bit 2 bytes ≡ 1 → 4 + kept_len bytes ≤ length bytes
  pub spelled : part_bit 2 bytes ≡ 1 → AreKeptBytes (drop (path_end bytes) (take (length bytes - 4) bytes))
  pub behind : part_bit 2 bytes ≡ 1 → path_end bytes ≤ length bytes - 4

pub ends_kept : (bytes before : List ℕ) (ks : List KeptValue) → AllByRecursion FitsKept ks → length (kept_bytes ks) < 256 ^ 4 → bytes ≡ before ++ kept_part ks → part_bit 2 bytes ≡ flag (keeps_any ks) → EndsKept bytes before ks
unfolding path_end
ends_kept bytes before [] fits few e bit =
    let none : eqb (part_bit 2 bytes) 1 ≡ false = ne_eqb (part_bit 2 bytes) 1 (λ h. absurd (omega (arith, h, bit))) in
    record {
      end = rw none (ap length (e ∙ append-nil before));
      kept = rw none refl;
      room = λ h. absurd (omega (arith, h, bit));
      spelled = λ h. absurd (omega (arith, h, bit));
      behind = λ h. absurd (omega (arith, h, bit));
    }
ends_kept bytes before (k ∷ ks) fits few e bit =
    record {
      end = rw some end;
      kept = rw some (ap spelled_values between ∙ spelled_values-bytes (k ∷ ks) fits);
      room = λ h. omega (arith, len, len_is);
      spelled = λ h. rw some (subst AreKeptBytes (sym between) (kept-bytes (k ∷ ks) fits few));
      behind = λ h. rw some (omega (arith, len, end));
    }
  where
    body : List ℕ
    body = kept_bytes (k ∷ ks)

    last : List ℕ
    last = big_bytes 4 (length body)

    some : eqb (part_bit 2 bytes) 1 ≡ true
    some = eq-eqb (part_bit 2 bytes) 1 bit

    last_len : length last ≡ 4
    last_len = length-bytes_high_first 4 (length body)

    parts : bytes ≡ (before ++ body) ++ last
    parts = e ∙ sym (append_assoc before body last)

    len : length bytes ≡ length before + length body + 4
    len = omega (arith, ap length parts, length-append (before ++ body) last, length-append before body, last_len)

    but_last : length bytes - 4 ≡ length (before ++ body)
    but_last = omega (arith, len, length-append before body)

    len_is : kept_len bytes ≡ length body
    len_is =
        ap (λ (n : ℕ). big_number 4 (drop n bytes)) but_last ∙ ap (λ (b : List ℕ). big_number 4 (drop (length (before ++ body)) b)) parts
        ∙ ap (big_number 4) (drop_at (before ++ body) last (length (before ++ body)) refl ∙ sym (append-nil last)) ∙ big_number-reads_back 4 (length body) [] few

    end : length bytes - 4 - kept_len bytes ≡ length before
    end = omega (arith, len, len_is)

    front_is : take (length bytes - 4) bytes ≡ before ++ body
    front_is = ap (λ (n : ℕ). take n bytes) but_last ∙ ap (take (length (before ++ body))) parts ∙ take-append_seam (before ++ body) last

    between : drop (length bytes - 4 - kept_len bytes) (take (length bytes - 4) bytes) ≡ body
    between = ap (λ (n : ℕ). drop n (take (length bytes - 4) bytes)) end ∙ ap (drop (length before)) front_is ∙ drop_at before body (length before) refl

pub laid_ends : (bytes : List ℕ) (r : Route) → CanPack r → AreLaid bytes r → EndsKept bytes (head r) r.kept
laid_ends bytes r h w = ends_kept bytes (head r) r.kept h.kept h.kept_len w.whole (ap (λ (n : ℕ). n / 2 % 2) w.parts ∙ part_kept (is_some r.path) (keeps_any r.kept))

-- the path, between what stands in front of it and what is kept
laid_path : (bytes : List ℕ) (r : Route) → CanPack r → AreLaid bytes r → drop (starts_in bytes).path (take (path_end bytes) bytes) ≡ path_part r.path
laid_path bytes r h w =
    let ends = laid_ends bytes r h w in
    let front_is : take (path_end bytes) bytes ≡ head r = ap (λ (n : ℕ). take n bytes) ends.end ∙ ap (take (length (head r))) w.whole ∙ take-append_seam (head r) (kept_part r.kept) in
    ap (drop (starts_in bytes).path) front_is ∙ ap (λ (n : ℕ). drop n (head r)) w.path_start ∙ drop_at (front r) (path_part r.path) (length (front r)) refl

-- what is packed is unpacked again
pub unpacked-laid : (bytes : List ℕ) (r : Route) → CanPack r → AreLaid bytes r → unpacked bytes ≡ r
unfolding unpacked
unpacked-laid bytes r h w = λ i. record {
  next_hop = next_hop i;
  path = path i;
  med = med i;
  local_pref = local_pref i;
  aggregator = aggregator i;
  origin = origin i;
  atomic = atomic i;
  kept = (laid_ends bytes r h w).kept i;
}
  where
    next_hop : hop_by (hop_bits bytes) (drop 2 bytes) ≡ r.next_hop
    next_hop = ap (λ (k : ℕ). hop_by k (drop 2 bytes)) w.flags.hop ∙ ap (hop_by (hop_code r.next_hop)) w.hop ∙ hop_again r.next_hop (med_on r) h.fields.next_hop

    med : number_by (flag_bit 32 bytes) (drop (starts_in bytes).med bytes) ≡ r.med
    med = ap (λ (k : ℕ). number_by k (drop (starts_in bytes).med bytes)) w.flags.med ∙ ap (number_by (flag (is_some r.med))) w.med ∙ number_again r.med (local_pref_on r) h.fields.med

    local_pref : number_by (flag_bit 64 bytes) (drop (starts_in bytes).local_pref bytes) ≡ r.local_pref
    local_pref = ap (λ (k : ℕ). number_by k (drop (starts_in bytes).local_pref bytes)) w.flags.local_pref ∙ ap (number_by (flag (is_some r.local_pref))) w.local_pref ∙ number_again r.local_pref (aggregator_on r) h.fields.local_pref

    aggregator : aggregator_by (flag_bit 128 bytes) (drop (starts_in bytes).aggregator bytes) ≡ r.aggregator
    aggregator = ap (λ (k : ℕ). aggregator_by k (drop (starts_in bytes).aggregator bytes)) w.flags.aggregator ∙ ap (aggregator_by (flag (is_some r.aggregator))) w.aggregator ∙ aggregator_again r.aggregator (path_on r) h.fields.aggregator

    path_bit : part_bit 1 bytes ≡ flag (is_some r.path)
    path_bit = ap (λ (n : ℕ). n / 1 % 2) w.parts ∙ part_path (is_some r.path) (keeps_any r.kept)

    path : path_by (part_bit 1 bytes) (drop (starts_in bytes).path (take (path_end bytes) bytes)) ≡ r.path
    path = ap (λ (k : ℕ). path_by k (drop (starts_in bytes).path (take (path_end bytes) bytes))) path_bit ∙ ap (path_by (flag (is_some r.path))) (laid_path bytes r h w) ∙ path_again r.path h.path

    origin : origin_by (origin_bits bytes) ≡ r.origin
    origin = ap origin_by w.flags.origin ∙ origin_again r.origin

    atomic : eqb (flag_bit 4 bytes) 1 ≡ r.atomic
    atomic = ap (λ (k : ℕ). eqb k 1) w.flags.atomic ∙ atomic_again r.atomic

pub unpacked-bytes : (r : Route) → CanPack r → unpacked (route_bytes r) ≡ r
unpacked-bytes r h = unpacked-laid (route_bytes r) r h (are_laid r)

-- the bytes of a route are packed
pub packed-bytes : (r : Route) (bytes : List ℕ) → CanPack r → bytes ≡ route_bytes r → IsPacked bytes
packed-bytes r bytes h e = subst IsPacked (sym e) (record { fits = subst CanPack (sym (unpacked-bytes r h)) h; written = ap route_bytes (sym (unpacked-bytes r h)) })

pub same_packed : (a b : List ℕ) → IsPacked a → IsPacked b → unpacked a ≡ unpacked b → a ≡ b
same_packed a b ha hb e = ha.written ∙ ap route_bytes e ∙ sym hb.written

pub packed_laid : (bytes : List ℕ) → IsPacked bytes → AreLaid bytes (unpacked bytes)
packed_laid bytes h = subst (λ (b : List ℕ). AreLaid b (unpacked bytes)) (sym h.written) (are_laid (unpacked bytes))

pub packed_ends : (bytes : List ℕ) → IsPacked bytes → EndsKept bytes (head (unpacked bytes)) (unpacked bytes).kept
packed_ends bytes h = laid_ends bytes (unpacked bytes) h.fits (packed_laid bytes h)

-- ---- room

-- the parts in front of the path, the path, and what is kept follow one another
pub record HasParts (bytes : List ℕ) : Type 0 where
  pub path : (starts_in bytes).path ≤ path_end bytes
  pub end : path_end bytes ≤ length bytes

pub packed_parts : (bytes : List ℕ) → IsPacked bytes → HasParts bytes
packed_parts bytes h =
    let r : Route = unpacked bytes in
    let w = packed_laid bytes h in
    let ends = packed_ends bytes h in
    record {
      path = omega (arith, w.path_start, ends.end, length-append (front r) (path_part r.path));
      end = omega (arith, ends.end, ap length w.whole, length-append (head r) (kept_part r.kept));
    }

pub packed_room : (bytes : List ℕ) → IsPacked bytes → (starts_in bytes).path ≤ length bytes
packed_room bytes h = let p = packed_parts bytes h in omega (arith, p.path, p.end)

pub packed_long : (bytes : List ℕ) → IsPacked bytes → 2 ≤ length bytes
unfolding starts_in
packed_long bytes h = omega (arith, packed_room bytes h)

pub packed_path : (bytes : List ℕ) → IsPacked bytes → part_bit 1 bytes ≡ 1 → IsSpelled (drop (starts_in bytes).path (take (path_end bytes) bytes))
packed_path bytes h e = by_path (unpacked bytes).path h.fits.path (ap (λ (n : ℕ). n / 1 % 2) w.parts ∙ part_path (is_some (unpacked bytes).path) (keeps_any (unpacked bytes).kept)) (laid_path bytes (unpacked bytes) h.fits w)
  where
    w : AreLaid bytes (unpacked bytes)
    w = packed_laid bytes h

    by_path : (path : Option (List PathSegment)) → IfSome path (IsPath 4) → part_bit 1 bytes ≡ flag (is_some path) → drop (starts_in bytes).path (take (path_end bytes) bytes) ≡ path_part path → IsSpelled (drop (starts_in bytes).path (take (path_end bytes) bytes))
    by_path None p f d = absurd (omega (arith, e, f))
    by_path (Some path) p f d = subst IsSpelled (sym d) (spelled-bytes path p)

-- the same under a name that an attribute can give
pub packs_again : (r : Route) (bytes : List ℕ) → CanPack r → bytes ≡ route_bytes r → IsPacked bytes × (unpacked bytes ≡ r)
packs_again r bytes h e = (packed-bytes r bytes h e, ap unpacked e ∙ unpacked-bytes r h)

-- what stands in front of the path was added, and then the path
pub path_behind : (r : Route) (b : Bool) (p : Option (List PathSegment)) (old mid new : List ℕ) → HaveWidths r → b ≡ is_some r.path → r.path ≡ p → mid ≡ old ++ front_bytes r b → new ≡ mid ++ path_part p → WritesPath old new r
path_behind r b p old mid new widths flag_is path_is first second = record {
  bytes = second ∙ ap (λ (xs : List ℕ). xs ++ path_part p) first ∙ append_assoc old (front_bytes r b) (path_part p)
      ∙ ap (λ (c : Bool). old ++ (front_bytes r c ++ path_part p)) flag_is ∙ ap (λ (q : Option (List PathSegment)). old ++ (front_bytes r (is_some r.path) ++ path_part q)) (sym path_is);
  widths = widths;
}

-- and then what is kept
pub kept_behind : (r : Route) (old mid new : List ℕ) → WritesPath old mid r → IsWritable r.path → AllByRecursion FitsKept r.kept → length (kept_bytes r.kept) < 256 ^ 4 → new ≡ mid ++ kept_part r.kept → WritesRoute old new r
kept_behind r old mid new path writable fits few second = record {
  bytes = second ∙ ap (λ (xs : List ℕ). xs ++ kept_part r.kept) path.bytes ∙ append_assoc old (head r) (kept_part r.kept) ∙ ap (λ (xs : List ℕ). old ++ xs) (sym (route_bytes-head r));
  packs = record { fields = path.widths; path = writable; kept = fits; kept_len = few };
}

-- a part of packed bytes, as it is read
pub part_slice : (bytes : List ℕ) (start end : ℕ) → start ≤ end → take (end - start) (drop start bytes) ≡ drop start (take end bytes)
part_slice bytes start end h = sym (drop-take start (end - start) bytes) ∙ ap (λ (n : ℕ). drop start (take n bytes)) (omega (arith, h))

pub path_there : (bytes : List ℕ) → part_bit 1 bytes ≡ 1 → Some (spelled_path (drop (starts_in bytes).path (take (path_end bytes) bytes))) ≡ (unpacked bytes).path
unfolding unpacked
path_there bytes e = ap (λ (bit : ℕ). path_by bit (drop (starts_in bytes).path (take (path_end bytes) bytes))) (sym e)

-- the path of packed bytes is the value of AS_PATH
pub path_spelled : (bytes : List ℕ) → IsPacked bytes → part_bit 1 bytes ≡ 1 → Some (drop (starts_in bytes).path (take (path_end bytes) bytes)) ≡ option_map (path_bytes 4) (unpacked bytes).path
path_spelled bytes h e =
    ap (λ (b : List ℕ). Some b) (packed_path bytes h e).written ∙ ap (option_map (path_bytes 4)) (path_there bytes e)

pub path_slice : (bytes : List ℕ) (start end : ℕ) → IsPacked bytes → start ≡ (starts_in bytes).path → end ≡ path_end bytes → take (end - start) (drop start bytes) ≡ drop (starts_in bytes).path (take (path_end bytes) bytes)
path_slice bytes start end h s e =
    part_slice bytes start end (omega (arith, s, e, (packed_parts bytes h).path)) ∙ ap (λ (n : ℕ). drop start (take n bytes)) e ∙ ap (λ (n : ℕ). drop n (take (path_end bytes) bytes)) s

pub kept_slice : (bytes : List ℕ) (start : ℕ) → IsPacked bytes → part_bit 2 bytes ≡ 1 → start ≡ path_end bytes → take (length bytes - 4 - start) (drop start bytes) ≡ drop (path_end bytes) (take (length bytes - 4) bytes)
kept_slice bytes start h bit e =
    part_slice bytes start (length bytes - 4) (omega (arith, e, (packed_ends bytes h).behind bit)) ∙ ap (λ (n : ℕ). drop n (take (length bytes - 4) bytes)) e

-- the attributes that are kept, where there are any
pub kept_there : (bytes : List ℕ) → IsPacked bytes → part_bit 2 bytes ≡ 1 → (unpacked bytes).kept ≡ spelled_values (drop (path_end bytes) (take (length bytes - 4) bytes))
kept_there bytes h bit =
    sym (packed_ends bytes h).kept ∙ ap (λ (n : ℕ). kept_by n (drop (path_end bytes) (take (length bytes - 4) bytes))) bit

pub none_kept : (bytes : List ℕ) → IsPacked bytes → (part_bit 2 bytes ≡ 1 → ⊥) → (unpacked bytes).kept ≡ []
none_kept bytes h bit =
    sym (packed_ends bytes h).kept ∙ ap (λ (b : Bool). cond b (spelled_values (drop (path_end bytes) (take (length bytes - 4) bytes))) []) (ne_eqb (part_bit 2 bytes) 1 bit)

-- attributes that are kept were added, and then how many bytes they take
pub some_kept : (ks : List KeptValue) (n : ℕ) (bytes old mid new : List ℕ) → keeps_any ks ≡ true → mid ≡ old ++ kept_bytes ks → n ≡ length (kept_bytes ks) → bytes ≡ big_bytes 4 n → new ≡ mid ++ bytes → new ≡ old ++ kept_part ks
some_kept [] n bytes old mid new any m len b e = absurd cc
some_kept (k ∷ ks) n bytes old mid new any m len b e =
    e ∙ ap (λ (xs : List ℕ). xs ++ bytes) m ∙ append_assoc old (kept_bytes (k ∷ ks)) bytes
    ∙ ap (λ (xs : List ℕ). old ++ (kept_bytes (k ∷ ks) ++ xs)) (b ∙ ap (big_bytes 4) len)
