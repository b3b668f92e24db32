-- Positions as they are read from the bytes of a path.
use Rattle.std.proofs.Common.{inl, inr, leb, eqb, Option, Some, None, ◌≡◌, ℕ, zero, suc, ◌+◌, ◌-◌, ◌*◌, ◌^◌, ◌<◌, ◌≤◌, Bool, true, false, cond, List, [], ◌∷◌, ◌++◌, map, length, get_or, take, drop, refl, sym, ap, subst, ◌∙◌, arith, append_assoc}
use Rattle.std.specs.Prelude.{◌||◌, ◌⊎◌, IfSome, option_map}
use Rattle.std.specs.List.{flat_map, AllByRecursion, list_any}
use Rattle.std.proofs.lemmas.List.{drop-drop, drop_at, length-drop, length-append, take_rest}
use Rattle.std.proofs.lemmas.Bool.{and_left, and_right, lt-leb, ne_eqb, eqb-true}
use Rattle.byteorder.specs.Endian.{big_number, big_bytes}
use Rattle.byteorder.specs.Numbers.{big_number-reads_back, length-bytes_high_first}
use Rattle.bgp_update.specs.declared.path.SegmentKind.{SegmentKind}
use Rattle.bgp_update.specs.declared.path.SegmentKind.TheVariants.{AsSet, AsSequence, ConfedSequence, ConfedSet}
use Rattle.bgp_update.specs.Paths.{PathSegment}
use Rattle.bgp_update.specs.Segments.{kind_number, numbers_in, path_bytes, IsSegment, IsPath}
use Rattle.bgp_update.specs.declared.route.Route.{Route}
use Rattle.bgp_update.specs.Packing.{spelled_path, IsSpelled, unpacked, IsPacked}
use Rattle.bgp_update.proofs.SegmentLaws.{length_numbers}
use Rattle.bgp_update.proofs.Packings.{spelled_path-bytes, spelled-bytes}
use Rattle.route_choice.specs.Masks.{is_nil, is_within}
use Rattle.route_choice.specs.Positions.{is_set, is_set_number, alone, positions}
use Rattle.route_choice.specs.Cursors.{positions_left, IsCursor}

-- ---- numbers of a sequence

pub none_left_of_sequence : (bytes : List ℕ) → positions_left 0 bytes ≡ positions (spelled_path bytes)
unfolding positions_left
none_left_of_sequence bytes = refl

behind_number : (k : ℕ) (bytes : List ℕ) → drop (k * 4) (drop 4 bytes) ≡ drop (suc k * 4) bytes
behind_number k bytes = drop-drop (k * 4) 4 bytes ∙ ap (λ (n : ℕ). drop n bytes) (omega arith)

number_first : (k : ℕ) (bytes : List ℕ) → positions_left (suc k) bytes ≡ numbers_in 4 1 bytes ∷ positions_left k (drop 4 bytes)
unfolding positions_left
number_first k bytes =
    ap (λ (t : List ℕ). alone (big_number 4 bytes) ∷ (map alone (numbers_in 4 k (drop 4 bytes)) ++ positions (spelled_path t))) (sym (behind_number k bytes))

pub one_number_less : (left : ℕ) (bytes : List ℕ) → 0 < left → positions_left left bytes ≡ numbers_in 4 1 bytes ∷ positions_left (left - 1) (drop 4 bytes)
one_number_less zero bytes pos = absurd (omega (arith, pos))
one_number_less (suc k) bytes pos = number_first k bytes ∙ ap (λ (n : ℕ). numbers_in 4 1 bytes ∷ positions_left n (drop 4 bytes)) (omega arith)

pub cursor_behind : (left : ℕ) (bytes : List ℕ) → 0 < left → IsCursor left bytes → IsCursor (left - 1) (drop 4 bytes)
cursor_behind zero bytes pos h = absurd (omega (arith, pos))
cursor_behind (suc k) bytes pos h =
    let same : suc k - 1 ≡ k = omega arith in
    subst (λ (n : ℕ). IsCursor n (drop 4 bytes)) (sym same)
    (record { room = omega (arith, h.room, length-drop 4 bytes); spelled = subst IsSpelled (sym (behind_number k bytes)) h.spelled })

-- a number of a position more
one_compared : (test : ℕ → Bool) (left : ℕ) (bytes : List ℕ) → 0 < left → list_any test (numbers_in 4 left bytes) ≡ (test (big_number 4 bytes) || list_any test (numbers_in 4 (left - 1) (drop 4 bytes)))
one_compared test zero bytes pos = absurd (omega (arith, pos))
one_compared test (suc k) bytes pos =
    let same : k ≡ suc k - 1 = omega arith in
    ap (λ (n : ℕ). test (big_number 4 bytes) || list_any test (numbers_in 4 n (drop 4 bytes))) same

not_within : (first last n : ℕ) → ((first ≤ n) × (last < n)) ⊎ (n < first) → is_within first last n ≡ false
not_within first last n (inl h) = and_right (leb first n) (leb n last) (lt-leb n last h.1)
not_within first last n (inr h) = and_left (leb first n) (leb n last) (lt-leb first n h)

pub one_passed : (first last left : ℕ) (bytes : List ℕ) (n : ℕ) → 0 < left → n ≡ big_number 4 bytes → ((first ≤ n) × (last < n)) ⊎ (n < first)
    → list_any (is_within first last) (numbers_in 4 (left - 1) (drop 4 bytes)) ≡ list_any (is_within first last) (numbers_in 4 left bytes)
one_passed first last left bytes n pos is h =
    let behind : Bool = list_any (is_within first last) (numbers_in 4 (left - 1) (drop 4 bytes)) in
    sym (one_compared (is_within first last) left bytes pos ∙ ap (λ (b : Bool). b || behind) (ap (is_within first last) (sym is) ∙ not_within first last n h))

-- ---- segments

pub record IsFirst (bytes : List ℕ) (s : PathSegment) (path : List PathSegment) : Type 0 where
  pub path_is : spelled_path bytes ≡ s ∷ path
  pub segment : IsSegment 4 s
  pub kind : get_or bytes 0 0 ≡ kind_number s.kind
  pub count : get_or bytes 1 0 ≡ length s.numbers
  pub parts : drop 2 bytes ≡ flat_map (big_bytes 4) s.numbers ++ path_bytes 4 path
  pub fits : IsPath 4 path
  pub long : length bytes ≡ 2 + length s.numbers * 4 + length (path_bytes 4 path)

first_is : (bytes : List ℕ) (path : List PathSegment) → IsPath 4 path → bytes ≡ path_bytes 4 path → spelled_path bytes ≡ path → 0 < length bytes → (s : PathSegment) × (rest : List PathSegment) × IsFirst bytes s rest
first_is bytes [] f w e pos = absurd (omega (arith, pos, ap length w))
first_is bytes (s ∷ path) f w e pos = (
  s,
  path,
  record {
    path_is = e;
    segment = f.0;
    kind = ap (λ (t : List ℕ). get_or t 0 0) w;
    count = ap (λ (t : List ℕ). get_or t 1 0) w;
    parts = ap (drop 2) w;
    fits = f.1;
    long = ap length w ∙ omega (arith, length-append (flat_map (big_bytes 4) s.numbers) (path_bytes 4 path), length_numbers 4 s.numbers);
  },
)

pub first_segment : (bytes : List ℕ) → IsSpelled bytes → 0 < length bytes → (s : PathSegment) × (rest : List PathSegment) × IsFirst bytes s rest
first_segment bytes h pos = first_is bytes (spelled_path bytes) h.fits h.written refl pos

pub numbers_ahead : (ns rest : List ℕ) → AllByRecursion (λ n. n < 256 ^ 4) ns → numbers_in 4 (length ns) (flat_map (big_bytes 4) ns ++ rest) ≡ ns
numbers_ahead [] rest fit = refl
numbers_ahead (n ∷ ns) rest fit =
    let behind : List ℕ = flat_map (big_bytes 4) ns ++ rest in
    ap (numbers_in 4 (suc (length ns))) (append_assoc (big_bytes 4 n) (flat_map (big_bytes 4) ns) rest)
    ∙ (λ i. big_number-reads_back 4 n behind fit.0 i ∷ (ap (numbers_in 4 (length ns)) (drop_at (big_bytes 4 n) behind 4 (length-bytes_high_first 4 n)) ∙ numbers_ahead ns rest fit.1) i)

pub behind_numbers : (ns rest : List ℕ) → drop (length ns * 4) (flat_map (big_bytes 4) ns ++ rest) ≡ rest
behind_numbers ns rest = drop_at (flat_map (big_bytes 4) ns) rest (length ns * 4) (length_numbers 4 ns)

number_of_set : (kind : SegmentKind) → is_set_number (kind_number kind) ≡ is_set kind
number_of_set AsSet = refl
number_of_set AsSequence = refl
number_of_set ConfedSequence = refl
number_of_set ConfedSet = refl

-- the numbers behind the head of the first segment
pub record AreBehindHead (bytes : List ℕ) (count : ℕ) (octets : List ℕ) : Type 0 where
  pub long : 2 ≤ length bytes
  pub some : 0 < count
  pub cursor : IsCursor count octets
  pub behind : IsCursor 0 (drop (count * 4) octets)
  pub set : is_set_number (get_or bytes 0 0) ≡ true → positions (spelled_path bytes) ≡ numbers_in 4 count octets ∷ positions_left 0 (drop (count * 4) octets)
  pub sequence : is_set_number (get_or bytes 0 0) ≡ false → positions (spelled_path bytes) ≡ positions_left count octets

positions_of_set : (s : PathSegment) (path : List PathSegment) → is_set s.kind ≡ true → positions (s ∷ path) ≡ s.numbers ∷ positions path
positions_of_set s path h = ap (λ (b : Bool). cond b (s.numbers ∷ []) (map alone s.numbers) ++ positions path) h

positions_of_sequence : (s : PathSegment) (path : List PathSegment) → is_set s.kind ≡ false → positions (s ∷ path) ≡ map alone s.numbers ++ positions path
positions_of_sequence s path h = ap (λ (b : Bool). cond b (s.numbers ∷ []) (map alone s.numbers) ++ positions path) h

head_of : (bytes : List ℕ) (s : PathSegment) (path : List PathSegment) → IsFirst bytes s path → AreBehindHead bytes (get_or bytes 1 0) (drop 2 bytes)
unfolding positions_left
head_of bytes s path f =
    let count : ℕ = get_or bytes 1 0 in
    let octets : List ℕ = drop 2 bytes in
    let numbers : numbers_in 4 count octets ≡ s.numbers = (λ i. numbers_in 4 (f.count i) (f.parts i)) ∙ numbers_ahead s.numbers (path_bytes 4 path) f.segment.numbers in
    let behind : drop (count * 4) octets ≡ path_bytes 4 path = (λ i. drop (f.count i * 4) (f.parts i)) ∙ behind_numbers s.numbers (path_bytes 4 path) in
    let rest : spelled_path (drop (count * 4) octets) ≡ path = ap spelled_path behind ∙ spelled_path-bytes path f.fits in
    let spelled : IsSpelled (drop (count * 4) octets) = subst IsSpelled (sym behind) (spelled-bytes path f.fits) in
    let kind : is_set_number (get_or bytes 0 0) ≡ is_set s.kind = ap is_set_number f.kind ∙ number_of_set s.kind in
    record {
      long = omega (arith, f.long);
      some = omega (arith, f.count, f.segment.nonempty);
      cursor = record { room = omega (arith, f.long, f.count, length-drop 2 bytes); spelled = spelled };
      behind = record { room = omega arith; spelled = spelled };
      set = λ h. ap positions f.path_is ∙ positions_of_set s path (sym kind ∙ h) ∙ (λ i. sym numbers i ∷ positions (sym rest i));
      sequence = λ h. ap positions f.path_is ∙ positions_of_sequence s path (sym kind ∙ h) ∙ (λ i. map alone (sym numbers i) ++ positions (sym rest i));
    }

pub behind_head : (bytes : List ℕ) → IsSpelled bytes → 0 < length bytes → AreBehindHead bytes (get_or bytes 1 0) (take (length bytes - 2) (drop 2 bytes))
behind_head bytes h pos =
    let f = first_segment bytes h pos in
    subst (AreBehindHead bytes (get_or bytes 1 0)) (sym (take_rest bytes 2)) (head_of bytes f.0 f.1 f.2)

-- ---- the end

none_left : (bytes : List ℕ) → IsSpelled bytes → length bytes ≡ 0 → positions (spelled_path bytes) ≡ []
none_left bytes h e = by_path (spelled_path bytes) h.written
  where
    by_path : (path : List PathSegment) → bytes ≡ path_bytes 4 path → positions path ≡ []
    by_path [] w = refl
    by_path (x ∷ xs) w = absurd (omega (arith, e, ap length w))

some_position : (s : PathSegment) (path : List PathSegment) → 0 < length s.numbers → is_nil (positions (s ∷ path)) ≡ false
some_position s path pos =
    elim (is_set s.kind) as (λ b. is_nil (cond b (s.numbers ∷ []) (map alone s.numbers) ++ positions path) ≡ false) [
      | true ↦ refl
      | false ↦ by_numbers s.numbers pos
    ]
  where
    by_numbers : (ns : List ℕ) → 0 < length ns → is_nil (map alone ns ++ positions path) ≡ false
    by_numbers [] lt = absurd (omega (arith, lt))
    by_numbers (n ∷ ns) lt = refl

end_test : (bytes : List ℕ) → IsSpelled bytes → eqb (length bytes) 0 ≡ is_nil (positions (spelled_path bytes))
end_test bytes h = by_path (spelled_path bytes) h.fits h.written
  where
    by_path : (path : List PathSegment) → IsPath 4 path → bytes ≡ path_bytes 4 path → eqb (length bytes) 0 ≡ is_nil (positions path)
    by_path [] f w = ap (λ (t : List ℕ). eqb (length t) 0) w
    by_path (s ∷ path) f w = ne_eqb (length bytes) 0 (λ e. omega (arith, e, ap length w)) ∙ sym (some_position s path f.0.nonempty)

-- where no number of a sequence is left
pub segments_left : (left : ℕ) (bytes : List ℕ) (ps : List (List ℕ)) → positions_left left bytes ≡ ps → left ≤ 0 → positions (spelled_path bytes) ≡ ps
segments_left left bytes ps view le =
    let none : 0 ≡ left = omega (arith, le) in
    sym (none_left_of_sequence bytes) ∙ ap (λ (n : ℕ). positions_left n bytes) none ∙ view

pub segments_spelled : (left : ℕ) (bytes : List ℕ) → IsCursor left bytes → left ≤ 0 → IsSpelled bytes
segments_spelled left bytes h le =
    let none : left ≡ 0 = omega (arith, le) in subst (λ (n : ℕ). IsSpelled (drop (n * 4) bytes)) none h.spelled

pub at_end : (left : ℕ) (bytes : List ℕ) (ps : List (List ℕ)) → positions_left left bytes ≡ ps → IsCursor left bytes → left ≤ 0 → eqb (length bytes) 0 ≡ is_nil ps
at_end left bytes ps view h le = end_test bytes (segments_spelled left bytes h le) ∙ ap is_nil (segments_left left bytes ps view le)

pub not_at_end : (left : ℕ) (bytes : List ℕ) (ps : List (List ℕ)) → positions_left left bytes ≡ ps → (left ≡ 0 → ⊥) → eqb left 0 ≡ is_nil ps
not_at_end left bytes ps view ne =
    ne_eqb left 0 ne ∙ ap is_nil (sym (one_number_less left bytes (omega (arith, ne)))) ∙ ap is_nil view

pub none_at_end : (left : ℕ) (bytes : List ℕ) (ps : List (List ℕ)) → positions_left left bytes ≡ ps → IsCursor left bytes → left ≤ 0 → eqb (length bytes) 0 ≡ true → ps ≡ []
none_at_end left bytes ps view h le e =
    sym (segments_left left bytes ps view le) ∙ none_left bytes (segments_spelled left bytes h le) (eqb-true (length bytes) 0 e)

-- a position and the positions behind it, as they are kept
pub kept_parts : (now before : List (List ℕ)) (r first : List ℕ × List (List ℕ)) (rest : List (List ℕ)) → before ≡ now → before ≡ r.0 ∷ r.1 → first ≡ r → rest ≡ first.1 → now ≡ first.0 ∷ rest
kept_parts now before r first rest view parts is kept = sym view ∙ parts ∙ (λ i. (sym is i).0 ∷ (ap (λ (x : List ℕ × List (List ℕ)). x.1) (sym is) ∙ sym kept) i)

-- ---- the path of a packed route

pub record IsPathValue (path : Option (List PathSegment)) (bytes : List ℕ) : Type 0 where
  pub spelled : IsSpelled bytes
  pub path_is : path ≡ Some (spelled_path bytes)

value_of_path : (path : Option (List PathSegment)) (bytes : List ℕ) → IfSome path (IsPath 4) → Some bytes ≡ option_map (path_bytes 4) path → IsPathValue path bytes
value_of_path None bytes h e = absurd cc
value_of_path (Some path) bytes h e =
    let is : bytes ≡ path_bytes 4 path = cc in
    record {
      spelled = subst IsSpelled (sym is) (spelled-bytes path h);
      path_is = ap (λ (p : List PathSegment). Some p) (sym (ap spelled_path is ∙ spelled_path-bytes path h));
    }

pub path_value : (route : Route) (packed bytes : List ℕ) → route ≡ unpacked packed → IsPacked packed → Some bytes ≡ option_map (path_bytes 4) route.path → IsPathValue route.path bytes
path_value route packed bytes is h e = value_of_path route.path bytes (subst (λ (r : Route). IfSome r.path (IsPath 4)) (sym is) h.fits.path) e
