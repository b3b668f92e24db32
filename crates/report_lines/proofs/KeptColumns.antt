-- The columns of attributes that are asked for.
use Rattle.std.proofs.Common.{◌≡◌, ℕ, suc, ◌*◌, ◌/◌, ◌≤◌, ◌∷◌, ◌++◌, List, [], Bool, true, sym, ap, ◌∙◌, subst, refl, append_assoc, append-nil, length, take, drop, map, arith, length-drop}
use Rattle.std.proofs.lemmas.Bool.{eqb-true}
use Rattle.std.proofs.Math.Nat.{div-mul-le_self}
use Rattle.std.specs.List.{flat_map}
use Rattle.bgp_update.specs.declared.kept_attribute.AttributeSet.{AttributeSet}
use Rattle.bgp_update.specs.declared.kept_attribute.KeptAttribute.{KeptAttribute}
use Rattle.bgp_update.specs.KeptAttributes.{KeptValue, is_empty, kept_form}
use Rattle.std.specs.List.{join_with_byte}
use Rattle.std.specs.Prelude.{decimal, slice_index}
use Rattle.byteorder.specs.Endian.{big_number}
use Rattle.ip_text.specs.Digits.{ipv4_text}
use Rattle.report_lines.specs.Texts.{TextState, Adds}
use Rattle.report_request.specs.declared.format.Format.{Format}
use Rattle.report_request.specs.declared.format.Format.TheVariants.{Text, Json}
use Rattle.report_lines.specs.Cells.{Cell}
use Rattle.report_lines.specs.KeptTexts.{administrated_text, kept_text, members_in, shown_member}
use Rattle.report_lines.proofs.TextLaws.{Adds_as, Adds_none, Adds_trans}
use Rattle.report_lines.proofs.JoinLaws.{join-cons}
use Rattle.report_lines.specs.LineParts.{cells_behind, end_as, line_end}
use Rattle.report_lines.proofs.RowLines.{cells_behind-append}

-- each attribute's cells behind those before, or all of them
pub behind_each : (format : Format) (f : KeptAttribute → List Cell) (attributes : List KeptAttribute)
    → flat_map (λ a. cells_behind format (f a)) attributes ≡ cells_behind format (flat_map f attributes)
behind_each Text f [] = refl
behind_each Json f [] = refl
behind_each format f (a ∷ attributes) =
    ap (λ l. cells_behind format (f a) ++ l) (behind_each format f attributes) ∙ cells_behind-append format (f a) (flat_map f attributes)

-- where none is asked for there is no column
pub no_columns : (format : Format) (asked : AttributeSet) (kept : List KeptValue) → is_empty asked ≡ true → line_end format asked kept ≡ end_as format
no_columns Text asked kept none = subst (λ (n : ℕ). line_end Text (record { bits = n }) kept ≡ 10 ∷ []) (sym (eqb-true asked.bits 0 none)) refl
no_columns Json asked kept none = subst (λ (n : ℕ). line_end Json (record { bits = n }) kept ≡ 125 ∷ 10 ∷ []) (sym (eqb-true asked.bits 0 none)) refl

-- ---- members

-- extended communities by their types
pub of_two_octet_as : (name m : List ℕ) {asn number : ℕ} → slice_index m 0 ≡ 0 → asn ≡ big_number 2 (drop 2 m) → number ≡ big_number 4 (drop 4 m) → name ++ (decimal asn ++ 58 ∷ decimal number) ≡ administrated_text name m
of_two_octet_as name m type a n = rw (type, a, n) refl

pub of_address : (name m : List ℕ) {addr number : ℕ} → slice_index m 0 ≡ 1 → addr ≡ big_number 4 (drop 2 m) → number ≡ big_number 2 (drop 6 m) → name ++ (ipv4_text addr ++ 58 ∷ decimal number) ≡ administrated_text name m
of_address name m type a n = rw (type, a, n) refl

pub of_four_octet_as : (name m : List ℕ) {asn number : ℕ} → slice_index m 0 ≡ 2 → asn ≡ big_number 4 (drop 2 m) → number ≡ big_number 2 (drop 6 m) → name ++ (decimal asn ++ 58 ∷ decimal number) ≡ administrated_text name m
of_four_octet_as name m type a n = rw (type, a, n) refl

-- members, each behind a byte
abbrev pub spaced : Bool → ℕ → KeptAttribute → List (List ℕ) → List ℕ
spaced quotes separator a ms = flat_map (λ m. separator ∷ shown_member quotes a m) ms

-- Of so many members of a value, each behind a byte, some are written, and so many are left in the rest.
pub record HasWritten (quotes : Bool) (separator : ℕ) (a : KeptAttribute) (s t : TextState) (count size : ℕ) (value : List ℕ) (left : ℕ) (rest : List ℕ) : Type 0 where
  pub written : List ℕ
  pub adds : Adds s t written
  pub whole : spaced quotes separator a (members_in count size value) ≡ written ++ spaced quotes separator a (members_in left size rest)
  pub room : left * size ≤ length rest

pub written_none : (quotes : Bool) (separator : ℕ) (a : KeptAttribute) (s : TextState) (count size : ℕ) (value : List ℕ) → count * size ≤ length value → HasWritten quotes separator a s s count size value count value
written_none quotes separator a s count size value room = record { written = []; adds = Adds_none; whole = refl; room = room }

pub written_more : {quotes : Bool} {separator : ℕ} {a : KeptAttribute} {s t u : TextState} {count size before left : ℕ} {value rest behind : List ℕ} → HasWritten quotes separator a s t count size value before rest → before ≡ suc left → behind ≡ drop size rest
    → Adds t u (separator ∷ shown_member quotes a (take size rest)) → HasWritten quotes separator a s u count size value left behind
written_more {quotes = quotes} {separator = separator} {a = a} {size = size} {left = left} {rest = rest} {behind = behind} h less rest_is one =
    let some : spaced quotes separator a (members_in (suc left) size rest) ≡ (separator ∷ shown_member quotes a (take size rest)) ++ spaced quotes separator a (members_in left size behind) = ap (λ r. (separator ∷ shown_member quotes a (take size rest)) ++ spaced quotes separator a (members_in left size r)) (sym rest_is) in
    record {
      written = h.written ++ separator ∷ shown_member quotes a (take size rest);
      adds = Adds_trans h.adds one;
      whole = h.whole ∙ ap (λ n. h.written ++ spaced quotes separator a (members_in n size rest)) less ∙ ap (λ l. h.written ++ l) some ∙ sym (append_assoc h.written (separator ∷ shown_member quotes a (take size rest)) (spaced quotes separator a (members_in left size behind)));
      room = (let room : suc left * size ≤ length rest = subst (λ n. n * size ≤ length rest) less h.room in omega (arith, room, ap length rest_is, length-drop size rest));
    }

pub written_all : {quotes : Bool} {separator : ℕ} {a : KeptAttribute} {s t : TextState} {count size left : ℕ} {value rest : List ℕ} → HasWritten quotes separator a s t count size value left rest → left ≡ 0 → Adds s t (spaced quotes separator a (members_in count size value))
written_all {quotes = quotes} {separator = separator} {a = a} {size = size} {rest = rest} h none = Adds_as (sym (h.whole ∙ ap (λ n. h.written ++ spaced quotes separator a (members_in n size rest)) none ∙ append-nil h.written)) h.adds

-- the first member, and the others behind a byte each
pub value_in_parts : (quotes : Bool) (separator : ℕ) (a : KeptAttribute) (value rest : List ℕ) (size more : ℕ) → size ≡ (kept_form a).size → length value / size ≡ suc more → rest ≡ drop size value
    → shown_member quotes a (take size value) ++ spaced quotes separator a (members_in more size rest) ≡ kept_text quotes separator a value
value_in_parts quotes separator a value rest size more size_is e rest_is =
    ap (λ r. shown_member quotes a (take size value) ++ spaced quotes separator a (members_in more size r)) rest_is
    ∙ sym (join-cons separator (shown_member quotes a) (take size value) (members_in more size (drop size value)))
    ∙ ap (λ n. join_with_byte separator (map (shown_member quotes a) (members_in n size value))) (sym e)
    ∙ ap (λ n. join_with_byte separator (map (shown_member quotes a) (members_in (length value / n) n value))) size_is

-- members behind the first one have room behind it
pub others_fit : (size : ℕ) (value rest : List ℕ) (more : ℕ) → length value / size ≡ suc more → rest ≡ drop size value → more * size ≤ length rest
others_fit size value rest more e rest_is =
    let all : suc more * size ≤ length value = subst (λ n. n * size ≤ length value) e (div-mul-le_self (length value) size) in
    omega (arith, all, ap length rest_is, length-drop size value)
