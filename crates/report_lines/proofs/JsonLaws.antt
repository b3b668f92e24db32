-- A line in JSON has the fields of one row alone.
use Rattle.std.proofs.Common.{◌≡◌, ℕ, inl, inr, List, [], ◌∷◌, ◌++◌, false, refl, sym, ap, ◌∙◌, map, append_assoc, length, get_or, drop, arith}
use Rattle.std.proofs.lemmas.List.{append_cancel_left}
use Rattle.std.specs.List.{AllByRecursion, join_with_byte}
use Rattle.report_request.specs.declared.column.Key.{Key}
use Rattle.report_request.specs.Columns.{key_name}
use Rattle.report_lines.specs.Cells.{member, members}
use Rattle.report_lines.specs.JsonValues.{IsValue, object_line, value_front}

abbrev Field : Type 0
Field = Key × List ℕ

-- what stands behind a member
abbrev rest_of : List Field → List ℕ
rest_of [] = 125 ∷ 10 ∷ []
rest_of (f ∷ fields) = 44 ∷ (member f.0 f.1 ++ rest_of fields)

joined : (f : Field) (fields : List Field)
    → join_with_byte 44 (members (f ∷ fields)) ++ 125 ∷ 10 ∷ [] ≡ member f.0 f.1 ++ rest_of fields
joined f [] = refl
joined f (g ∷ fields) =
    append_assoc (member f.0 f.1) (44 ∷ join_with_byte 44 (members (g ∷ fields))) (125 ∷ 10 ∷ [])
    ∙ ap (λ l. member f.0 f.1 ++ 44 ∷ l) (joined g fields)

-- a value and what stands behind its member are those of the other line
value_alone : (v : List ℕ) → IsValue v → (fields : List Field) → value_front false false (v ++ rest_of fields) ≡ v
value_alone v whole [] = whole 125 (10 ∷ []) (inr refl)
value_alone v whole (f ∷ fields) = whole 44 (member f.0 f.1 ++ rest_of fields) (inl refl)

behind_key : (k : Key) (v r w s : List ℕ) → member k v ++ r ≡ member k w ++ s → v ++ r ≡ w ++ s
behind_key k v r w s same =
    append_cancel_left (34 ∷ key_name k ++ 34 ∷ 58 ∷ []) (v ++ r) (w ++ s) (
    ap (λ l. 34 ∷ l) (append_assoc (key_name k) (34 ∷ 58 ∷ []) (v ++ r) ∙ sym (append_assoc (key_name k) (34 ∷ 58 ∷ v) r))
    ∙ same ∙ ap (λ l. 34 ∷ l) (append_assoc (key_name k) (34 ∷ 58 ∷ w) s ∙ sym (append_assoc (key_name k) (34 ∷ 58 ∷ []) (w ++ s))))

-- what stands behind the members of two lines with the same keys
rests_spell : (fields others : List Field) → map (λ f. f.0) fields ≡ map (λ f. f.0) others
    → AllByRecursion (λ f. IsValue f.1) fields → AllByRecursion (λ f. IsValue f.1) others
    → rest_of fields ≡ rest_of others → fields ≡ others
rests_spell [] [] keys whole others_whole same = refl
rests_spell [] (g ∷ others) keys whole others_whole same = absurd (omega (arith, ap length keys))
rests_spell (f ∷ fields) [] keys whole others_whole same = absurd (omega (arith, ap length keys))
rests_spell (f ∷ fields) (g ∷ others) keys whole others_whole same =
    let key : f.0 ≡ g.0 = ap (λ l. get_or l 0 f.0) keys in
    let members_same : member f.0 f.1 ++ rest_of fields ≡ member f.0 g.1 ++ rest_of others =
    append_cancel_left (44 ∷ []) (member f.0 f.1 ++ rest_of fields) (member g.0 g.1 ++ rest_of others) same
    ∙ ap (λ k. member k g.1 ++ rest_of others) (sym key) in
    let from_value : f.1 ++ rest_of fields ≡ g.1 ++ rest_of others = behind_key f.0 f.1 (rest_of fields) g.1 (rest_of others) members_same in
    let value : f.1 ≡ g.1 =
    sym (value_alone f.1 whole.0 fields) ∙ ap (value_front false false) from_value ∙ value_alone g.1 others_whole.0 others in
    let more : rest_of fields ≡ rest_of others =
    append_cancel_left g.1 (rest_of fields) (rest_of others) (ap (λ v. v ++ rest_of fields) (sym value) ∙ from_value) in
    ap (λ k. (k, f.1) ∷ fields) key ∙ ap (λ v. (g.0, v) ∷ fields) value
    ∙ ap (λ l. g ∷ l) (rests_spell fields others (ap (drop 1) keys) whole.1 others_whole.1 more)

pub lines_spell : (fields others : List Field) → map (λ f. f.0) fields ≡ map (λ f. f.0) others
    → AllByRecursion (λ f. IsValue f.1) fields → AllByRecursion (λ f. IsValue f.1) others
    → object_line fields ≡ object_line others → fields ≡ others
lines_spell [] [] keys whole others_whole same = refl
lines_spell [] (g ∷ others) keys whole others_whole same = absurd (omega (arith, ap length keys))
lines_spell (f ∷ fields) [] keys whole others_whole same = absurd (omega (arith, ap length keys))
lines_spell (f ∷ fields) (g ∷ others) keys whole others_whole same =
    rests_spell (f ∷ fields) (g ∷ others) keys whole others_whole (
    ap (λ l. 44 ∷ l) (sym (joined f fields) ∙ append_cancel_left (123 ∷ []) _ _ same ∙ joined g others))
