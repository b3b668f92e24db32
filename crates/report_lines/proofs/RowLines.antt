-- Lines in the parts in which they are written.
use Rattle.std.proofs.Common.{◌≡◌, List, ℕ, ◌∷◌, ◌++◌, refl, sym, ap, ◌∙◌, [], append_assoc, append-nil, length, ◌<◌, arith}
use Rattle.std.proofs.lemmas.List.{map-append}
use Rattle.std.specs.List.{join_with_byte}
use Rattle.std.proofs.lemmas.List.Concat.{flat_map-append}
use Rattle.bgp_update.specs.declared.kept_attribute.AttributeSet.{AttributeSet}
use Rattle.bgp_update.specs.declared.route.Route.{Route}
use Rattle.bgp_update.specs.KeptAttributes.{KeptValue}
use Rattle.report_request.specs.declared.format.Format.{Format}
use Rattle.report_request.specs.declared.format.Format.TheVariants.{Text, Json}
use Rattle.report_request.specs.Columns.{column_keys}
use Rattle.report_request.specs.Plain.{Layout}
use Rattle.bgp_prefix.specs.Keys.{RouteKey}
use Rattle.peer_units.specs.declared.unit.PeerKey.{PeerKey}
use Rattle.report_request.specs.declared.column.Key.{Key}
use Rattle.report_lines.specs.Cells.{Cell, all_members, fields, fields_of, line_by, member, members, texts}
use Rattle.report_lines.specs.Fields.{field}
use Rattle.report_lines.specs.KeptTexts.{kept_cells}
use Rattle.report_lines.specs.RouteLines.{attribute_cells, entry_cells, key_cell, key_text, path_cell, path_text, peer_cell, peer_text}
use Rattle.report_lines.specs.LineParts.{attribute_fields, behind, cells_behind, end_as, line_beginning, line_end, line_front}

-- ---- pieces with a byte between them

-- pieces, and others behind them
join_behind : (separator : ℕ) (x : List ℕ) (xs ys : List (List ℕ))
    → join_with_byte separator ((x ∷ xs) ++ ys) ≡ join_with_byte separator (x ∷ xs) ++ behind separator ys
join_behind separator x [] [] = sym (append-nil x)
join_behind separator x [] (y ∷ ys) = ap (λ l. x ++ separator ∷ l) (join_behind separator y [] ys)
join_behind separator x (z ∷ xs) ys =
    ap (λ l. x ++ separator ∷ l) (join_behind separator z xs ys)
    ∙ sym (append_assoc x (separator ∷ join_with_byte separator (z ∷ xs)) (behind separator ys))

-- pieces behind a byte each
pub behind_joined : (separator : ℕ) (x : List ℕ) (xs : List (List ℕ))
    → separator ∷ join_with_byte separator (x ∷ xs) ≡ behind separator (x ∷ xs)
behind_joined separator x xs = ap (λ l. separator ∷ l) (join_behind separator x [] xs)

pub all_behind : (separator : ℕ) (xs : List (List ℕ)) → 0 < length xs → separator ∷ join_with_byte separator xs ≡ behind separator xs
all_behind separator [] some = absurd (omega (arith, some))
all_behind separator (x ∷ xs) some = behind_joined separator x xs

-- ---- cells

all_members-append : (cells more : List Cell) → all_members (cells ++ more) ≡ all_members cells ++ all_members more
all_members-append cells more =
    ap members (flat_map-append (λ (c : Cell). fields_of (column_keys c.column) c.values) cells more)
    ∙ map-append (λ (f : Key × List ℕ). member f.0 f.1) (fields cells) (fields more)

texts-append : (cells more : List Cell) → texts (cells ++ more) ≡ texts cells ++ texts more
texts-append cells more = map-append (λ (c : Cell). c.text) cells more

pub cells_behind-append : (format : Format) (cells more : List Cell)
    → cells_behind format cells ++ cells_behind format more ≡ cells_behind format (cells ++ more)
cells_behind-append Text cells more =
    sym (ap (behind 124) (texts-append cells more) ∙ flat_map-append (λ (p : List ℕ). 124 ∷ p) (texts cells) (texts more))
cells_behind-append Json cells more =
    sym (ap (behind 44) (all_members-append cells more)
    ∙ flat_map-append (λ (p : List ℕ). 44 ∷ p) (all_members cells) (all_members more))

-- cells, others behind them, and the end
line_in_two : (format : Format) (front back : List Cell) (t m : List ℕ) (ts ms : List (List ℕ))
    → texts front ≡ t ∷ ts → all_members front ≡ m ∷ ms
    → line_front format front ++ (cells_behind format back ++ end_as format) ≡ line_by format (front ++ back)
line_in_two Text front back t m ts ms fields objects =
    sym (append_assoc (join_with_byte 124 (texts front)) (behind 124 (texts back)) (10 ∷ []))
    ∙ ap (λ l. l ++ 10 ∷ []) (
    ap (λ l. join_with_byte 124 l ++ behind 124 (texts back)) fields ∙ sym (join_behind 124 t ts (texts back))
    ∙ ap (λ l. join_with_byte 124 (l ++ texts back)) (sym fields) ∙ ap (join_with_byte 124) (sym (texts-append front back)))
line_in_two Json front back t m ts ms fields objects =
    ap (λ l. 123 ∷ l) (sym (append_assoc (join_with_byte 44 (all_members front)) (behind 44 (all_members back)) (125 ∷ 10 ∷ []))
    ∙ ap (λ l. l ++ 125 ∷ 10 ∷ []) (
    ap (λ l. join_with_byte 44 l ++ behind 44 (all_members back)) objects ∙ sym (join_behind 44 m ms (all_members back))
    ∙ ap (λ l. join_with_byte 44 (l ++ all_members back)) (sym objects)
    ∙ ap (join_with_byte 44) (sym (all_members-append front back))))

-- cells, others behind them, and at last the columns of attributes with the end of the line
pub line_in_parts : (format : Format) (front middle : List Cell) (asked : AttributeSet) (kept : List KeptValue)
    (t m : List ℕ) (ts ms : List (List ℕ)) → texts front ≡ t ∷ ts → all_members front ≡ m ∷ ms
    → line_front format front ++ (cells_behind format middle ++ line_end format asked kept)
    ≡ line_by format (front ++ (middle ++ kept_cells asked kept))
line_in_parts format front middle asked kept t m ts ms fields objects =
    ap (λ l. line_front format front ++ l) (
    sym (append_assoc (cells_behind format middle) (cells_behind format (kept_cells asked kept)) (end_as format))
    ∙ ap (λ l. l ++ end_as format) (cells_behind-append format middle (kept_cells asked kept)))
    ∙ line_in_two format front (middle ++ kept_cells asked kept) t m ts ms fields objects

-- ---- routes

-- what text has behind the key
pub text_behind_key : (layout : Layout) (route : Route)
    → (124 ∷ field path_text route.path) ++ (attribute_fields layout route ++ line_end Text layout.attributes route.kept)
    ≡ cells_behind Text (path_cell route.path ∷ attribute_cells layout route) ++ line_end Text layout.attributes route.kept
text_behind_key layout route =
    let path = 124 ∷ field path_text route.path in
    let end = line_end Text layout.attributes route.kept in
    ap (λ l. path ++ (l ++ end)) (all_behind 124 (texts (attribute_cells layout route)) (omega arith))
    ∙ sym (append_assoc path (cells_behind Text (attribute_cells layout route)) end)

pub text_row_in_parts : (layout : Layout) (peer : PeerKey) (key : RouteKey) (route : Route)
    → line_beginning (record { key = peer; layout = layout }) key
    ++ ((124 ∷ field path_text route.path)
    ++ (attribute_fields layout route ++ line_end Text layout.attributes route.kept))
    ≡ line_by Text (entry_cells layout peer key route)
text_row_in_parts layout peer key route =
    let middle = path_cell route.path ∷ attribute_cells layout route in
    let end = line_end Text layout.attributes route.kept in
    ap (λ l. line_beginning (record { key = peer; layout = layout }) key ++ l) (text_behind_key layout route)
    ∙ ap (λ l. l ++ (cells_behind Text middle ++ end)) (append_assoc (peer_text layout peer) (124 ∷ []) (key_text layout key))
    ∙ line_in_parts Text (peer_cell layout peer ∷ key_cell layout key ∷ []) middle layout.attributes route.kept _ _ _ _ refl refl

-- ---- JSON

pub attributes_in_json : (layout : Layout) (route : Route)
    → 44 ∷ join_with_byte 44 (all_members (attribute_cells layout route)) ≡ cells_behind Json (attribute_cells layout route)
attributes_in_json layout route = all_behind 44 (all_members (attribute_cells layout route)) (omega arith)

-- what JSON has behind the key
pub json_behind_key : (layout : Layout) (route : Route)
    → cells_behind Json (path_cell route.path ∷ []) ++ (cells_behind Json (attribute_cells layout route) ++ line_end Json layout.attributes route.kept)
    ≡ cells_behind Json (path_cell route.path ∷ attribute_cells layout route) ++ line_end Json layout.attributes route.kept
json_behind_key layout route =
    sym (append_assoc (cells_behind Json (path_cell route.path ∷ [])) (cells_behind Json (attribute_cells layout route)) (line_end Json layout.attributes route.kept))
    ∙ ap (λ l. l ++ line_end Json layout.attributes route.kept) (cells_behind-append Json (path_cell route.path ∷ []) (attribute_cells layout route))

pub json_row_in_parts : (layout : Layout) (peer : PeerKey) (key : RouteKey) (route : Route)
    → line_front Json (peer_cell layout peer ∷ key_cell layout key ∷ [])
    ++ (cells_behind Json (path_cell route.path ∷ attribute_cells layout route) ++ line_end Json layout.attributes route.kept)
    ≡ line_by Json (entry_cells layout peer key route)
json_row_in_parts layout peer key route =
    line_in_parts Json (peer_cell layout peer ∷ key_cell layout key ∷ []) (path_cell route.path ∷ attribute_cells layout route)
    layout.attributes route.kept _ _ _ _ refl refl
