-- The parts in which lines are written.
use Rattle.std.specs.Prelude.{ℕ, List, [], ◌∷◌, ◌++◌, Option, Some, None}
use Rattle.std.specs.List.{flat_map, join_with_byte}
use Rattle.bgp_prefix.specs.Keys.{RouteKey}
use Rattle.bgp_update.specs.declared.route.Route.{Route}
use Rattle.bgp_update.specs.declared.kept_attribute.AttributeSet.{AttributeSet}
use Rattle.bgp_update.specs.KeptAttributes.{KeptValue}
use Rattle.report_request.specs.declared.format.Format.{Format}
use Rattle.report_request.specs.declared.format.Format.TheVariants.{Text, Json}
use Rattle.report_request.specs.Plain.{Layout}
use Rattle.report_lines.specs.Cells.{Cell, all_members, texts}
use Rattle.report_lines.specs.Plain.{ShownPeer}
use Rattle.report_lines.specs.KeptTexts.{kept_cells}
use Rattle.report_lines.specs.RouteLines.{peer_text, key_text, attribute_cells, path_cell, no_route}

-- pieces, each behind a byte
abbrev pub behind : ℕ → List (List ℕ) → List ℕ
behind separator pieces = flat_map (λ p. separator ∷ p) pieces

-- what a line of this text, or of these members, begins with
abbrev pub front_as : Format → List ℕ → List ℕ → List ℕ
front_as Text text object = text
front_as Json text object = 123 ∷ object

-- what a line begins with
abbrev pub line_front : Format → List Cell → List ℕ
line_front format cells = front_as format (join_with_byte 124 (texts cells)) (join_with_byte 44 (all_members cells))

-- what it goes on with
abbrev pub cells_behind : Format → List Cell → List ℕ
cells_behind Text cells = behind 124 (texts cells)
cells_behind Json cells = behind 44 (all_members cells)

-- what it ends in
abbrev pub end_as : Format → List ℕ
end_as Text = 10 ∷ []
end_as Json = 125 ∷ 10 ∷ []

-- the columns of the attributes that are asked for, and the end of the line
abbrev pub line_end : Format → AttributeSet → List KeptValue → List ℕ
line_end format asked kept = cells_behind format (kept_cells asked kept) ++ end_as format

-- what the line of what happened has behind the key, its end included
abbrev pub listed_behind : Format → Layout → Option Route → List ℕ
listed_behind format layout None = cells_behind format no_route ++ line_end format layout.attributes []
listed_behind format layout (Some route) =
    cells_behind format (path_cell route.path ∷ attribute_cells layout route)
    ++ line_end format layout.attributes route.kept

-- ---- text

-- a peer, a bar and a key
abbrev pub line_beginning : ShownPeer → RouteKey → List ℕ
line_beginning peer key = (peer_text peer.layout peer.key ++ 124 ∷ []) ++ key_text peer.layout key

-- the fields that each route has behind the path
abbrev pub attribute_fields : Layout → Route → List ℕ
attribute_fields layout route = 124 ∷ join_with_byte 124 (texts (attribute_cells layout route))
