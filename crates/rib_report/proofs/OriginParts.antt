-- The line of origins in the parts in which it is written.
use Rattle.std.proofs.Common.{◌≡◌, List, ℕ, ◌∷◌, ◌++◌, sym, ap, ◌∙◌, [], append_assoc}
use Rattle.std.specs.Prelude.{codes}
use Rattle.bgp_prefix.specs.Prefixes.{IpPrefix}
use Rattle.report_request.specs.Plain.{Layout}
use Rattle.report_request.specs.declared.format.Format.TheVariants.{Json}
use Rattle.report_request.specs.declared.column.Key.TheVariants as key
use Rattle.report_lines.specs.Cells.{line_by, member, quoted}
use Rattle.report_lines.specs.Fields.{numbers_text}
use Rattle.report_lines.specs.RouteLines.{prefix_cell, prefix_text}
use Rattle.rib_report.specs.Lines.{origins_cell}

pub origins_in_json : (layout : Layout) (p : IpPrefix) (origins : List ℕ)
    → (123 ∷ member key.Prefix (quoted (prefix_text layout p))) ++ (codes ",\"origin_asns\":[" ++ (numbers_text 44 origins ++ codes "]}\n"))
    ≡ line_by Json (prefix_cell layout p ∷ origins_cell origins ∷ [])
origins_in_json layout p origins =
    let prefix = member key.Prefix (quoted (prefix_text layout p)) in
    let list = member key.OriginAsns (91 ∷ numbers_text 44 origins ++ 93 ∷ []) in
    sym (ap (λ l. 123 ∷ l) (append_assoc prefix (44 ∷ list) (125 ∷ 10 ∷ [])
    ∙ ap (λ l. prefix ++ (codes ",\"origin_asns\":[" ++ l)) (append_assoc (numbers_text 44 origins) (93 ∷ []) (125 ∷ 10 ∷ []))))
