use Rattle.std.proofs.Common.{◌∷◌, ap, sym}
use Rattle.report_request.specs.declared.column.Key.TheVariants.{OriginAsns}
use Rattle.report_lines.specs.Cells.{listed, member, one_or_none}
use Rattle.report_lines.proofs.TextLaws.{Adds_as, Adds_trans}
use Rattle.report_lines.proofs.json_line.put_origin_member.Goals as goal

pub returns-in-Some : goal.returns-in-Some
returns-in-Some g c =
    Adds_as (ap (λ o. 44 ∷ member OriginAsns (listed (one_or_none o))) (sym c.in-Some.is)) (Adds_trans c.put_text.ensures c.put.ensures)

pub returns-in-None : goal.returns-in-None
returns-in-None g c =
    Adds_as (ap (λ o. 44 ∷ member OriginAsns (listed (one_or_none o))) (sym c.in-None.is)) (Adds_trans c.put_text.ensures c.put-in-None.ensures)
