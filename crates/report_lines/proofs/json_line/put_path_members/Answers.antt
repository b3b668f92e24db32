use Rattle.std.proofs.Common.{◌∷◌, ◌++◌, ap, append-nil, sym}
use Rattle.bgp_update.specs.Paths.{origin_as_of}
use Rattle.std.specs.Option.{option_and_then}
use Rattle.report_request.specs.declared.column.Key.TheVariants.{AsPath, OriginAsns}
use Rattle.report_lines.specs.Cells.{listed, member, one_or_none, or_null, quoted}
use Rattle.report_lines.specs.RouteLines.{path_text}
use Rattle.report_lines.proofs.TextLaws.{Adds_as, Adds_trans}
use Rattle.report_lines.proofs.json_line.put_path_members.Goals as goal

pub returns : goal.returns
returns g c =
    let path = c.args.route.now.path in
    let first = 44 ∷ member AsPath (or_null (λ p. quoted (path_text p)) path) in
    let second = 44 ∷ member OriginAsns (listed (one_or_none (option_and_then origin_as_of path))) in
    Adds_as (ap (λ l. first ++ l) (sym (append-nil second)))
    (Adds_trans (Adds_as (ap (λ p. 44 ∷ member AsPath (or_null (λ q. quoted (path_text q)) p)) c.path.ensures) c.put_path_member.ensures)
    (Adds_as (ap (λ o. 44 ∷ member OriginAsns (listed (one_or_none o))) c.origin_as.ensures) c.put_origin_member.ensures))
