use Rattle.std.proofs.Common.{◌∷◌, sym, ap, List, ℕ, ◌∙◌}
use Rattle.std.specs.List.{flat_map}
use Rattle.report_lines.proofs.TextLaws.{Adds_trans, Adds_as, Adds_none}
use Rattle.report_lines.proofs.JoinLaws.{join-cons}
use Rattle.bgp_update.specs.Paths.{PathSegment}
use Rattle.report_lines.specs.RouteLines.{kind_text, path_text}
use Rattle.report_lines.proofs.route_line.put_segments.Goals as goal

abbrev text : PathSegment → List ℕ
text s = kind_text s.kind s.numbers

abbrev behind : PathSegment → List ℕ
behind s = 32 ∷ text s

pub loop-segment-preserved : goal.loop-segment-preserved
loop-segment-preserved g c = λ end later.
    c.loop-segment.invariant end (Adds_as (ap (flat_map behind) (sym c.in-Some-next.ensures)) (Adds_trans c.put_later_segment.ensures later))

pub returns-in_default : goal.returns-in_default
returns-in_default g c = Adds_as (ap (λ p. c.args.before ∷ path_text p) (sym c.in_default.ensures)) c.put.ensures

pub returns : goal.returns
returns g c =
    let none = Adds_as (ap (flat_map behind) (sym c.in_default-next.ensures)) Adds_none in
    let whole = ap (λ l. c.args.before ∷ l) (sym (join-cons 32 text c.in-Some.first c.next.new.self) ∙ ap path_text (sym c.in-Some.ensures)) in
    Adds_as whole (Adds_trans c.put_segment.ensures (c.loop-segment.invariant _ none))
