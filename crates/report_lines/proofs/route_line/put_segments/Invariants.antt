-- what adds the segments that are left, each behind a space, adds all of them
use Rattle.std.proofs.Common.{◌∷◌, length}
use Rattle.std.specs.List.{flat_map}
use Rattle.report_lines.specs.Texts.{TextState, Adds}
use Rattle.bgp_update.specs.Paths.{PathSegment}
use Rattle.report_lines.specs.RouteLines.{kind_text}
use Rattle.report_lines.proofs.route_line.put_segments.Given as goal

abbrev pub invariant-loop-segment : goal.invariant-loop-segment
invariant-loop-segment g l =
    (end : TextState) → Adds (g.T.Text.state l.text) end (flat_map (λ (s : PathSegment). 32 ∷ kind_text s.kind s.numbers) l.rest)
    → Adds (g.T.Text.state l.initial.text) end (flat_map (λ (s : PathSegment). 32 ∷ kind_text s.kind s.numbers) l.initial.rest)

abbrev pub decreases-loop-segment : goal.decreases-loop-segment
decreases-loop-segment g l = length l.rest
