use Rattle.std.proofs.Common.{◌≤◌, ◌∙◌, arith}
use Rattle.route_choice.proofs.CursorLaws.{at_end, not_at_end}
use Rattle.route_choice.proofs.cursor.PathCursor.is_end.Goals as goal

pub returns-then-self-eq0 : goal.returns-then-self-eq0
returns-then-self-eq0 c =
    let none : c.self.inside.left ≤ 0 = omega (arith, c.if-self-eq0.true) in
    c.is_empty.ensures ∙ at_end c.self.inside.left c.self.inside.bytes.now c.args.self.now c.self.view_is c.self.invariant none

pub returns-else-self-eq0 : goal.returns-else-self-eq0
returns-else-self-eq0 c = not_at_end c.self.inside.left c.self.inside.bytes.now c.args.self.now c.self.view_is c.if-self-eq0.false
