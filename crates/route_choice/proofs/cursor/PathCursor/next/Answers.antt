use Rattle.std.proofs.Common.{◌∙◌, sym}
use Rattle.bgp_update.specs.Packing.{spelled_path}
use Rattle.route_choice.specs.Cursors.{positions_left}
use Rattle.route_choice.specs.Positions.{positions}
use Rattle.route_choice.proofs.CursorLaws.{none_at_end, segments_left, kept_parts}
use Rattle.route_choice.proofs.cursor.PathCursor.next.Goals as goal
use Rattle.route_choice.proofs.cursor.PathCursor.next.Goals.{then-self-gt0, else-self-gt0+else-is_empty}

pub returns-then-is_empty : goal.returns-then-is_empty
returns-then-is_empty c =
    none_at_end c.self.inside.left c.self.inside.bytes.now c.args.self.now c.self.view_is c.self.invariant c.if-self-gt0.false (sym c.is_empty.ensures ∙ c.if-is_empty.true)

pub returns : goal.returns
returns c =
    elim c.if-self-gt0.branch [
      | then-self-gt0 w ↦
          kept_parts c.args.self.now (positions_left c.self.inside.left c.self.inside.bytes.now) w.first_number.result c.if-self-gt0.first _ c.self.view_is w.first_number.ensures w.first-is c.self-2.view_is
      | else-self-gt0+else-is_empty w ↦
          kept_parts c.args.self.now (positions (spelled_path c.self.inside.bytes.now)) w.first_of.result c.if-self-gt0.first _
          (segments_left c.self.inside.left c.self.inside.bytes.now c.args.self.now c.self.view_is w.if-self-gt0.false) w.first_of.ensures w.first-is c.self-2.view_is
    ]
