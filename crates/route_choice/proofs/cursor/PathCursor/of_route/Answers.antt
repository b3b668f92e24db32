use Rattle.std.proofs.Common.{◌∙◌, List, ℕ, Some, ap, sym, arith}
use Rattle.std.specs.Prelude.{option_map}
use Rattle.route_choice.specs.Positions.{positions}
use Rattle.route_choice.proofs.CursorLaws.{none_left_of_sequence, path_value}
use Rattle.route_choice.proofs.cursor.PathCursor.of_route.Goals as goal

pub invariant_of-result : goal.invariant_of-result
invariant_of-result c =
    let value = path_value c.args.route.now c.as_bytes-packed.result.now c.in_ok-bytes.bytes.now c.as_bytes-packed.ensures.route c.as_bytes-packed.ensures.packed c.in_ok-bytes.ensures in
    record { room = omega arith; spelled = value.spelled }

pub returns : goal.returns
returns c =
    let value = path_value c.args.route.now c.as_bytes-packed.result.now c.in_ok-bytes.bytes.now c.as_bytes-packed.ensures.route c.as_bytes-packed.ensures.packed c.in_ok-bytes.ensures in
    ap (λ (ps : List (List ℕ)). Some ps) (none_left_of_sequence c.in_ok-bytes.bytes.now) ∙ sym (ap (option_map positions) value.path_is)
