use Rattle.std.proofs.Common.{◌-◌, ◌*◌, ◌≤◌, ◌∙◌, List, ℕ, length, drop, ap, subst, sym, arith}
use Rattle.std.specs.List.{list_any}
use Rattle.std.proofs.lemmas.List.{take_rest, length-drop}
use Rattle.bgp_update.specs.Segments.{numbers_in}
use Rattle.route_choice.specs.Masks.{is_within}
use Rattle.route_choice.proofs.CursorLaws.{one_passed}
use Rattle.route_choice.proofs.cursor.Position.has_within.Goals as goal

pub loop-left-preserved : goal.loop-left-preserved
loop-left-preserved c =
    let left : ℕ = c.loop-left.left in
    let rest : List ℕ = c.loop-left.rest.now in
    let room : (left - 1) * 4 ≤ length (drop 4 rest) = omega (arith, c.loop-left.invariant.room, length-drop 4 rest) in
    record {
      room = subst (λ (t : List ℕ). (left - 1) * 4 ≤ length t) (sym (take_rest rest 4)) room;
      same =
          ap (λ (t : List ℕ). list_any (is_within c.args.first c.args.last) (numbers_in 4 (left - 1) t)) (take_rest rest 4)
          ∙ one_passed c.args.first c.args.last left rest c.read_u32-number.result c.loop-left-test.true c.read_u32-number.ensures c.else-first-number.either
          ∙ c.loop-left.invariant.same;
    }
