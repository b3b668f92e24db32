use Rattle.std.proofs.Common.{◌≡◌, ◌∷◌, ◌++◌, map, length, ap, ◌∙◌, decimal, arith}
use Rattle.std.specs.List.{flat_map, between, join_with_byte}
use Rattle.report_lines.proofs.TextLaws.{Adds_trans, Adds_as}
use Rattle.report_lines.proofs.JoinLaws.{Adds_joined, join_all}
use Rattle.report_lines.proofs.numbers.put_segment_numbers.Goals as goal

pub loop-done-preserved : goal.loop-done-preserved
loop-done-preserved g c = record {
  begun = omega (arith, c.loop-done.invariant.begun);
  within = omega arith;
  written = Adds_joined c.args.separator decimal c.args.segment.now.numbers c.min-done.result c.loop-done.done c.min-next.result c.loop-done.invariant.begun (omega arith) (omega arith) c.loop-done.invariant.written c.put_some_numbers-in-loop-done.ensures;
}

pub returns : goal.returns
returns g c =
    let numbers = c.args.segment.now.numbers in
    let ends : c.loop-done.done ≡ length numbers = omega (arith, c.loop-done.invariant.within) in
    let text = ap (λ k. join_with_byte c.args.separator (map decimal (between 0 c.min-done.result numbers)) ++ flat_map (λ m. c.args.separator ∷ decimal m) (between c.min-done.result k numbers)) ends
    ∙ join_all c.args.separator decimal numbers c.min-done.result (omega arith) (omega arith) in
    Adds_as (ap (λ l. c.args.before ∷ l) text) (Adds_trans c.put_some_numbers.ensures c.loop-done.invariant.written)
