use Rattle.std.proofs.Common.{◌≡◌, ◌∷◌, ◌++◌, ◌+◌, ap, ◌∙◌, get_or, decimal, arith}
use Rattle.std.specs.List.{flat_map, between}
use Rattle.ip_text.proofs.FormatLaws.{Formats_trans, Formats_as, Formats_within}
use Rattle.report_lines.proofs.JoinLaws.{Formats_later_item, join_first}
use Rattle.report_lines.proofs.numbers.format_numbers.Goals as goal

pub loop-i-preserved : goal.loop-i-preserved
loop-i-preserved c =
    Formats_within (omega arith) (Formats_later_item (λ n. c.args.separator ∷ decimal n) c.args.segment.now.numbers (c.args.from + 1) c.loop-i.i c.number-in-loop-i.result 0 (omega arith) (omega arith) c.number-in-loop-i.ensures c.loop-i.invariant c.format-end-in-loop-i.ensures)

pub returns : goal.returns
returns c =
    let numbers = c.args.segment.now.numbers in
    let ends : c.loop-i.i ≡ c.args.to = omega arith in
    let text = ap (λ n. decimal n ++ flat_map (λ m. c.args.separator ∷ decimal m) (between (c.args.from + 1) c.loop-i.i numbers)) c.number.ensures
    ∙ ap (λ k. decimal (get_or numbers c.args.from 0) ++ flat_map (λ m. c.args.separator ∷ decimal m) (between (c.args.from + 1) k numbers)) ends ∙ join_first c.args.separator decimal numbers c.args.from c.args.to 0 (omega arith) (omega arith) in
    Formats_within (omega arith) (Formats_as (ap (λ l. c.args.before ∷ l) text) (Formats_trans c.format-end.ensures c.loop-i.invariant))
