use Rattle.std.proofs.Common.{◌≡◌, suc, ◌+◌, ◌-◌, ◌/◌, length, arith}
use Rattle.std.proofs.lemmas.List.{take_rest}
use Rattle.report_lines.proofs.TextLaws.{Adds_as, Adds_trans}
use Rattle.report_lines.proofs.KeptColumns.{others_fit, value_in_parts, written_all, written_more, written_none}
use Rattle.report_lines.proofs.kept_columns.put_value.Goals as goal

pub loop-i-init : goal.loop-i-init
loop-i-init g c =
    let value = c.args.value.now in
    let size = c.member_size-size.result in
    let more = length value / size - 1 in
    let some : length value / size ≡ suc more = omega (arith, c.if-count-eq0.false) in
    written_none c.args.quotes c.args.separator c.args.attribute (g.T.Text.state c.put_shown_member.new.text) more size _ (others_fit size value _ more some (take_rest value size))

pub loop-i-preserved : goal.loop-i-preserved
loop-i-preserved g c =
    let count = length c.args.value.now / c.member_size-size.result in
    let less : count - c.loop-i.i ≡ suc (count - (c.loop-i.i + 1)) = omega (arith, c.loop-i-test.true) in
    written_more c.loop-i.invariant less (take_rest c.loop-i.rest.now c.member_size-size.result) (Adds_trans c.put.ensures c.put_shown_member-in-loop-i.ensures)

pub returns : goal.returns
returns g c =
    let value = c.args.value.now in
    let size = c.member_size-size.result in
    let count = length value / size in
    let some : count ≡ suc (count - 1) = omega (arith, c.if-count-eq0.false) in
    Adds_as (value_in_parts c.args.quotes c.args.separator c.args.attribute value _ size (count - 1) c.member_size-size.ensures some (take_rest value size))
    (Adds_trans c.put_shown_member.ensures (written_all c.loop-i.invariant (omega (arith, c.loop-i-test.false))))
