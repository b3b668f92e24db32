use Rattle.std.proofs.Common.{get_or}
use Rattle.std.proofs.lemmas.List.{get_or_default}
use Rattle.report_lines.specs.KeptTexts.{byte_digits}
use Rattle.report_lines.proofs.TextLaws.{Adds_trans}
use Rattle.report_lines.proofs.JoinLaws.{Adds_item, Adds_items}
use Rattle.report_lines.proofs.kept_columns.put_hexadecimal.Goals as goal

pub loop-byte-preserved : goal.loop-byte-preserved
loop-byte-preserved g c =
    let bytes = c.args.bytes.now in
    let i = c.loop-byte.byte-index in
    let byte = get_or bytes i 0 in
    Adds_item byte_digits bytes i byte c.loop-byte-test.true (get_or_default bytes i 0 byte c.loop-byte-test.true) c.loop-byte.invariant c.put.ensures

pub returns : goal.returns
returns g c = Adds_trans c.put_text.ensures (Adds_items byte_digits c.args.bytes.now c.loop-byte.byte-index c.loop-byte-test.false c.loop-byte.invariant)
