-- the digits so far
use Rattle.std.proofs.Common.{take}
use Rattle.std.specs.List.{flat_map}
use Rattle.report_lines.specs.Texts.{Adds}
use Rattle.report_lines.specs.KeptTexts.{byte_digits}
use Rattle.report_lines.proofs.kept_columns.put_hexadecimal.Given as goal

abbrev pub invariant-loop-byte : goal.invariant-loop-byte
invariant-loop-byte g l =
    Adds (g.T.Text.state l.initial.text) (g.T.Text.state l.text) (flat_map byte_digits (take l.byte-index l.bytes))
