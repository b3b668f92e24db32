use Rattle.std.proofs.Common.{◌/◌, ◌%◌, ◌++◌, ◌∷◌, ap, sym, decimal}
use Rattle.ip_text.proofs.FormatLaws.{Formats_trans, Formats_as}
use Rattle.ip_text.proofs.ShortNumbers.{digits_six}
use Rattle.report_lines.proofs.field.MicrosecondsField.format.Goals as goal

pub returns : goal.returns
returns c =
    Formats_as (ap (λ l. decimal (c.args.self.0 / 1000000) ++ 46 ∷ l) (sym (digits_six (c.args.self.0 % 1000000))))
    (Formats_trans c.format-at.ensures (Formats_trans c.format_byte-at.ensures (Formats_trans c.format_three-at.ensures c.format_three.ensures)))
