use Rattle.std.proofs.Common.{sym, arith}
use Rattle.ip_text.proofs.FormatLaws.{Formats_trans, Formats_as}
use Rattle.ip_text.proofs.ShortNumbers.{decimal_thousands}
use Rattle.ip_text.proofs.format.format_six.Goals as goal

pub returns : goal.returns
returns c = Formats_as (sym (decimal_thousands c.args.number c.if-number-lt1000.false (omega arith))) (Formats_trans c.format_short-high.ensures c.format_three.ensures)
