use Rattle.std.proofs.Common.{sym, arith}
use Rattle.ip_text.proofs.FormatLaws.{Formats_trans, Formats_as}
use Rattle.ip_text.proofs.ShortNumbers.{decimal_millions}
use Rattle.ip_text.proofs.format.format_long.Goals as goal

pub returns : goal.returns
returns c = Formats_as (sym (decimal_millions c.args.number c.requires.0 (omega arith))) (Formats_trans c.format_six-high.ensures (Formats_trans c.format_three-middle.ensures c.format_three.ensures))
