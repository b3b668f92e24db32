use Rattle.std.specs.Prelude.{decimal}
use Rattle.report_lines.proofs.JsonLaws.{lines_spell}
use Rattle.report_lines.proofs.ValueLaws.{bare_is_value, decimal_is_bare, quoted_is_value}
use Rattle.report_lines.proofs.laws.json_lines_spell_their_fields.Goals as goal

pub returns : goal.returns
returns c = record { lines = lines_spell; numbers = λ n. bare_is_value (decimal n) (decimal_is_bare n); texts = quoted_is_value }
