use Rattle.command_line.proofs.Spelled.{written_prefix}
use Rattle.command_line.proofs.laws.written_prefixes_spell_themselves.Goals as goal

pub returns : goal.returns
returns c = written_prefix
