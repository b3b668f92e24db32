use Rattle.mrt_writing.proofs.PrefixLaws.{prefix_again}
use Rattle.mrt_writing.proofs.laws.written_prefixes_are_read.Goals as goal

pub returns : goal.returns
returns c = record { prefixes = prefix_again }
