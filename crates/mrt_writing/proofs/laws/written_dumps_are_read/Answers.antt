use Rattle.mrt_writing.proofs.DumpLaws.{dump_found, kinds_ipv4, kinds_ipv6}
use Rattle.mrt_writing.proofs.laws.written_dumps_are_read.Goals as goal

pub returns : goal.returns
returns c = record { dump = dump_found; kinds = (kinds_ipv4, kinds_ipv6) }
