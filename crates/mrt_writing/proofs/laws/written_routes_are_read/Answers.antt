use Rattle.mrt_writing.proofs.RouteLaws.{entry_again}
use Rattle.mrt_writing.proofs.laws.written_routes_are_read.Goals as goal

pub returns : goal.returns
returns c = record { entries = entry_again }
