use Rattle.mrt_writing.proofs.PartLaws.{record_parts, rib_parts, update_parts, update_len}
use Rattle.mrt_writing.proofs.laws.written_parts_are_whole.Goals as goal

pub returns : goal.returns
returns c = record { whole = record_parts; rib = rib_parts; update = update_parts; len = update_len }
