use Rattle.mrt_body.proofs.EntryLaws.{units_left-few}
use Rattle.mrt_body.proofs.rib_reader.Index.read.Goals as goal

pub returns-clause-few : goal.returns-clause-few
returns-clause-few g c = units_left-few c.self.inside.peers.items c.select.new.list.items c.in_ok-record.record (rw c.as_slice.ensures.value at c.select.ensures.listed)
