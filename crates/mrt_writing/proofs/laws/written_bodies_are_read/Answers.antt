use Rattle.mrt_writing.proofs.BodyLaws.{change_read, index_again, states_again, rib_again, event_again}
use Rattle.mrt_writing.proofs.laws.written_bodies_are_read.Goals as goal

pub returns : goal.returns
returns c = record { index = index_again; states = states_again; told = change_read; rib = rib_again; event = event_again }
