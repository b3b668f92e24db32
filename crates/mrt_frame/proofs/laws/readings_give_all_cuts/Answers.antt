use Rattle.mrt_frame.proofs.FrameLaws.{TakesCuts-more, TakesCuts-all}
use Rattle.mrt_frame.proofs.laws.readings_give_all_cuts.Goals as goal

pub returns : goal.returns
returns c = record { joined = TakesCuts-more; whole = TakesCuts-all }
