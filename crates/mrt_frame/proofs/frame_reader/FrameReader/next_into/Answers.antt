use Rattle.std.proofs.Common.{sym, ◌∙◌, ap}
use Rattle.mrt_frame.proofs.NextRead.{next-none}
use Rattle.mrt_frame.proofs.frame_reader.FrameReader.next_into.Goals as goal

pub returns-in-Ended-clause-told : goal.returns-in-Ended-clause-told
returns-in-Ended-clause-told g c = next-none g.R.Source.reads g.met.R.Source.reads_none c.args.self.now c.args.reader.now (sym (ap (λ p. p.state) c.self.view_is) ∙ c.in-Ended.is)
