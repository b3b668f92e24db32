use Rattle.std.proofs.Common.{arith, sym, take}
use Rattle.bzip2_reader.proofs.LaneLaws.{lane_held, walk_as}
use Rattle.bzip2_reader.proofs.batch.Job.walk.Goals as goal

pub returns : goal.returns
returns c = λ bits read.
    (let job = c.args.self.now in
    lane_held bits job.start job.text job.links.items c.as_mut_slice.result.now c.walk_front.new.text job.raw.items _ c.size_of-size.result c.as_mut_slice.ensures.value c.walk_front.auto.text (sym job.raw.ok.0) read (omega (arith, c.size_of-size.ensures)) (omega (arith, c.if-size-len.false, c.len.ensures))
    (walk_as c.as_slice.result.now job.links.items c.first_of-first.result _ (take c.size_of-size.result c.walk_front.new.text) c.as_slice.ensures.value c.first_of-first.ensures c.walk_front.ensures))
