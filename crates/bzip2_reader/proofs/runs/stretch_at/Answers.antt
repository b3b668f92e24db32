use Rattle.std.proofs.Common.{arith}
use Rattle.bzip2_reader.proofs.RunLaws.{few_more, stretch_more}
use Rattle.bzip2_reader.proofs.runs.stretch_at.Goals as goal

pub loop-far-preserved : goal.loop-far-preserved
loop-far-preserved c =
    let far = c.loop-far.far in
    let inv = c.loop-far.invariant in
    record {
      within = (omega (arith, inv.within.0), omega arith);
      few = few_more far.same _ _ far.last (omega arith) c.same_after.ensures;
      begun = λ same. absurd (omega (arith, inv.within.0, same));
      written = stretch_more c.args.text.now c.args.last c.args.same c.args.from far.end far.last far.same _ inv.within.0 (omega arith) (omega arith) c.same_after.ensures inv.written;
    }
