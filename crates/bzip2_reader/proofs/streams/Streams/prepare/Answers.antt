use Rattle.std.proofs.Common.{arith}
use Rattle.bzip2_reader.proofs.streams.Streams.prepare.Goals as goal

pub invariant_of-self : goal.invariant_of-self
invariant_of-self g c = record {
  within = c.args.self.now.within;
  decoded = λ less. c.args.self.now.decoded (omega (arith, less, c.next_job-self.ensures));
}
