-- each read gives a byte at least, and none is lost
use Rattle.std.proofs.Common.{◌≤◌, length}
use Rattle.std.specs.Io.KnownBytes.{Keeps}
use Rattle.packed_io.specs.Devices.{head_bytes}
use Rattle.packed_io.specs.Stages.{known_bytes}
use Rattle.packed_io.proofs.unpacked.Waiting.fill.Given as goal

abbrev pub invariant-loop-reads : goal.invariant-loop-reads
invariant-loop-reads g l = (l._reads ≤ length (head_bytes l.self.head)) × Keeps (known_bytes g.D.Read.remaining l.initial.self) (known_bytes g.D.Read.remaining l.self)
