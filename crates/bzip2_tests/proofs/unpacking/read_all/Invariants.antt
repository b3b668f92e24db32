-- what comes of the file is what was read, and what still comes
use Rattle.bzip2_reader.specs.Coming.{Comes}
use Rattle.bzip2_reader.specs.Reading.{device_of, to_come}
use Rattle.bzip2_tests.proofs.unpacking.read_all.Given as goal

abbrev pub invariant-loop : goal.invariant-loop
invariant-loop g l =
    Comes l.bytes.items (to_come (g.D.Source.remaining (device_of l.fn.reader)) l.fn.reader) (to_come (g.D.Source.remaining (device_of l.reader)) l.reader)
