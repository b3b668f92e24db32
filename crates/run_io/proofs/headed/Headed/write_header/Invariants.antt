-- what is held stays
use Rattle.std.specs.Io.KnownBytes.{Keeps}
use Rattle.run_io.specs.Headers.{headed_contents}
use Rattle.run_io.proofs.headed.Headed.write_header.Given as goal

abbrev pub invariant-loop : goal.invariant-loop
invariant-loop g l = Keeps (headed_contents g.W.Write.contents l.initial.self) (headed_contents g.W.Write.contents l.self)
