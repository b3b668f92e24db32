use Rattle.std.proofs.Common.{◌≡◌, ◌≤◌, ◌+◌, false}
use Rattle.std.specs.Io.KnownBytes.{Keeps}
use Rattle.bzip2_reader.specs.Stretches.{has_failed, known_behind, known_whole}
use Rattle.bzip2_reader.proofs.window.Window.fill.Given as goal

abbrev pub invariant-loop : goal.invariant-loop
invariant-loop g l = record {
  bytes : Keeps (known_behind l.used (known_whole l.fn.self.block.items l.fn.self.filled l.fn.self.rest (g.D.Source.remaining l.fn.device)))
      (known_whole l.self.block.items l.self.filled l.self.rest (g.D.Source.remaining l.device));
  grows : l.fn.self.filled ≤ l.used + l.self.filled;
  sound : has_failed l.self.rest ≡ false → (has_failed l.fn.self.rest ≡ false) × (g.D.Failures.failure_count l.device ≡ g.D.Failures.failure_count l.fn.device);
}
