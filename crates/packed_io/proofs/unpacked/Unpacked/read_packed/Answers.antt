use Rattle.std.proofs.Common.{sym, subst, take, Option, List, ℕ}
use Rattle.std.specs.Io.KnownBytes.{Keeps}
use Rattle.std.specs.Prelude.{box_value}
use Rattle.packed_io.specs.Reading.{unpacked_remaining}
use Rattle.packed_io.proofs.HeadLaws.{packed_consumes, packed_keeps}
use Rattle.packed_io.proofs.unpacked.Unpacked.read_packed.Goals as goal

pub returns-in-Gave-clause-bytes : goal.returns-in-Gave-clause-bytes
returns-in-Gave-clause-bytes g c = (
  packed_consumes g.D.Read.remaining c.args.self.now c.in-Packed.format c.in-Packed.decoder (box_value c.read_boxed-outcome.new.decoder) (take c.in-Gave.count c.read_boxed-outcome.new.buf) c.in-Packed.is (rw c.in-Gave.is at c.read_boxed-outcome.ensures.bytes),
  λ none room. absurd ((rw c.in-Gave.is at c.read_boxed-outcome.ensures.outcome).1 none room),
)

pub returns-in-Failed-outcome-clause-bytes : goal.returns-in-Failed-outcome-clause-bytes
returns-in-Failed-outcome-clause-bytes g c =
    subst (λ (x : Option (List ℕ)). Keeps (unpacked_remaining g.D.Read.remaining c.args.self.now) x) (sym c.fail.ensures.same)
    (packed_keeps g.D.Read.remaining c.args.self.now c.in-Packed.format c.in-Packed.decoder (box_value c.read_boxed-outcome.new.decoder) c.in-Packed.is (rw c.in-Failed-outcome.is at c.read_boxed-outcome.ensures.bytes))
