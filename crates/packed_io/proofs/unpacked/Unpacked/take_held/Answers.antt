use Rattle.packed_io.specs.Reading.{file_ending}
use Rattle.packed_io.proofs.EndingLaws.{keeps_refl}
use Rattle.packed_io.proofs.unpacked.Unpacked.take_held.Goals as goal

pub returns-in_default-clause-ending : goal.returns-in_default-clause-ending
returns-in_default-clause-ending g c = keeps_refl (file_ending g.D.Read.remaining c.args.self.now)
