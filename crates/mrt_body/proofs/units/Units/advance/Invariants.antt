use Rattle.std.proofs.Common.{◌≡◌, [], length}
use Rattle.mrt_body.specs.ToCome.{HasEnded, TakesFound, steps_left}
use Rattle.mrt_body.specs.Tellings.{AllTold}
use Rattle.mrt_body.specs.Readings.{Gives, IsBounded}
use Rattle.mrt_body.proofs.units.Units.advance.Given as goal

abbrev pub invariant-files : goal.invariant-files
invariant-files g l = record {
  files : length l.files ≡ l.self.count;
  gives : Gives g.R.Source.remaining g.R.Failures.failure_count l.initial.self l.initial.files l.self l.files [];
  told : AllTold g.R.Source.reads l.initial.files l.files l.initial.self.file l.self.file (λ told left. TakesFound l.initial.self told l.self left []);
  bounds : IsBounded l.initial.self l.initial.files l.self l.files;
  ended : HasEnded l.initial.self → (l.self ≡ l.initial.self) × (l.files ≡ l.initial.files);
}

abbrev pub decreases-files : goal.decreases-files
decreases-files g l = steps_left l.self
