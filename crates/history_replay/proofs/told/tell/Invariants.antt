use Rattle.std.proofs.Common.{◌≡◌, length, map}
use Rattle.mrt_frame.specs.declared.read_state.ReadState.TheVariants.{Reading}
use Rattle.mrt_body.specs.ToCome.{KeepsPlan, answers_left}
use Rattle.history_replay.specs.FilesTaken.{HasTaken}
use Rattle.history_replay.specs.Tellings.{Tells}
use Rattle.history_replay.proofs.told.tell.Given as goal

abbrev pub invariant-files : goal.invariant-files
invariant-files g l = record {
  files : length l.files ≡ l.units.count;
  reading : l.units.state ≡ Reading;
  plan : KeepsPlan l.initial.units l.units;
  counts : map g.R.Failures.failure_count l.files ≡ map g.R.Failures.failure_count l.initial.files;
  far : HasTaken (Tells l.chosen l.listing) l.initial.units l.units (map g.R.Source.remaining l.initial.files) (map g.R.Source.remaining l.files) l.initial.told l.told;
}

abbrev pub decreases-files : goal.decreases-files
decreases-files g l = answers_left l.units
