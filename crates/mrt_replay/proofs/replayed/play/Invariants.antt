use Rattle.std.proofs.Common.{◌≡◌, length, map}
use Rattle.mrt_frame.specs.declared.read_state.ReadState.TheVariants.{Reading}
use Rattle.lane_deal.specs.Playing.{shown}
use Rattle.mrt_replay.proofs.RoundsTaken.{SoFar, left_over}
use Rattle.mrt_replay.proofs.replayed.play.Given as goal

abbrev pub invariant-rounds : goal.invariant-rounds
invariant-rounds g l = record {
  files : length l.files ≡ l.units.count;
  running : l.replayer.state ≡ Reading;
  plan : l.replayer.plan ≡ l.initial.replayer.plan;
  dealing : l.replayer.dealer.dealing ≡ l.initial.replayer.dealer.dealing;
  counts : map g.R.Failures.failure_count l.files ≡ map g.R.Failures.failure_count l.initial.files;
  far : SoFar (g.D.Dealing.lane_of l.initial.replayer.dealer.dealing) l.initial.replayer.plan (shown l.initial.replayer) (shown l.replayer) l.initial.units l.units (map g.R.Source.remaining l.initial.files) (map g.R.Source.remaining l.files) l.initial.replayer.rounds l.initial.replayer.rounds l.replayer.rounds;
}

abbrev pub decreases-rounds : goal.decreases-rounds
decreases-rounds g l = left_over (shown l.replayer) l.units
