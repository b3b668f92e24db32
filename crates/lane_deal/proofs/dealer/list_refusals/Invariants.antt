use Rattle.std.proofs.Common.{◌≡◌, map}
use Rattle.mrt_body.specs.ToCome.{answers_left}
use Rattle.lane_deal.proofs.Asking.{Listed}
use Rattle.lane_deal.proofs.dealer.list_refusals.Given as goal

abbrev pub decreases-loop-damage : goal.decreases-loop-damage
decreases-loop-damage g l = answers_left l.units

abbrev pub invariant-loop-damage : goal.invariant-loop-damage
invariant-loop-damage g l = record {
  count : l.units.count ≡ l.initial.units.count;
  listed : Listed l.initial.refused.items l.refused.items l.initial.units (map g.R.Source.remaining l.initial.files) l.units (map g.R.Source.remaining l.files);
  sound : map g.R.Failures.failure_count l.files ≡ map g.R.Failures.failure_count l.initial.files;
}
