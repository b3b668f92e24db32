use Rattle.mrt_frame.proofs.CuttingLaws.{cutting-some, cutting-only, cutting-cuts}
use Rattle.mrt_frame.proofs.laws.cutting_is_unique.Goals as goal

pub returns : goal.returns
returns c = record {
  some = cutting-some;
  only = cutting-only;
  cuts = cutting-cuts;
}
