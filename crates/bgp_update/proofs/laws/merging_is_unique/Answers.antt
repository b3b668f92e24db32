use Rattle.std.proofs.Common.{refl}
use Rattle.bgp_update.specs.Paths.{merged}
use Rattle.bgp_update.proofs.Fronts.{is_merged, merged-unique}
use Rattle.bgp_update.proofs.laws.merging_is_unique.Goals as goal

pub returns : goal.returns
returns c = record {
  merged = λ path as4 result. (is_merged path as4 result, λ h. merged-unique path as4 result (merged path as4) h (is_merged path as4 (merged path as4) refl));
  only = merged-unique;
}
