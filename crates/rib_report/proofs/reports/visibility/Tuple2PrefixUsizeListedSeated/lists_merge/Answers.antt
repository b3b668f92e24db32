use Rattle.std.proofs.Common.{refl}
use Rattle.rib_report.proofs.VisibilityLaws.{merged_visible}
use Rattle.rib_report.proofs.reports.visibility.Tuple2PrefixUsizeListedSeated.lists_merge.Goals as goal

pub returns : goal.returns
returns g c = record { none = refl; both = merged_visible }
