use Rattle.std.proofs.Common.{refl}
use Rattle.rib_report.proofs.OriginLaws.{merged_origins}
use Rattle.rib_report.proofs.reports.origins.Tuple2PrefixU32ListedSeated.lists_merge.Goals as goal

pub returns : goal.returns
returns g c = record { none = refl; both = merged_origins }
