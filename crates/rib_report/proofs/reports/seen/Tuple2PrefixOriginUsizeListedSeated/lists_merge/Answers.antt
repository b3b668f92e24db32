use Rattle.std.proofs.Common.{refl}
use Rattle.rib_report.proofs.SeenLaws.{merged_seen}
use Rattle.rib_report.proofs.reports.seen.Tuple2PrefixOriginUsizeListedSeated.lists_merge.Goals as goal

pub returns : goal.returns
returns g c = record { none = refl; both = merged_seen }
