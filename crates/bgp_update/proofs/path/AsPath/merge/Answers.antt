use Rattle.bgp_update.proofs.Fronts.{only_merged}
use Rattle.bgp_update.proofs.path.AsPath.merge.Goals as goal

pub returns-clause-only : goal.returns-clause-only
returns-clause-only c other merges = only_merged c.whole_merge.result c.args.as_path.now c.args.as4_path.now other c.whole_merge.ensures merges
