use Rattle.report_laws.proofs.SeenOrigins.{origins_are_seen}
use Rattle.report_laws.proofs.laws.origins_are_of_seen_rows.Goals as goal

pub returns : goal.returns
returns c = origins_are_seen
