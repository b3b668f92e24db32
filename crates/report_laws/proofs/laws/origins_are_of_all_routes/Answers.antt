use Rattle.report_laws.proofs.DefinedLaws.{origins_from_row, row_from_origins, origins_sorted}
use Rattle.report_laws.proofs.laws.origins_are_of_all_routes.Goals as goal

pub returns : goal.returns
returns c = record { rows = λ tables prefix origins. (origins_from_row tables prefix origins, row_from_origins tables prefix origins); sorted = origins_sorted }
