use Rattle.report_laws.proofs.ChoiceLaws.{route_rows-chosen, visible_by_chosen, seen_by_chosen, shares_of_chosen}
use Rattle.report_laws.proofs.laws.rows_of_choices.Goals as goal

pub returns : goal.returns
returns c = record { tables = route_rows-chosen; visibility = visible_by_chosen; seen = seen_by_chosen; shares = shares_of_chosen }
