use Rattle.report_laws.proofs.UnitReportLaws.{HasReportsOf-standing, same_tables}
use Rattle.report_laws.proofs.laws.reports_are_of_units.Goals as goal

pub returns : goal.returns
returns c = record { rows = HasReportsOf-standing; same = same_tables }
