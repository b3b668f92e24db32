-- Rows, with prefixes of either family.
use Rattle.bgp_prefix.specs.Prefixes.{IpPrefix}
use Rattle.rib_report.specs.declared.reports.tables.TableRow.{TableRow as BorrowingRowOf}
use Rattle.rib_report.specs.declared.reports.visibility.VisibilityRow.{VisibilityRow as VisibilityRowOf}
use Rattle.rib_report.specs.declared.reports.origins.OriginRow.{OriginRow as OriginRowOf}
use Rattle.rib_report.specs.declared.reports.seen.SeenRow.{SeenRow as SeenRowOf}

-- an entry of a peer's table, with a route that it borrows
abbrev pub BorrowingRow : Type 0
BorrowingRow = BorrowingRowOf IpPrefix

-- the rows of reports on prefixes
abbrev pub VisibilityRow : Type 0
VisibilityRow = VisibilityRowOf IpPrefix

abbrev pub OriginRow : Type 0
OriginRow = OriginRowOf IpPrefix

abbrev pub SeenRow : Type 0
SeenRow = SeenRowOf IpPrefix
