-- The rows of the reports, as definitions see them.
use Rattle.std.specs.Prelude.{ℕ, List, Option}
use Rattle.bgp_prefix.specs.Prefixes.{IpPrefix}
use Rattle.bgp_prefix.specs.Keys.{RouteKey}
use Rattle.bgp_update.specs.declared.route.Route.{Route}
use Rattle.peer_units.specs.declared.unit.PeerKey.{PeerKey}
use Rattle.rib_report.specs.Plain.{BorrowingRow, VisibilityRow, OriginRow, SeenRow}

-- an entry of a peer's table
pub record TableRow : Type 0 where
  pub peer : PeerKey
  pub key : RouteKey
  pub route : Route

-- the row with the route that it borrows
abbrev pub table_row : BorrowingRow → TableRow
table_row row = record { peer = row.peer; key = row.key; route = row.route }

abbrev pub visibility_pair : VisibilityRow → IpPrefix × ℕ
visibility_pair row = (row.prefix, row.peers)

abbrev pub origins_pair : OriginRow → IpPrefix × List ℕ
origins_pair row = (row.prefix, row.origins)

abbrev pub seen_pair : SeenRow → (IpPrefix × Option ℕ) × ℕ
seen_pair row = ((row.prefix, row.origin), row.peers)
