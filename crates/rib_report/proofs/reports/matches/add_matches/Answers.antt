use Rattle.std.proofs.Common.{◌++◌, ◌∙◌, ap, map, sym, append-nil}
use Rattle.std.proofs.lemmas.Result.{on_ok_weaker}
use Rattle.rib_report.specs.Rows.{table_row}
use Rattle.rib_report.proofs.MatchLaws.{match_found, match_none}
use Rattle.rib_report.proofs.reports.matches.add_matches.Goals as goal

pub returns-in-None : goal.returns-in-None
returns-in-None g c =
    let seat = c.args.seat.now in
    let rows = map table_row c.args.rows.now.items in
    sym (ap (λ l. rows ++ l) (match_none c.table.result.now seat.session.table seat.key (g.F.Family.bits c.args.addr) c.table.ensures c.in-None.ensures.none) ∙ append-nil rows)

pub returns-in-Some : goal.returns-in-Some
returns-in-Some g c =
    let seat = c.args.seat.now in
    let rows = map table_row c.args.rows.now.items in
    let found = match_found c.table.result.now seat.session.table seat.key (g.F.Family.bits c.args.addr) c.in-Some.prefix c.table.ensures c.in-Some.ensures.found in
    on_ok_weaker c.add_paths.result (λ added. added ∙ ap (λ l. rows ++ l) found) c.add_paths.ensures
