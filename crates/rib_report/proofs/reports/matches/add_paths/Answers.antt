use Rattle.std.proofs.Common.{◌∙◌, ap, map, ◌++◌}
use Rattle.bgp_prefix.specs.Maps.{paths_of}
use Rattle.rib_report.specs.Rows.{table_row}
use Rattle.rib_report.specs.Reports.{path_row}
use Rattle.std.proofs.lemmas.List.{take_all}
use Rattle.rib_report.proofs.reports.matches.add_paths.Goals as goal

pub returns : goal.returns
returns g c =
    let paths = c.as_slice-path-items.result.now in
    let seat = c.args.seat.now in
    let seen = c.as_slice-path-items.ensures.value ∙ c.in_ok-paths.ensures ∙ ap (paths_of c.args.prefix) c.table.ensures in
    c.loop-path.invariant ∙ ap (λ l. map table_row c.args.rows.now.items ++ map (path_row seat.key c.args.prefix) l) (take_all c.loop-path.path-index paths c.loop-path-test.false ∙ seen)
