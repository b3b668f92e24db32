use Rattle.std.proofs.Common.{ap, ◌∙◌, sym}
use Rattle.std.specs.List.{flat_map}
use Rattle.rib_report.specs.Lines.{origin_line, route_line, seen_line, visibility_line}
use Rattle.rib_report.specs.Rows.{table_row}
use Rattle.mrt_replay.specs.Reports.{lines_of}
use Rattle.report_request.specs.Requests.{request_of}
use Rattle.mrt_replay.proofs.ReportLaws.{lines_are, wrote_lines, wrote_front}
use Rattle.mrt_replay.proofs.replay.write_report.Goals as goal

pub returns-in_ok-matches-in-Match-clause-ok : goal.returns-in_ok-matches-in-Match-clause-ok
returns-in_ok-matches-in-Match-clause-ok g c =
    wrote_lines c.write_lines-in-Match.result _ _ (lines_are (route_line c.args.layout) table_row c.as_slice-in-Match.result.now c.in_ok-matches-in-Match.field-0.items _ c.as_slice-in-Match.ensures.value c.in_ok-matches-in-Match.ensures ∙ ap (λ r. lines_of (request_of g.F.Family.bits r) c.args.layout c.args.tables.now) (sym c.in-Match.is)) c.write_lines-in-Match.ensures.ok

pub returns-in_ok-matches-in-Match-clause-front : goal.returns-in_ok-matches-in-Match-clause-front
returns-in_ok-matches-in-Match-clause-front g c =
    wrote_front c.write_lines-in-Match.result _ _ (lines_are (route_line c.args.layout) table_row c.as_slice-in-Match.result.now c.in_ok-matches-in-Match.field-0.items _ c.as_slice-in-Match.ensures.value c.in_ok-matches-in-Match.ensures ∙ ap (λ r. lines_of (request_of g.F.Family.bits r) c.args.layout c.args.tables.now) (sym c.in-Match.is)) c.write_lines-in-Match.ensures.front

pub returns-in_ok-rows-in-Visibility-clause-front : goal.returns-in_ok-rows-in-Visibility-clause-front
returns-in_ok-rows-in-Visibility-clause-front g c =
    wrote_front c.write_lines.result _ _ (ap (λ l. flat_map (visibility_line c.args.layout) l) (c.as_slice.ensures.value ∙ c.in_ok-rows-in-Visibility.ensures)
    ∙ ap (λ r. lines_of (request_of g.F.Family.bits r) c.args.layout c.args.tables.now) (sym c.in-Visibility.is)) c.write_lines.ensures.front

pub returns-in_ok-rows-in-Origins-clause-front : goal.returns-in_ok-rows-in-Origins-clause-front
returns-in_ok-rows-in-Origins-clause-front g c =
    wrote_front c.write_lines-in-Origins.result _ _ (ap (λ l. flat_map (origin_line c.args.layout) l) (c.as_slice-in-Origins.ensures.value ∙ c.in_ok-rows-in-Origins.ensures)
    ∙ ap (λ r. lines_of (request_of g.F.Family.bits r) c.args.layout c.args.tables.now) (sym c.in-Origins.is)) c.write_lines-in-Origins.ensures.front

pub returns-in_ok-rows-in-Seen-clause-front : goal.returns-in_ok-rows-in-Seen-clause-front
returns-in_ok-rows-in-Seen-clause-front g c =
    wrote_front c.write_lines-in-Seen.result _ _ (ap (λ l. flat_map (seen_line c.args.layout) l) (c.as_slice-in-Seen.ensures.value ∙ c.in_ok-rows-in-Seen.ensures)
    ∙ ap (λ r. lines_of (request_of g.F.Family.bits r) c.args.layout c.args.tables.now) (sym c.in-Seen.is)) c.write_lines-in-Seen.ensures.front
