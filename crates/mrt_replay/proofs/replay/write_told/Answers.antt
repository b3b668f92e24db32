use Rattle.std.proofs.Common.{ap, ◌∙◌, sym}
use Rattle.std.specs.List.{flat_map}
use Rattle.rib_report.specs.Lines.{churn_line}
use Rattle.rib_report.specs.Reports.{watch_churns}
use Rattle.mrt_replay.specs.Reports.{told_lines}
use Rattle.mrt_replay.proofs.ReportLaws.{wrote_front, after_write}
use Rattle.mrt_replay.proofs.replay.write_told.Goals as goal

pub returns-in_ok-watched_churn-in-Nothing-clause-front : goal.returns-in_ok-watched_churn-in-Nothing-clause-front
returns-in_ok-watched_churn-in-Nothing-clause-front g c =
    let rows = c.as_slice.ensures.value ∙ c.in_ok-watched_churn-in-Nothing.ensures ∙ ap watch_churns c.watched.ensures in
    wrote_front c.write_lines.result _ _ (ap (λ l. flat_map (churn_line c.args.layout) l) rows ∙ ap (λ l. told_lines c.args.layout l c.args.told.now.rows.listed c.args.told.now.watches) (sym c.in-Nothing.is)) c.write_lines.ensures.front

pub returns-in-Changes-clause-front : goal.returns-in-Changes-clause-front
returns-in-Changes-clause-front g c =
    wrote_front c.write_lines-in-Changes.result _ _ (ap (λ l. told_lines c.args.layout l c.args.told.now.rows.listed c.args.told.now.watches) (sym c.in-Changes.is)) c.write_lines-in-Changes.ensures.front

pub returns-in-Changes-clause-risen : goal.returns-in-Changes-clause-risen
returns-in-Changes-clause-risen g c = after_write c.write_lines-in-Changes.result c.write_lines-in-Changes.ensures.risen

pub returns-in-All-clause-front : goal.returns-in-All-clause-front
returns-in-All-clause-front g c =
    wrote_front c.write_lines-in-All.result _ _ (ap (λ l. told_lines c.args.layout l c.args.told.now.rows.listed c.args.told.now.watches) (sym c.in-All.is)) c.write_lines-in-All.ensures.front

pub returns-in-All-clause-risen : goal.returns-in-All-clause-risen
returns-in-All-clause-risen g c = after_write c.write_lines-in-All.result c.write_lines-in-All.ensures.risen
