use Rattle.rib_report.proofs.reports.churn.ChurnRowLine.put.Goals as goal

pub returns : goal.returns
returns g c =
    let first = c.time_field.ensures in
    let last = c.time_field-2.ensures in
    rw (first.text, first.json, last.text, last.json) at c.put_line.ensures
