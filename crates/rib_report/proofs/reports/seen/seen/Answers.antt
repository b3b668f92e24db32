use Rattle.std.proofs.Common.{◌≡◌, ◌∙◌, map}
use Rattle.std.proofs.lemmas.Result.{IfOk-weaker}
use Rattle.rib_report.specs.Reports.{seen_rows}
use Rattle.rib_report.proofs.SeenLaws.{rows_of_seen}
use Rattle.rib_report.proofs.reports.seen.seen.Goals as goal

pub returns : goal.returns
returns g c =
    IfOk-weaker c.rows_of.result (λ rows. rows.items ≡ map (λ e. record { prefix = e.0.0; origin = e.0.1; peers = e.1 }) c.as_slice.result.now) (λ rows. rows.items ≡ seen_rows c.args.tables.now)
    (λ rows h. h ∙ rows_of_seen c.args.tables.now _ _ (c.as_slice.ensures.value ∙ c.in_ok-counts.ensures) c.seats-seats.ensures) c.rows_of.ensures
