use Rattle.std.proofs.Common.{◌≡◌, ◌∙◌, ap, length}
use Rattle.std.specs.FinMap.{len-entries}
use Rattle.rib_report.proofs.reports.peers.row_of.Goals as goal

pub returns : goal.returns
returns g c =
    let session = c.args.seat.now.session in
    let size : c.len.result ≡ length session.table = c.len.ensures ∙ len-entries c.table.result.now ∙ ap length c.table.ensures in
    λ i. record {
      peer = c.args.seat.now.key;
      is_established = c.is_established.ensures i;
      routes = size i;
      units = (c.arrivals-arrivals.ensures i).units;
      first = (c.churn-churn.ensures i).first;
      last = (c.churn-churn.ensures i).last;
      place = (c.arrivals-arrivals.ensures i).first;
    }
