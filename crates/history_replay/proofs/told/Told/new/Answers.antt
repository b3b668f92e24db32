use Rattle.std.proofs.Common.{refl, ap}
use Rattle.peer_tables.specs.Watching.{RowsState}
use Rattle.peer_tables.specs.Histories.{history_of, history_rows}
use Rattle.history_replay.proofs.told.Told.new.Goals as goal

pub returns : goal.returns
returns g c = λ choices listing. record {
  watches = c.in_ok-new.ensures listing.since choices;
  rows = (unfold history_rows history_of in ap (λ (r : RowsState). r.listed) c.new-2.ensures);
  refused_kept = c.new-3.ensures.items;
  counted = refl;
}
