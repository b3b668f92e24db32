use Rattle.lane_deal.proofs.SettledLaws.{settled_seats}
use Rattle.lane_schedules.proofs.laws.settled_lanes_make_tables.Goals as goal

pub returns : goal.returns
returns c = settled_seats
