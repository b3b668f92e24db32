use Rattle.lane_deal.proofs.SeatLaws.{seats_of_lanes, numbers_rise}
use Rattle.lane_schedules.proofs.laws.lanes_make_tables.Goals as goal

pub returns : goal.returns
returns c = record { seats = λ lane_of workers units refused below. seats_of_lanes lane_of units workers refused below; numbers = numbers_rise }
