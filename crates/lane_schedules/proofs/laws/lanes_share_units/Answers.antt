use Rattle.lane_deal.specs.Lanes.{lane_of_unit, number_of_peer}
use Rattle.unit_rings.proofs.Lists.{all_of}
use Rattle.lane_deal.proofs.Classes.{by_class-IsPermutation}
use Rattle.lane_schedules.proofs.laws.lanes_share_units.Goals as goal

pub returns : goal.returns
returns c = λ lane_of workers units below. by_class-IsPermutation (lane_of_unit lane_of units) units workers (all_of units (λ u. below (number_of_peer units u.peer)))
