use Rattle.std.proofs.Common.{◌≡◌, false, take, map, eqb}
use Rattle.std.specs.List.{list_any}
use Rattle.peer_tables.specs.Seats.{seat_of}
use Rattle.lane_deal.proofs.seats.scan.Given as goal

abbrev pub invariant-loop-at : goal.invariant-loop-at
invariant-loop-at g l = list_any (λ s. eqb s.number l.number) (map seat_of (take l.at l.seats)) ≡ false
