-- the routes of the seats so far
use Rattle.std.proofs.Common.{◌≡◌, ◌-◌, ◌^◌, length, take}
use Rattle.std.specs.Prelude.{min}
use Rattle.std.specs.List.{flat_map}
use Rattle.peer_tables.proofs.tables.count_routes.Given as goal

abbrev pub invariant-loop-seat : goal.invariant-loop-seat
invariant-loop-seat g l = l.count ≡ min (length (flat_map (λ s. s.session.table) (take l.seat-index l.seats))) (2 ^ 64 - 1)
