-- the refusals, and the faults of the seats so far
use Rattle.std.proofs.Common.{◌≡◌, ◌++◌, take}
use Rattle.std.specs.List.{flat_map}
use Rattle.rib_report.proofs.reports.faults.gather_faults.Given as goal

abbrev pub invariant-loop-seat : goal.invariant-loop-seat
invariant-loop-seat g l = l.rows.items ≡ l.tables.refused ++ flat_map (λ s. s.session.faults) (take l.seat-index l.seat-items)
