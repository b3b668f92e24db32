use Rattle.std.proofs.Common.{arith}
use Rattle.table_tests.proofs.SeatNumbers.{three_numbers}
use Rattle.table_tests.proofs.tables.tables_of_sessions.Goals as goal

pub collect-requires : goal.collect-requires
collect-requires g c = three_numbers c.two_lanes-gathered.result _ _ _ c.two_lanes-gathered.ensures (λ e. omega (arith, e)) (λ e. omega (arith, e)) (λ e. omega (arith, e))
