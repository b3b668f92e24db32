use Rattle.std.proofs.Common.{arith}
use Rattle.std.proofs.lemmas.Bool.{eqb-true, eq-eqb}
use Rattle.lane_deal.proofs.SeatIndexes.{stands_here, stands_there, stands_within}
use Rattle.lane_deal.proofs.seats.stands_at.Goals as goal

pub returns-then-at-seats-clause-here : goal.returns-then-at-seats-clause-here
returns-then-at-seats-clause-here g c = λ yes. stands_here c.args.seats.now c.args.at c.args.number c.index-seats-at.result (omega arith) (eqb-true _ _ yes)

pub returns-then-at-seats-clause-elsewhere : goal.returns-then-at-seats-clause-elsewhere
returns-then-at-seats-clause-elsewhere g c = λ there. eq-eqb _ _ (stands_there c.args.seats.now c.args.at c.args.number c.index-seats-at.result there)

pub returns-else-at-seats-clause-elsewhere : goal.returns-else-at-seats-clause-elsewhere
returns-else-at-seats-clause-elsewhere g c = λ there. let within = stands_within c.args.seats.now c.args.at c.args.number there in absurd (omega arith)
