use Rattle.route_choice.proofs.PieceLaws.{IsUnderWay}
use Rattle.route_choice.proofs.matching.end_of_piece.Given as goal

abbrev pub invariant-loop-i : goal.invariant-loop-i
invariant-loop-i l = IsUnderWay l.mask l.fn.path l.path l.i
