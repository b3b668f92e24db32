use Rattle.std.proofs.Common.{◌≡◌, ◌∷◌, ◌++◌, take, drop, get_or}
use Rattle.bzip2_reader.proofs.moves.move_on.Given as goal

abbrev pub invariant-loop-i : goal.invariant-loop-i
invariant-loop-i l = record {
  order : l.order ≡ take l.i (l.value ∷ l.fn.order) ++ drop l.i l.fn.order;
  carried : l.carried ≡ get_or (l.value ∷ l.fn.order) l.i 0;
}
