use Rattle.std.proofs.Common.{◌<◌, ◌∷◌, ◌++◌, length, take, drop, get_or, set, sym, ◌∙◌, ap, arith, add-one}
use Rattle.bzip2_reader.proofs.MoveLaws.{moved_at, moved_more}
use Rattle.bzip2_reader.proofs.moves.move_on.Goals as goal

pub loop-i-preserved : goal.loop-i-preserved
loop-i-preserved c =
    let i = c.loop-i.i in
    let xs = c.args.order.now in
    let v = c.args.value in
    let inv = c.loop-i.invariant in
    let inside : i < length xs = omega (arith, c.requires.inside) in
    let next = add-one i in
    record {
      order = ap (λ l. set l i c.loop-i.carried) inv.order ∙ ap (set (take i (v ∷ xs) ++ drop i xs) i) inv.carried ∙ moved_more v xs i inside ∙ ap (λ n. take n (v ∷ xs) ++ drop n xs) (sym next);
      carried = ap (λ l. get_or l i 0) inv.order ∙ moved_at v xs i inside ∙ ap (λ n. get_or (v ∷ xs) n 0) (sym next);
    }
