use Rattle.std.proofs.Common.{◌≡◌, ◌≤◌, ◌<◌, sym, ◌∙◌, arith}
use Rattle.std.proofs.lemmas.Fmt.{decimal_injective}
use Rattle.command_line.proofs.choice.read_len.Goals as goal

pub returns-else-len-WIDTH-clause-none : goal.returns-else-len-WIDTH-clause-none
returns-else-len-WIDTH-clause-none g c n e small =
    let octet = c.in_ok-len.ensures.some in
    let below : c.in_ok-len.len < 256 = octet.below in
    let narrow : g.F.Family.WIDTH ≤ 128 = g.F.Family.narrow in
    let same : n ≡ c.in_ok-len.len = decimal_injective n c.in_ok-len.len (omega (arith, small, narrow)) (omega arith) (sym e ∙ octet.written) in
    let width : c.WIDTH.result ≡ g.F.Family.WIDTH = c.WIDTH.ensures in
    let past : c.WIDTH.result < c.in_ok-len.len = c.if-len-WIDTH.false in
    absurd (omega (arith, past, width, same, small))
