use Rattle.std.proofs.Common.{◌≤◌, arith}
use Rattle.command_line.proofs.Spelled.{none_of_parts}
use Rattle.command_line.proofs.choice.sized_prefix.Goals as goal
use Rattle.command_line.specs.Families.{SpellsIn}

pub returns-in_err-addr-clause-none : goal.returns-in_err-addr-clause-none
returns-in_err-addr-clause-none g c = rw c.from_residual.ensures (λ p a e ip. c.in_err-addr.ensures.none p.addr a)

pub returns-clause-none : goal.returns-clause-none
returns-clause-none g c =
    let laws = c.texts_spell_one_address.ensures in
    let len = c.in_ok-len.ensures.some in
    let small : c.in_ok-len.len ≤ g.F.Family.WIDTH = len.1 in
    let narrow : g.F.Family.WIDTH ≤ 128 = g.F.Family.narrow in
    none_of_parts (SpellsIn g.F.AddressText.FAMILY) g.F.Family.WIDTH laws.one laws.plain c.exact_prefix.result c.args.front.now c.args.back.now (g.F.Family.bits c.in_ok-addr.addr) c.in_ok-len.len c.in_ok-addr.ensures.some len.0 (omega (arith, small, narrow)) c.exact_prefix.ensures.none
