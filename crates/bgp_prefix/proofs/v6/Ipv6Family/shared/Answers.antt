use Rattle.std.proofs.Common.{arith, refl}
use Rattle.bgp_prefix.proofs.Bits.{share_leading, part_after}
use Rattle.bgp_prefix.proofs.v6.Ipv6Family.shared.Goals as goal

pub returns-clause-same : goal.returns-clause-same
returns-clause-same c n h = rw (← c.number.ensures, ← c.number-2.ensures) ((share_leading 128 c.number.result c.number-2.result (omega arith) (omega arith) n h).1)

pub returns-clause-longest : goal.returns-clause-longest
returns-clause-longest c h = rw (← c.number.ensures, ← c.number-2.ensures) (λ e. part_after 128 c.number.result c.number-2.result (omega arith) (omega arith) _ refl h e)
