use Rattle.bgp_prefix.proofs.Bits.{next_bit}
use Rattle.bgp_prefix.proofs.v6.Ipv6Family.bit_after.Goals as goal

pub returns : goal.returns
returns c = rw (← c.number.ensures) (next_bit c.number.result c.args.len c.requires)
