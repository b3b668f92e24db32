use Rattle.std.proofs.Common.{arith, ◌+◌}
use Rattle.bgp_prefix.proofs.Bits.{first_32, next_bit_of, no_bit}
use Rattle.bgp_prefix.proofs.v4.U32Family.bit_after.Goals as goal

pub returns-then-len-lt32 : goal.returns-then-len-lt32
returns-then-len-lt32 c = rw (first_32 c.args.self c.args.len (omega arith), first_32 c.args.self (c.args.len + 1) (omega arith)) (next_bit_of 32 c.args.self c.args.len (omega arith))

pub returns-else-len-lt32 : goal.returns-else-len-lt32
returns-else-len-lt32 c = grind (arith, no_bit c.args.self c.args.len (omega arith) c.requires)
