use Rattle.std.proofs.Common.{arith, ◌*◌, ◌^◌}
use Rattle.bgp_prefix.proofs.Bits.{network_32, IsIpPrefix-network}
use Rattle.bgp_prefix.proofs.v4.U32Family.masked.Goals as goal

pub returns-clause-network : goal.returns-clause-network
returns-clause-network c = network_32 c.args.self c.args.len c.requires

pub returns-clause-known : goal.returns-clause-known
returns-clause-known c = rw (network_32 c.args.self c.args.len c.requires) (IsIpPrefix-network (c.args.self * 2 ^ 96) c.args.len (omega arith) (omega arith))
