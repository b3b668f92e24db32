use Rattle.std.proofs.Common.{refl}
use Rattle.bgp_prefix.proofs.Bits.{first_32}
use Rattle.bgp_prefix.proofs.v4.U32Family.agrees.Goals as goal

pub returns : goal.returns
returns c = rw (first_32 c.args.self c.args.len c.requires, first_32 c.args.other c.args.len c.requires) refl
