use Rattle.std.proofs.Common.{arith, refl, ◌∙◌, sym}
use Rattle.bgp_prefix.proofs.Bits.{first_32, share_leading, part_after}
use Rattle.bgp_prefix.proofs.v4.U32Family.shared.Goals as goal

pub returns-clause-same : goal.returns-clause-same
returns-clause-same c n h =
    let parts = share_leading 32 c.args.self c.args.other (omega arith) (omega arith) n h in
    first_32 c.args.self n parts.0 ∙ parts.1 ∙ sym (first_32 c.args.other n parts.0)

pub returns-clause-longest : goal.returns-clause-longest
returns-clause-longest c h e =
    part_after 32 c.args.self c.args.other (omega arith) (omega arith) _ refl h (sym (first_32 c.args.self _ (omega (arith, h))) ∙ e ∙ first_32 c.args.other _ (omega (arith, h)))
