use Rattle.std.proofs.Common.{arith}
use Rattle.bgp_update.proofs.MultiprotocolLaws.{hop_is}
use Rattle.bgp_update.proofs.written_hop.WrittenHop.of_bytes.Goals as goal

pub invariant_of-result : goal.invariant_of-result
invariant_of-result c =
    let written = hop_is c.args.bytes.now c.requires (λ i. omega (arith, c.type_inv.bytes i)) in
    record { len = c.requires; fits = written.1; written = written.0 }
