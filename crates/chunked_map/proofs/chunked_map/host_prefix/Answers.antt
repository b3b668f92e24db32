use Rattle.std.proofs.Common.{◌∙◌, ap}
use Rattle.bgp_prefix.specs.Prefixes.{network_of}
use Rattle.chunked_map.proofs.chunked_map.host_prefix.Goals as goal

pub returns : goal.returns
returns g c =
    let addr = ap (network_of (g.F.Family.bits c.args.addr)) c.WIDTH.ensures ∙ g.F.Family.whole c.args.addr in
    c.in-Some.ensures.prefix ∙ (λ i. record { addr = addr i; len = c.WIDTH.ensures i })
