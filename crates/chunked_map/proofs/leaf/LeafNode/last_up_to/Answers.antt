use Rattle.std.proofs.Common.{ap, arith}
use Rattle.bgp_prefix.specs.Keys.{RouteKey}
use Rattle.chunked_map.proofs.LastPrefixes.{last_here}
use Rattle.chunked_map.proofs.leaf.LeafNode.last_up_to.Goals as goal

pub returns : goal.returns
returns g c =
    last_here c.args.self.now c.args.last.now c.count_up_to-at.result c.key_at.result.prefix (omega (arith, c.if-at-eq0.false)) c.count_up_to-at.ensures.bound c.count_up_to-at.ensures.end (λ d. ap (λ (k : RouteKey). k.prefix) (c.key_at.ensures d))
