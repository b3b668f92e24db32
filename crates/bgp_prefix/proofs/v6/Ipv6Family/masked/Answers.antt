use Rattle.std.proofs.Common.{◌≡◌, rules, arith}
use Rattle.bgp_prefix.specs.Prefixes.{network_of}
use Rattle.bgp_prefix.proofs.Bits.{IsIpPrefix-network}
use Rattle.bgp_prefix.proofs.v6.Ipv6Family.masked.Goals as goal

pub returns-clause-known : goal.returns-clause-known
returns-clause-known c =
    let is : c.new-2.result ≡ network_of c.args.self c.args.len = search rules in
    rw is (IsIpPrefix-network c.args.self c.args.len (omega (arith, c.number.ensures)) (omega arith))
