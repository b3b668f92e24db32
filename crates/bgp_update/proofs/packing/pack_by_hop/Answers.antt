use Rattle.std.proofs.Common.{◌≡◌, ◌+◌, length, arith}
use Rattle.std.proofs.lemmas.Grind.{common_steps}
use Rattle.bgp_update.specs.declared.route.Route.{Route}
use Rattle.bgp_update.specs.Values.{kept_route}
use Rattle.bgp_update.specs.Hops.{by_hop}
use Rattle.bgp_update.proofs.Spans.{packed_behind}
use Rattle.bgp_update.proofs.packing.pack_by_hop.Goals as goal

pub returns : goal.returns
returns c =
    let r : Route = by_hop (kept_route c.args.width c.args.first.now c.args.kept.now) c.args.hop.now in
    let span = c.in_ok-span.span in
    let start : span.bytes.start ≡ length c.args.out.now.items = grind (arith, common_steps) in
    let end : span.bytes.start + span.bytes.len ≡ length c.push_by_hop.new.out.items = grind (arith, common_steps) in
    packed_behind c.args.out.now.items c.push_by_hop.new.out.items r span c.in_ok-push_by_hop.ensures start end
