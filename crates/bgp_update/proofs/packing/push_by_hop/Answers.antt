use Rattle.bgp_update.proofs.PackedReadings.{whole_route}
use Rattle.bgp_update.proofs.packing.push_by_hop.Goals as goal

pub returns : goal.returns
returns c = whole_route c.args.width c.args.first.now c.args.kept.now c.args.hop.now c.args.out.now.items c.push_path_by_hop.new.out.items c.push_kept_part.new.out.items c.requires c.push_kept_part.ensures.fit c.push_kept_part.ensures.few c.in_ok-push_path_by_hop.ensures c.in_ok-push_kept_part.ensures.bytes
