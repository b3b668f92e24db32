use Rattle.std.proofs.Common.{◌∙◌, subst, sym}
use Rattle.bgp_update.specs.declared.route.Route.{Route}
use Rattle.bgp_update.specs.declared.width.Width.TheVariants.{Two}
use Rattle.bgp_update.specs.Hops.{by_hop}
use Rattle.bgp_update.specs.Packing.{IsWritable}
use Rattle.bgp_update.specs.Values.{kept_route}
use Rattle.bgp_update.proofs.PackedReadings.{path_of_kept, path_flag_of_kept}
use Rattle.bgp_update.proofs.Packings.{path_behind}
use Rattle.bgp_update.proofs.packing.push_two.Goals as goal

pub push_path-requires : goal.push_path-requires
push_path-requires c = subst IsWritable (sym c.in_ok-path.ensures) c.requires.writable

pub returns : goal.returns
returns c =
    let r : Route = by_hop (kept_route Two c.args.first.now c.args.kept.now) c.args.hop.now in
    let front = c.in_ok-push_front.ensures in
    let path = path_of_kept Two c.args.first.now c.args.kept.now c.args.hop.now c.in_ok-path.path c.in_ok-path.ensures in
    let flag = path_flag_of_kept Two c.args.first.now c.args.kept.now c.args.hop.now c.in_ok-path.path c.in_ok-path.ensures in
    path_behind r c.is_some.result c.in_ok-path.path c.args.out.now.items c.push_front.new.out.items c.push_path.new.out.items front.widths
    (c.is_some.ensures ∙ sym flag) path front.bytes c.in_ok-push_path.ensures
