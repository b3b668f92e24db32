use Rattle.std.specs.Prelude.{option_map}
use Rattle.mrt_writing.specs.RouteAttributes.{own_hop, reach_by, route_values}
use Rattle.mrt_writing.proofs.RouteLaws.{fields_on_ok}
use Rattle.mrt_writing.proofs.route_fields.push_all.Goals as goal

pub returns : goal.returns
returns c = fields_on_ok c.push_types.result (route_values (own_hop c.args.own_fields c.args.route.now.next_hop) (reach_by (option_map (λ r. r.now) c.args.reach) c.args.own_fields c.args.route.now.next_hop) c.args.route.now) c.args.out.now.items c.push_types.new.out.items c.push_types.ensures
