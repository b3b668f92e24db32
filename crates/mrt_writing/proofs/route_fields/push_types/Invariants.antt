-- the attributes of the types so far
use Rattle.std.proofs.Common.{◌≡◌, ◌++◌, take}
use Rattle.std.specs.Prelude.{option_map}
use Rattle.std.specs.List.{flat_map}
use Rattle.mrt_writing.specs.RouteAttributes.{own_hop, reach_by, route_values, value_bytes}
use Rattle.mrt_writing.proofs.route_fields.push_types.Given as goal

abbrev pub invariant-loop-attribute_type : goal.invariant-loop-attribute_type
invariant-loop-attribute_type l =
    l.out.items ≡ l.fn.out.items ++ flat_map (λ t. value_bytes t (route_values (own_hop l.fn.own_fields l.fn.route.next_hop) (reach_by (option_map (λ r. r.now) l.fn.reach) l.fn.own_fields l.fn.route.next_hop) l.fn.route t)) (take l.attribute_type-index l.fn.attribute_types)
