use Rattle.std.proofs.Common.{◌≡◌, length}
use Rattle.bgp_update.specs.Attributes.{attributes_in}
use Rattle.bgp_update.specs.Families.{route_rules_of}
use Rattle.bgp_update.specs.Values.{HasRoom, IsWhole, all_values}
use Rattle.bgp_update.proofs.AttributeLoop.{ReadsOn}
use Rattle.bgp_update.proofs.asked_values.keep_asked.Given as goal

abbrev pub invariant-loop-rest : goal.invariant-loop-rest
invariant-loop-rest g l = record {
  room : HasRoom l.kept;
  asked : l.kept.asked ≡ l.fn.kept.asked;
  whole : IsWhole l.first;
  reads : ReadsOn (route_rules_of g.F.Unicast.family l.fn.kept.asked) l.context l.width (all_values l.first l.kept) l.rest (attributes_in (route_rules_of g.F.Unicast.family l.fn.kept.asked) l.context l.width l.bytes);
}

abbrev pub decreases-loop-rest : goal.decreases-loop-rest
decreases-loop-rest g l = length l.rest
