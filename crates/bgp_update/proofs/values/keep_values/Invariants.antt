use Rattle.std.proofs.Common.{length}
use Rattle.bgp_update.specs.Attributes.{attributes_in}
use Rattle.bgp_update.specs.Values.{IsWhole, kept_value, plain_rules}
use Rattle.bgp_update.proofs.AttributeLoop.{ReadsOn}
use Rattle.bgp_update.proofs.values.keep_values.Given as goal

abbrev pub invariant-loop-rest : goal.invariant-loop-rest
invariant-loop-rest g l = record {
  whole : IsWhole l.first;
  reads : ReadsOn (plain_rules g.F.Unicast.family) l.context l.width (kept_value l.first) l.rest (attributes_in (plain_rules g.F.Unicast.family) l.context l.width l.bytes);
}

abbrev pub decreases-loop-rest : goal.decreases-loop-rest
decreases-loop-rest g l = length l.rest
