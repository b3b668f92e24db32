use Rattle.std.proofs.Common.{rules}
use Rattle.bgp_update.specs.declared.attribute_type.AttributeType.TheVariants.{Kept}
use Rattle.bgp_update.specs.Values.{as_written, kept_value, plain_rules}
use Rattle.bgp_update.proofs.FirstTaken.{takes_unasked, unasked}
use Rattle.bgp_update.proofs.values.FirstValues.take_found.Goals as goal

pub returns-in-Kept-clause-ok : goal.returns-in-Kept-clause-ok
returns-in-Kept-clause-ok g c = takes_unasked (plain_rules g.F.Unicast.family) c.args.context c.args.width (kept_value c.args.self.now) (as_written c.args.found.now) (Kept c.in-Kept.field-0) (search rules) (unasked c.in-Kept.field-0)
