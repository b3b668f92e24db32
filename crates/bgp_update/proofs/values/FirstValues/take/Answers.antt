use Rattle.std.proofs.Common.{rules}
use Rattle.bgp_update.specs.Values.{as_written, kept_value, plain_rules}
use Rattle.bgp_update.proofs.FirstTaken.{takes_first, takes_again, atomic_is_empty}
use Rattle.bgp_update.proofs.values.FirstValues.take.Goals as goal

pub returns-else-refuses_repeat-clause-ok : goal.returns-else-refuses_repeat-clause-ok
returns-else-refuses_repeat-clause-ok g c =
    takes_again (plain_rules g.F.Unicast.family) c.args.context c.args.width (kept_value c.args.self.now) (as_written c.args.attribute.now) c.args.attribute_type c.in-Some.field-0.now (search rules) (search rules) (search rules)

pub returns-in_default-clause-ok : goal.returns-in_default-clause-ok
returns-in_default-clause-ok g c =
    takes_first (plain_rules g.F.Unicast.family) c.args.context c.args.width (kept_value c.args.self.now) (kept_value c.keep.new.self) (as_written c.args.attribute.now) c.args.attribute_type (search rules) (search rules) (search rules) (search rules)

pub keep-requires-clause-atomic : goal.keep-requires-clause-atomic
keep-requires-clause-atomic g c = λ h. atomic_is_empty (plain_rules g.F.Unicast.family) c.args.context c.args.width c.args.attribute_type c.args.attribute.now.value.now h (search rules)
