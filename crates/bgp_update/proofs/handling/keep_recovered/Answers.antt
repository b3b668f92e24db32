use Rattle.bgp_update.specs.Families.{route_rules_of}
use Rattle.bgp_update.proofs.HandledEntries.{entry_lost, entry_grave, entry_is}
use Rattle.bgp_update.proofs.HandledUpdates.{all_err}
use Rattle.bgp_update.proofs.handling.keep_recovered.Goals as goal

pub returns-in_err-values-clause-fault : goal.returns-in_err-values-clause-fault
returns-in_err-values-clause-fault g c = all_err c.from_residual.result (λ e. entry_lost c.args.errors (route_rules_of g.F.Unicast.family c.args.asked) c.args.width c.args.attrs.now c.in_err-values.ensures.lost)

pub returns-then-values-clause-fault : goal.returns-then-values-clause-fault
returns-then-values-clause-fault g c = entry_grave c.args.errors (route_rules_of g.F.Unicast.family c.args.asked) c.args.width c.args.attrs.now c.in_ok-values.values c.in_ok-values.ensures.keeps c.if-values.true

pub returns-clause-exact : goal.returns-clause-exact
returns-clause-exact g c = entry_is c.args.errors (route_rules_of g.F.Unicast.family c.args.asked) c.args.width c.args.attrs.now c.in_ok-values.values c.in_ok-values.ensures.keeps c.in_ok-values.ensures.asked c.if-values.false
