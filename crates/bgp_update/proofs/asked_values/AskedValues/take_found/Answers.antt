use Rattle.std.proofs.Common.{sym, ◌∙◌}
use Rattle.std.proofs.lemmas.Result.{IfErr-weaker}
use Rattle.bgp_update.specs.Families.{route_rules_of}
use Rattle.bgp_update.specs.Values.{all_values, as_written, kept_value, plain_rules, RefusesAsked, RefusesAttribute}
use Rattle.bgp_update.proofs.AskedTaken.{on_ok, takes_plain, refuses_plain, takes_kept, refuses_kept}
use Rattle.bgp_update.proofs.asked_values.AskedValues.take_found.Goals as goal

pub returns-in-Some-clause-ok : goal.returns-in-Some-clause-ok
returns-in-Some-clause-ok g c =
    on_ok c.take.result (takes_kept g.F.Unicast.family c.args.context c.args.width (as_written c.args.found.now) c.args.first.now c.args.self.now c.in-Some.attribute (sym c.of_code.ensures ∙ c.in-Some.is) c.take.new.self) c.take.ensures.ok

pub returns-in-Some-clause-err : goal.returns-in-Some-clause-err
returns-in-Some-clause-err g c =
    IfErr-weaker c.take.result (RefusesAsked c.args.self.now c.in-Some.attribute c.args.found.now.value.now) (RefusesAttribute (route_rules_of g.F.Unicast.family c.args.self.now.asked) c.args.context c.args.width (all_values c.args.first.now c.args.self.now) (as_written c.args.found.now))
    (refuses_kept g.F.Unicast.family c.args.context c.args.width (as_written c.args.found.now) c.args.first.now c.args.self.now c.in-Some.attribute (sym c.of_code.ensures ∙ c.in-Some.is)) c.take.ensures.err

pub returns-in-None-clause-ok : goal.returns-in-None-clause-ok
returns-in-None-clause-ok g c =
    on_ok c.take_found.result (takes_plain g.F.Unicast.family c.args.self.now.asked c.args.context c.args.width (as_written c.args.found.now) c.args.first.now c.args.self.now (sym c.of_code.ensures ∙ c.in-None.is) c.take_found.new.self) c.take_found.ensures.ok

pub returns-in-None-clause-err : goal.returns-in-None-clause-err
returns-in-None-clause-err g c =
    IfErr-weaker c.take_found.result (RefusesAttribute (plain_rules g.F.Unicast.family) c.args.context c.args.width (kept_value c.args.first.now) (as_written c.args.found.now)) (RefusesAttribute (route_rules_of g.F.Unicast.family c.args.self.now.asked) c.args.context c.args.width (all_values c.args.first.now c.args.self.now) (as_written c.args.found.now))
    (refuses_plain g.F.Unicast.family c.args.self.now.asked c.args.context c.args.width (as_written c.args.found.now) c.args.first.now c.args.self.now (sym c.of_code.ensures ∙ c.in-None.is)) c.take_found.ensures.err
