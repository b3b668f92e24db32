use Rattle.std.proofs.Common.{◌≡◌, length, arith}
use Rattle.std.proofs.lemmas.Grind.{common_steps}
use Rattle.bgp_update.specs.Decoded.{behind_in}
use Rattle.bgp_update.specs.Families.{route_rules_of}
use Rattle.bgp_update.specs.Handling.{recovered_update}
use Rattle.bgp_update.specs.declared.attr_error.AttrError.{AttrError}
use Rattle.bgp_update.specs.Results.{FailsIfAny}
use Rattle.bgp_update.specs.Updates.{own_keys_in}
use Rattle.bgp_update.specs.Values.{kept_value}
use Rattle.bgp_update.proofs.HandledUpdates.{all_err, any_fails, err_is, fault_fails, fields_fail, own_fail, lost_fails, passed_on, behind_fail, are_handled}
use Rattle.bgp_update.proofs.PackedReadings.{asked_is}
use Rattle.bgp_update.proofs.handling.append_recovered.Goals as goal

pub returns-in_err-fields-clause-fault : goal.returns-in_err-fields-clause-fault
returns-in_err-fields-clause-fault g c =
    all_err c.from_residual.result (λ e. any_fails (recovered_update c.args.errors (route_rules_of g.F.Unicast.family c.args.asked) c.args.width c.args.add_path c.args.body.now) e (fields_fail c.args.errors (route_rules_of g.F.Unicast.family c.args.asked) c.args.width c.args.add_path c.args.body.now c.in_err-fields.field-0.0 c.in_err-fields.ensures))

pub returns-in_err-append_own_keys-clause-fault : goal.returns-in_err-append_own_keys-clause-fault
returns-in_err-append_own_keys-clause-fault g c =
    err_is (λ (e : AttrError). FailsIfAny e (recovered_update c.args.errors (route_rules_of g.F.Unicast.family c.args.asked) c.args.width c.args.add_path c.args.body.now)) c.from_residual-in_err-append_own_keys.result c.in_err-append_own_keys.field-0.0 c.from_residual-in_err-append_own_keys.ensures.1
    (fault_fails (own_keys_in g.F.Unicast.family c.args.add_path c.in_ok-fields.fields.withdrawn.now) (recovered_update c.args.errors (route_rules_of g.F.Unicast.family c.args.asked) c.args.width c.args.add_path c.args.body.now) c.in_err-append_own_keys.field-0.0
    (own_fail c.args.errors (route_rules_of g.F.Unicast.family c.args.asked) c.args.width c.args.add_path c.args.body.now (record { withdrawn = c.in_ok-fields.fields.withdrawn.now; attributes = c.in_ok-fields.fields.attributes.now; announced = c.in_ok-fields.fields.announced.now }) c.in_ok-fields.ensures) c.in_err-append_own_keys.ensures.fault)

pub returns-in_err-values-clause-fault : goal.returns-in_err-values-clause-fault
returns-in_err-values-clause-fault g c =
    all_err c.from_residual-in_err-values.result (λ e. any_fails (recovered_update c.args.errors (route_rules_of g.F.Unicast.family c.args.asked) c.args.width c.args.add_path c.args.body.now) e (lost_fails c.args.errors (route_rules_of g.F.Unicast.family c.args.asked) c.args.width c.args.add_path c.args.body.now (record { withdrawn = c.in_ok-fields.fields.withdrawn.now; attributes = c.in_ok-fields.fields.attributes.now; announced = c.in_ok-fields.fields.announced.now }) c.in_ok-fields.ensures c.in_err-values.ensures.lost))

pub returns-in_err-appended-clause-fault : goal.returns-in_err-appended-clause-fault
returns-in_err-appended-clause-fault g c =
    err_is (λ (e : AttrError). FailsIfAny e (recovered_update c.args.errors (route_rules_of g.F.Unicast.family c.args.asked) c.args.width c.args.add_path c.args.body.now)) c.from_residual-in_err-appended.result c.in_err-appended.field-0.0 c.from_residual-in_err-appended.ensures.1
    (fault_fails (behind_in g.F.Unicast.family c.args.add_path (kept_value c.in_ok-values.values.first) passed_on c.in_ok-fields.fields.announced.now) (recovered_update c.args.errors (route_rules_of g.F.Unicast.family c.args.asked) c.args.width c.args.add_path c.args.body.now) c.in_err-appended.field-0.0
    (behind_fail c.args.errors (route_rules_of g.F.Unicast.family c.args.asked) c.args.width c.args.add_path c.args.body.now (record { withdrawn = c.in_ok-fields.fields.withdrawn.now; attributes = c.in_ok-fields.fields.attributes.now; announced = c.in_ok-fields.fields.announced.now }) c.in_ok-fields.ensures c.in_ok-values.values c.in_ok-values.ensures.keeps) c.in_err-appended.ensures.fault)

pub returns-clause-said : goal.returns-clause-said
returns-clause-said g c =
    let own = c.in_ok-append_own_keys.ensures.appends in
    let start : c.len-start.result ≡ length c.args.keys.now.items = grind (arith, common_steps) in
    are_handled c.args.errors (route_rules_of g.F.Unicast.family c.args.asked) c.args.width c.args.add_path c.args.body.now (record { withdrawn = c.in_ok-fields.fields.withdrawn.now; attributes = c.in_ok-fields.fields.attributes.now; announced = c.in_ok-fields.fields.announced.now }) c.in_ok-fields.ensures c.in_ok-values.values c.in_ok-values.ensures.keeps own.added own.is
    c.len-start.result c.args.keys.now.items c.append_own_keys.new.keys.items c.append_behind.new.keys.items c.in_ok-appended.appended start own.parts c.in_ok-appended.ensures.appends
    _ (asked_is c.args.width c.in_ok-values.values.first c.in_ok-values.values.asked c.args.asked c.in_ok-values.ensures.asked)
