use Rattle.std.proofs.Common.{arith, ◌<◌, ◌≡◌, length, ◌++◌}
use Rattle.bgp_update.specs.Keys as keys_spec
use Rattle.bgp_update.specs.Keys.{route_keys_in}
use Rattle.std.proofs.lemmas.Bool.Decides.{nat_tests}
use Rattle.bgp_update.specs.Families.{form_of}
use Rattle.bgp_update.proofs.Readings.{mapped_err}
use Rattle.bgp_update.proofs.KeyLoops.{keys_go_on, keys_fail, keys_done, key_at_shorter, appends_of}
use Rattle.bgp_update.proofs.Spans.{IsGrown-trans, grown_by}
use Rattle.bgp_update.proofs.key.append_keys.Goals as goal

pub loop-rest-smaller : goal.loop-rest-smaller
loop-rest-smaller g c = key_at_shorter (form_of g.F.Unicast.family c.args.add_path) c.loop-rest.rest.now c.in-Ok.key c.in-Ok.after.now c.in-Ok.ensures

pub loop-rest-preserved : goal.loop-rest-preserved
loop-rest-preserved g c =
    let some : 0 < length c.loop-rest.rest.now = grind (arith, nat_tests) in
    let form = form_of g.F.Unicast.family c.args.add_path in
    record {
      so_far = rw c.in_ok-push-in-Ok.ensures.items (keys_go_on form c.loop-rest.keys.items c.loop-rest.rest.now c.in-Ok.key c.in-Ok.after.now (keys_spec.with_keys c.args.keys.now.items (route_keys_in form c.args.bytes.now)) some c.in-Ok.ensures c.loop-rest.invariant.so_far);
      grown = IsGrown-trans c.args.keys.now.items c.loop-rest.keys.items _ c.loop-rest.invariant.grown (grown_by c.loop-rest.keys.items _ _ c.in_ok-push-in-Ok.ensures.items);
    }

pub returns-in-Err-clause-fault : goal.returns-in-Err-clause-fault
returns-in-Err-clause-fault g c =
    let some : 0 < length c.loop-rest.rest.now = grind (arith, nat_tests) in
    let form = form_of g.F.Unicast.family c.args.add_path in
    let total = keys_spec.with_keys c.args.keys.now.items (route_keys_in form c.args.bytes.now) in
    mapped_err (route_keys_in form c.args.bytes.now) (λ more. c.args.keys.now.items ++ more) c.in-Err.fault (keys_fail form c.loop-rest.keys.items c.loop-rest.rest.now c.in-Err.fault total some c.in-Err.ensures c.loop-rest.invariant.so_far)

pub returns-clause-appends : goal.returns-clause-appends
returns-clause-appends g c =
    let none : length c.loop-rest.rest.now ≡ 0 = grind (arith, nat_tests) in
    let form = form_of g.F.Unicast.family c.args.add_path in
    let total = keys_spec.with_keys c.args.keys.now.items (route_keys_in form c.args.bytes.now) in
    appends_of c.args.keys.now.items c.loop-rest.keys.items (route_keys_in form c.args.bytes.now) (keys_done form c.loop-rest.keys.items c.loop-rest.rest.now total none c.loop-rest.invariant.so_far)
