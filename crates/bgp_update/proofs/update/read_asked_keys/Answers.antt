use Rattle.std.proofs.Common.{◌≡◌, length, arith}
use Rattle.std.proofs.lemmas.Grind.{common_steps}
use Rattle.bgp_update.specs.Families.{route_rules_of}
use Rattle.bgp_update.specs.Values.{AreShort, CanPackKept, all_values, kept_value}
use Rattle.bgp_update.specs.Decoded.{behind_in}
use Rattle.bgp_update.proofs.FromFirstValues.{said_of, fails_of, fine_of}
use Rattle.bgp_update.proofs.PackedReadings.{asked_is}
use Rattle.bgp_update.proofs.update.read_asked_keys.Goals as goal

pub returns-clause-said : goal.returns-clause-said
unfolding behind_in
returns-clause-said g c =
    let own = c.in_ok-append_own_keys.ensures.appends in
    let start : c.len-start.result ≡ length c.args.keys.now.items = grind (arith, common_steps) in
    said_of (route_rules_of g.F.Unicast.family c.args.asked.now.asked) c.args.width c.args.add_path c.args.body.now (record { withdrawn = c.in_ok-fields.fields.withdrawn.now; attributes = c.in_ok-fields.fields.attributes.now; announced = c.in_ok-fields.fields.announced.now })
    own.added (all_values c.keep_asked-kept.new.first c.keep_asked-kept.new.kept) c.keep_asked-kept.result (record { fields_are = c.in_ok-fields.ensures; own_are = c.in_ok-append_own_keys.ensures.appends.is; keeps = c.keep_asked-kept.ensures.values; fault = c.keep_asked-kept.ensures.fault })
    c.len-start.result c.args.keys.now.items c.append_own_keys.new.keys.items c.append_behind.new.keys.items
    _ start own.parts (asked_is c.args.width c.keep_asked-kept.new.first c.keep_asked-kept.new.kept c.args.asked.now.asked c.keep_asked-kept.ensures.asked) c.append_behind.result c.append_behind.ensures.appends

pub returns-clause-fault : goal.returns-clause-fault
unfolding behind_in
returns-clause-fault g c =
    fails_of (route_rules_of g.F.Unicast.family c.args.asked.now.asked) c.args.width c.args.add_path c.args.body.now (record { withdrawn = c.in_ok-fields.fields.withdrawn.now; attributes = c.in_ok-fields.fields.attributes.now; announced = c.in_ok-fields.fields.announced.now })
    c.in_ok-append_own_keys.ensures.appends.added (all_values c.keep_asked-kept.new.first c.keep_asked-kept.new.kept) c.keep_asked-kept.result (record { fields_are = c.in_ok-fields.ensures; own_are = c.in_ok-append_own_keys.ensures.appends.is; keeps = c.keep_asked-kept.ensures.values; fault = c.keep_asked-kept.ensures.fault })
    c.append_behind.result c.append_behind.ensures.fault

pub returns-clause-packable : goal.returns-clause-packable
returns-clause-packable g c =
    fine_of (CanPackKept c.args.width c.keep_asked-kept.new.first) g.F.Unicast.family c.args.add_path (kept_value c.keep_asked-kept.new.first) c.keep_asked-kept.result c.in_ok-fields.fields.announced.now
    c.len-start.result c.append_own_keys.new.keys.items c.append_behind.new.keys.items c.append_behind.result c.append_behind.ensures.appends c.keep_asked-kept.ensures.packable

pub returns-clause-short : goal.returns-clause-short
returns-clause-short g c =
    fine_of (AreShort c.keep_asked-kept.new.kept) g.F.Unicast.family c.args.add_path (kept_value c.keep_asked-kept.new.first) c.keep_asked-kept.result c.in_ok-fields.fields.announced.now
    c.len-start.result c.append_own_keys.new.keys.items c.append_behind.new.keys.items c.append_behind.result c.append_behind.ensures.appends c.keep_asked-kept.ensures.short
