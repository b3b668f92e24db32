use Rattle.std.proofs.Common.{arith, ◌<◌, ◌≡◌, ◌∙◌, Err, length, refl, subst}
use Rattle.std.proofs.lemmas.Bool.Decides.{nat_tests}
use Rattle.std.proofs.lemmas.Result.{err_from_is_err_and}
use Rattle.bgp_update.specs.Attributes.{attributes_in}
use Rattle.bgp_update.specs.declared.kept_attribute.AttributeSet.{AttributeSet}
use Rattle.bgp_update.specs.Families.{route_rules_of}
use Rattle.bgp_update.specs.Values.{all_values, as_written, RefusesAttribute, TakesAttribute}
use Rattle.bgp_update.specs.Packing.{IsWritable}
use Rattle.bgp_update.proofs.AttributeLoop.{attribute_at_shorter, starts, goes_on, fails, refuses, ends}
use Rattle.bgp_update.proofs.PackedReadings.{all_keys, no_values, all_path, by_first, keeps_short, keeps_spelled, keeps_writable}
use Rattle.bgp_update.proofs.asked_values.keep_asked.Goals as goal

pub loop-rest-init : goal.loop-rest-init
loop-rest-init g c = record {
  room = c.requires.room;
  asked = refl;
  whole = c.requires.whole;
  reads = starts (route_rules_of g.F.Unicast.family c.args.kept.now.asked) c.args.context c.args.width (all_values c.args.first.now c.args.kept.now) c.args.bytes.now (no_values c.args.first.now c.args.kept.now c.requires.none c.requires.none_asked);
}

pub returns-in_err-attribute-clause-fault : goal.returns-in_err-attribute-clause-fault
returns-in_err-attribute-clause-fault g c =
    let some : 0 < length c.loop-rest.rest.now = grind (arith, nat_tests) in
    let p = err_from_is_err_and c.from_residual.result c.from_residual.ensures.1 in
    rw (p.1, p.2) (by_first g.F.Unicast.family c.args.context c.loop-rest.first c.loop-rest.kept (attributes_in (route_rules_of g.F.Unicast.family c.args.kept.now.asked) c.args.context c.args.width c.args.bytes.now) (Err c.in_err-attribute.field-0.0)
    (fails (route_rules_of g.F.Unicast.family c.args.kept.now.asked) c.args.context c.args.width (all_values c.loop-rest.first c.loop-rest.kept) c.loop-rest.rest.now (attributes_in (route_rules_of g.F.Unicast.family c.args.kept.now.asked) c.args.context c.args.width c.args.bytes.now) some c.loop-rest.invariant.reads c.in_err-attribute.field-0.0 c.in_err-attribute.ensures))

pub returns-in_err-take_found-clause-fault : goal.returns-in_err-take_found-clause-fault
returns-in_err-take_found-clause-fault g c =
    let some : 0 < length c.loop-rest.rest.now = grind (arith, nat_tests) in
    let p = err_from_is_err_and c.from_residual-in_err-take_found.result c.from_residual-in_err-take_found.ensures.1 in
    rw (p.1, p.2, c.in_err-take_found.ensures.same) (by_first g.F.Unicast.family c.args.context c.loop-rest.first c.loop-rest.kept (attributes_in (route_rules_of g.F.Unicast.family c.args.kept.now.asked) c.args.context c.args.width c.args.bytes.now) (Err c.in_err-take_found.field-0.0)
    (refuses (route_rules_of g.F.Unicast.family c.args.kept.now.asked) c.args.context c.args.width (all_values c.loop-rest.first c.loop-rest.kept) c.loop-rest.rest.now (attributes_in (route_rules_of g.F.Unicast.family c.args.kept.now.asked) c.args.context c.args.width c.args.bytes.now) some c.loop-rest.invariant.reads (as_written c.in_ok-attribute.attribute) c.in_ok-attribute.after.now c.in_ok-attribute.ensures c.in_err-take_found.field-0.0
    (subst (λ (s : AttributeSet). RefusesAttribute (route_rules_of g.F.Unicast.family s) c.args.context c.args.width (all_values c.loop-rest.first c.loop-rest.kept) (as_written c.in_ok-attribute.attribute) c.in_err-take_found.field-0.0) c.loop-rest.invariant.asked c.in_err-take_found.ensures.err)))

pub loop-rest-smaller : goal.loop-rest-smaller
loop-rest-smaller g c = attribute_at_shorter c.loop-rest.rest.now (as_written c.in_ok-attribute.attribute) c.in_ok-attribute.after.now c.in_ok-attribute.ensures

pub loop-rest-preserved : goal.loop-rest-preserved
loop-rest-preserved g c =
    let some : 0 < length c.loop-rest.rest.now = grind (arith, nat_tests) in
    record {
      room = c.take_found.ensures.room;
      asked = c.take_found.ensures.asked ∙ c.loop-rest.invariant.asked;
      whole = c.in_ok-take_found.ensures.whole;
      reads = goes_on (route_rules_of g.F.Unicast.family c.args.kept.now.asked) c.args.context c.args.width (all_values c.loop-rest.first c.loop-rest.kept) c.loop-rest.rest.now (attributes_in (route_rules_of g.F.Unicast.family c.args.kept.now.asked) c.args.context c.args.width c.args.bytes.now) some c.loop-rest.invariant.reads (as_written c.in_ok-attribute.attribute) c.in_ok-attribute.after.now c.in_ok-attribute.ensures (all_values c.take_found.new.first c.take_found.new.self)
          (subst (λ (s : AttributeSet). TakesAttribute (route_rules_of g.F.Unicast.family s) c.args.context c.args.width (all_values c.loop-rest.first c.loop-rest.kept) (as_written c.in_ok-attribute.attribute) (all_values c.take_found.new.first c.take_found.new.self)) c.loop-rest.invariant.asked c.in_ok-take_found.ensures.ok);
    }

pub returns-clause-values : goal.returns-clause-values
returns-clause-values g c =
    let none : length c.loop-rest.rest.now ≡ 0 = grind (arith, nat_tests) in
    ends (route_rules_of g.F.Unicast.family c.args.kept.now.asked) c.args.context c.args.width (all_values c.loop-rest.first c.loop-rest.kept) c.args.bytes.now c.loop-rest.rest.now none c.loop-rest.invariant.reads

pub returns-clause-packable : goal.returns-clause-packable
returns-clause-packable g c = λ fine.
    let keys = all_keys g.F.Unicast.family c.args.context c.loop-rest.first c.loop-rest.kept ∙ fine in
    record {
      four = keeps_spelled (route_rules_of g.F.Unicast.family c.args.kept.now.asked) c.args.context c.args.width c.args.bytes.now (all_values c.loop-rest.first c.loop-rest.kept) (λ i. omega (arith, c.type_inv.bytes i)) keys (returns-clause-values g c);
      writable = subst IsWritable (all_path c.args.width c.loop-rest.first c.loop-rest.kept) (keeps_writable (route_rules_of g.F.Unicast.family c.args.kept.now.asked) c.args.context c.args.width c.args.bytes.now (all_values c.loop-rest.first c.loop-rest.kept) (λ i. omega (arith, c.type_inv.bytes i)) keys (returns-clause-values g c));
    }

pub returns-clause-short : goal.returns-clause-short
returns-clause-short g c = λ fine.
    keeps_short (route_rules_of g.F.Unicast.family c.args.kept.now.asked) c.args.context c.args.width c.args.bytes.now c.loop-rest.first c.loop-rest.kept (λ i. omega (arith, c.type_inv.bytes i)) fine c.loop-rest.invariant.asked (returns-clause-values g c)

pub returns-clause-asked : goal.returns-clause-asked
returns-clause-asked g c = c.loop-rest.invariant.asked
