use Rattle.std.proofs.Common.{arith, ◌<◌, ◌≡◌, length}
use Rattle.std.proofs.lemmas.Bool.Decides.{nat_tests}
use Rattle.std.proofs.lemmas.Result.{err_from_is_err_and}
use Rattle.bgp_update.specs.Attributes.{attributes_in}
use Rattle.bgp_update.specs.Values.{as_written, kept_value, plain_rules}
use Rattle.bgp_update.proofs.AttributeLoop.{attribute_at_shorter, starts, goes_on, fails, refuses, ends}
use Rattle.bgp_update.proofs.PackedReadings.{keeps_spelled, keeps_writable}
use Rattle.bgp_update.proofs.values.keep_values.Goals as goal

pub loop-rest-init : goal.loop-rest-init
loop-rest-init g c = record {
  whole = c.requires.whole;
  reads = starts (plain_rules g.F.Unicast.family) c.args.context c.args.width (kept_value c.args.first.now) c.args.bytes.now c.requires.none;
}

pub returns-in_err-attribute-clause-fault : goal.returns-in_err-attribute-clause-fault
returns-in_err-attribute-clause-fault g c =
    let some : 0 < length c.loop-rest.rest.now = grind (arith, nat_tests) in
    let p = err_from_is_err_and c.from_residual.result c.from_residual.ensures.1 in
    rw (p.1, p.2) (fails (plain_rules g.F.Unicast.family) c.args.context c.args.width (kept_value c.loop-rest.first) c.loop-rest.rest.now (attributes_in (plain_rules g.F.Unicast.family) c.args.context c.args.width c.args.bytes.now) some c.loop-rest.invariant.reads c.in_err-attribute.field-0.0 c.in_err-attribute.ensures)

pub returns-in_err-take_found-clause-fault : goal.returns-in_err-take_found-clause-fault
returns-in_err-take_found-clause-fault g c =
    let some : 0 < length c.loop-rest.rest.now = grind (arith, nat_tests) in
    let p = err_from_is_err_and c.from_residual-in_err-take_found.result c.from_residual-in_err-take_found.ensures.1 in
    rw (p.1, p.2, c.in_err-take_found.ensures.same) (refuses (plain_rules g.F.Unicast.family) c.args.context c.args.width (kept_value c.loop-rest.first) c.loop-rest.rest.now (attributes_in (plain_rules g.F.Unicast.family) c.args.context c.args.width c.args.bytes.now) some c.loop-rest.invariant.reads (as_written c.in_ok-attribute.attribute) c.in_ok-attribute.after.now c.in_ok-attribute.ensures c.in_err-take_found.field-0.0 c.in_err-take_found.ensures.err)

pub loop-rest-smaller : goal.loop-rest-smaller
loop-rest-smaller g c = attribute_at_shorter c.loop-rest.rest.now (as_written c.in_ok-attribute.attribute) c.in_ok-attribute.after.now c.in_ok-attribute.ensures

pub loop-rest-preserved : goal.loop-rest-preserved
loop-rest-preserved g c =
    let some : 0 < length c.loop-rest.rest.now = grind (arith, nat_tests) in
    record {
      whole = c.in_ok-take_found.ensures.whole;
      reads = goes_on (plain_rules g.F.Unicast.family) c.args.context c.args.width (kept_value c.loop-rest.first) c.loop-rest.rest.now (attributes_in (plain_rules g.F.Unicast.family) c.args.context c.args.width c.args.bytes.now) some c.loop-rest.invariant.reads (as_written c.in_ok-attribute.attribute) c.in_ok-attribute.after.now c.in_ok-attribute.ensures (kept_value c.take_found.new.self) c.in_ok-take_found.ensures.ok;
    }

pub returns-clause-values : goal.returns-clause-values
returns-clause-values g c =
    let none : length c.loop-rest.rest.now ≡ 0 = grind (arith, nat_tests) in
    ends (plain_rules g.F.Unicast.family) c.args.context c.args.width (kept_value c.loop-rest.first) c.args.bytes.now c.loop-rest.rest.now none c.loop-rest.invariant.reads

pub returns-clause-packable : goal.returns-clause-packable
returns-clause-packable g c = λ fine.
    record {
      four = keeps_spelled (plain_rules g.F.Unicast.family) c.args.context c.args.width c.args.bytes.now (kept_value c.loop-rest.first) (λ i. omega (arith, c.type_inv.bytes i)) fine (returns-clause-values g c);
      writable = keeps_writable (plain_rules g.F.Unicast.family) c.args.context c.args.width c.args.bytes.now (kept_value c.loop-rest.first) (λ i. omega (arith, c.type_inv.bytes i)) fine (returns-clause-values g c);
    }
