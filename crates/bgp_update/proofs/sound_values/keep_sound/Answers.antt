use Rattle.std.proofs.Common.{arith, ◌<◌, ◌≡◌, ◌∙◌, ◌++◌, ◌∷◌, [], List, length, subst}
use Rattle.std.proofs.lemmas.Bool.Decides.{nat_tests}
use Rattle.bgp_update.specs.declared.kept_attribute.AttributeSet.{AttributeSet}
use Rattle.bgp_update.specs.Families.{route_rules_of}
use Rattle.bgp_update.specs.Attributes.{WrittenAttribute}
use Rattle.bgp_update.specs.SoundValues.{HoldsSound, IsLost}
use Rattle.bgp_update.specs.Values.{as_written}
use Rattle.bgp_update.proofs.AttributeLoop.{attribute_at_shorter}
use Rattle.bgp_update.proofs.SoundFields.{front_goes_on, keeps_cut, keeps_whole, lost_cut, lost_whole, on_err}
use Rattle.bgp_update.proofs.sound_values.keep_sound.Goals as goal

pub loop-rest-smaller : goal.loop-rest-smaller
loop-rest-smaller g c = attribute_at_shorter c.loop-rest.rest.now (as_written c.in-Ok.attribute) c.in-Ok.after.now c.in-Ok.ensures

pub loop-rest-preserved : goal.loop-rest-preserved
loop-rest-preserved g c =
    let some : 0 < length c.loop-rest.rest.now = grind (arith, nat_tests) in
    let i = c.loop-rest.invariant in
    record {
      asked = c.in_ok-take-in-Ok.ensures.asked ∙ i.asked;
      places = c.in_ok-take-in-Ok.ensures.places;
      before = i.before ++ as_written c.in-Ok.attribute ∷ [];
      holds =
          subst (λ (set : AttributeSet). (before : List WrittenAttribute) → HoldsSound c.args.errors (route_rules_of g.F.Unicast.family set) c.args.context c.args.width before c.loop-rest.values → HoldsSound c.args.errors (route_rules_of g.F.Unicast.family set) c.args.context c.args.width (before ++ as_written c.in-Ok.attribute ∷ []) c.take.new.self)
          i.asked c.in_ok-take-in-Ok.ensures.ok i.before i.holds;
      front = i.front ∙ front_goes_on i.before c.loop-rest.rest.now (as_written c.in-Ok.attribute) c.in-Ok.after.now some c.in-Ok.ensures;
    }

pub returns-in_err-take-in-Ok-clause-lost : goal.returns-in_err-take-in-Ok-clause-lost
returns-in_err-take-in-Ok-clause-lost g c =
    let some : 0 < length c.loop-rest.rest.now = grind (arith, nat_tests) in
    let i = c.loop-rest.invariant in
    on_err c.from_residual.result
    (lost_whole c.args.errors (route_rules_of g.F.Unicast.family c.args.asked) c.args.context c.args.width c.args.bytes.now i.before c.loop-rest.rest.now (λ k. omega (arith, c.type_inv.bytes k)) i.front (as_written c.in-Ok.attribute) c.in-Ok.after.now some c.in-Ok.ensures
    (subst (λ (set : AttributeSet). (before : List WrittenAttribute) → HoldsSound c.args.errors (route_rules_of g.F.Unicast.family set) c.args.context c.args.width before c.loop-rest.values → IsLost (route_rules_of g.F.Unicast.family set) c.args.context c.args.width (before ++ as_written c.in-Ok.attribute ∷ []))
    i.asked c.in_err-take-in-Ok.ensures.err i.before i.holds))

pub returns-then-loses_keys-clause-lost : goal.returns-then-loses_keys-clause-lost
returns-then-loses_keys-clause-lost g c =
    let some : 0 < length c.loop-rest.rest.now = grind (arith, nat_tests) in
    let i = c.loop-rest.invariant in
    lost_cut c.args.errors (route_rules_of g.F.Unicast.family c.args.asked) c.args.context c.args.width c.args.bytes.now i.before c.loop-rest.rest.now (λ k. omega (arith, c.type_inv.bytes k)) i.front c.in-Err.fault some c.in-Err.ensures (c.loses_keys.ensures i.before ∙ c.if-loses_keys.true)

pub returns-in-Err-clause-keeps : goal.returns-in-Err-clause-keeps
returns-in-Err-clause-keeps g c =
    let some : 0 < length c.loop-rest.rest.now = grind (arith, nat_tests) in
    let i = c.loop-rest.invariant in
    keeps_cut c.args.errors (route_rules_of g.F.Unicast.family c.args.asked) c.args.context c.args.width c.args.bytes.now i.before c.loop-rest.rest.now (λ k. omega (arith, c.type_inv.bytes k)) i.front c.loop-rest.values c.in-Err.fault i.holds i.asked some c.in-Err.ensures (c.loses_keys.ensures i.before ∙ c.if-loses_keys.false)

pub returns-clause-keeps : goal.returns-clause-keeps
returns-clause-keeps g c =
    let none : length c.loop-rest.rest.now ≡ 0 = grind (arith, nat_tests) in
    let i = c.loop-rest.invariant in
    keeps_whole c.args.errors (route_rules_of g.F.Unicast.family c.args.asked) c.args.context c.args.width c.args.bytes.now i.before c.loop-rest.rest.now (λ k. omega (arith, c.type_inv.bytes k)) i.front c.loop-rest.values i.holds i.asked none
