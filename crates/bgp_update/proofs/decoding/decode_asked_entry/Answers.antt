use Rattle.std.proofs.Common.{List, ap, subst, ◌≡◌, ◌∙◌}
use Rattle.bgp_update.specs.declared.attribute_context.AttributeContext.TheVariants.{RibEntry}
use Rattle.bgp_update.specs.declared.kept_attribute.AttributeSet.{AttributeSet}
use Rattle.bgp_update.specs.Attributes.{entry_route}
use Rattle.bgp_update.specs.Decoded.{route_at}
use Rattle.bgp_update.specs.Families.{route_rules_of}
use Rattle.bgp_update.specs.KeptAttributes.{KeptValue}
use Rattle.bgp_update.specs.Values.{KeepsFirst, all_values, kept_entry_route}
use Rattle.bgp_update.proofs.FromFirstValues.{route_of_first_values}
use Rattle.bgp_update.proofs.PackedReadings.{asked_entry}
use Rattle.bgp_update.proofs.decoding.decode_asked_entry.Goals as goal

pub returns-clause-exact : goal.returns-clause-exact
returns-clause-exact g c =
    let first = c.keep_asked.new.first in
    let kept = c.keep_asked.new.kept in
    let route = route_at c.pack_entry.new.out.items c.in_ok-span.span in
    let began = c.new-kept.ensures.asked in
    let said : route ≡ entry_route (route_rules_of g.F.Unicast.family c.args.asked) c.args.width (all_values first kept) =
    c.in_ok-span.ensures.is ∙ ap (λ (ks : List KeptValue). kept_entry_route g.F.Unicast.family c.args.width first ks) c.in_ok-values.ensures ∙ asked_entry g.F.Unicast.family c.args.width first kept
    ∙ ap (λ (s : AttributeSet). entry_route (route_rules_of g.F.Unicast.family s) c.args.width (all_values first kept)) (c.in_ok-keep_asked.ensures.asked ∙ began) in
    route_of_first_values (route_rules_of g.F.Unicast.family c.args.asked) c.args.width c.args.attrs.now (all_values first kept) route
    (subst (λ (s : AttributeSet). KeepsFirst (route_rules_of g.F.Unicast.family s) RibEntry c.args.width c.args.attrs.now (all_values first kept)) began c.in_ok-keep_asked.ensures.values) said
