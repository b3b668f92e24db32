use Rattle.std.proofs.Common.{List, [], ◌≡◌, ◌||◌, ◌∙◌, Ok, ap, subst, sym}
use Rattle.bgp_prefix.specs.Keys.{RouteKey}
use Rattle.bgp_update.specs.declared.route.Route.{Route}
use Rattle.bgp_update.specs.Decoded.{split_update}
use Rattle.bgp_update.specs.Families.{route_rules}
use Rattle.bgp_update.specs.Handling.{handled_update, lacks_mandatory, withdrawing_if}
use Rattle.bgp_update.specs.KeptAttributes.{KeptValue}
use Rattle.bgp_update.specs.Packing.{IsWritable}
use Rattle.bgp_update.specs.SoundValues.{AreHandledKeys}
use Rattle.bgp_update.specs.Updates.{Update}
use Rattle.bgp_update.specs.Values.{kept_route, values_asked}
use Rattle.bgp_update.proofs.HandledUpdates.{kept_writable, split_handled, still_writable}
use Rattle.bgp_update.proofs.handling.read_handled_update.Goals as goal

pub returns-clause-exact : goal.returns-clause-exact
returns-clause-exact g c =
    let n = c.in_ok-damaged.damaged.appended in
    let keys = c.append_handled.new.keys.items in
    let first = c.in_ok-damaged.damaged.values.first in
    let grave = c.in_ok-damaged.damaged.values.grave in
    let route : Route = kept_route c.args.width first (values_asked c.in_ok-damaged.damaged.values.asked) in
    let handled = handled_update c.args.rules.errors (route_rules c.args.rules) c.args.width c.args.add_path c.args.body.now in
    let said : AreHandledKeys [] keys n route grave handled = subst (λ (before : List RouteKey). AreHandledKeys before keys n route grave handled) c.new-keys.ensures.items c.in_ok-damaged.ensures.said in
    let own = c.in_ok-route.ensures ∙ ap (λ (ks : List KeptValue). kept_route c.args.width first ks) c.in_ok-block.ensures in
    let same : c.in_ok-update.update ≡ split_update keys n route = c.in_ok-update.ensures ∙ (λ i. split_update (c.as_slice.ensures.value i) n (own i)) in
    let ends : c.in_ok-handled.handled ≡ withdrawing_if (grave || lacks_mandatory (split_update keys n route)) (split_update keys n route) =
    c.in_ok-handled.ensures ∙ (λ i. withdrawing_if (grave || c.lacks_mandatory.ensures i) c.in_ok-update.update) ∙ ap (λ (u : Update). withdrawing_if (grave || lacks_mandatory u) u) same in
    split_handled keys n route grave handled said ∙ ap (λ (u : Update). Ok u) (sym ends)

pub returns-clause-writable : goal.returns-clause-writable
returns-clause-writable g c =
    let own = c.in_ok-update.ensures ∙ ap (λ (r : Route). split_update c.as_slice.result.now c.in_ok-damaged.damaged.appended r) c.in_ok-route.ensures in
    subst (λ (u : Update). IsWritable u.route.path) (sym c.in_ok-handled.ensures)
    (still_writable (c.in_ok-damaged.damaged.values.grave || c.lacks_mandatory.result) c.in_ok-update.update
    (subst (λ (u : Update). IsWritable u.route.path) (sym own) (kept_writable c.args.width c.in_ok-damaged.damaged.values.first c.in_ok-block.block c.in_ok-damaged.ensures.packable)))
