use Rattle.std.proofs.Common.{◌≡◌, not, ◌&&◌, ◌||◌, ap, ◌∙◌}
use Rattle.std.specs.Prelude.{is_none}
use Rattle.bgp_update.specs.declared.route.Route.{Route}
use Rattle.bgp_update.specs.Decoded.{route_at}
use Rattle.bgp_update.proofs.HandledUpdates.{none_is, some_keys}
use Rattle.bgp_update.proofs.handling.lacks_mandatory.Goals as goal

pub returns : goal.returns
returns c = λ keys there.
    let announced = some_keys keys c.args.spans.now.announced there.announced in
    let reached = some_keys keys c.args.spans.now.reached there.reached in
    let route = route_at c.args.bytes.now c.args.spans.now.route in
    let origin : c.is_none.result ≡ is_none route.origin = none_is c.origin.result c.is_none.result c.is_none.ensures ∙ ap is_none (c.origin.ensures ∙ ap (λ (r : Route). r.origin) c.route.ensures) in
    let path : c.is_none-2.result ≡ is_none route.path = none_is c.path.result c.is_none-2.result c.is_none-2.ensures ∙ ap is_none (c.path.ensures ∙ ap (λ (r : Route). r.path) c.route.ensures) in
    let hop : c.is_none-3.result ≡ is_none route.next_hop = none_is c.next_hop.result c.is_none-3.result c.is_none-3.ensures ∙ ap is_none (c.next_hop.ensures ∙ ap (λ (r : Route). r.next_hop) c.route.ensures) in
    rw (announced, reached)
    (λ i. ((not (c.is_empty-announces.ensures i) || not (c.is_empty-reaches.ensures i)) && (origin i || path i)) || (not (c.is_empty-announces.ensures i) && hop i))
