use Rattle.std.proofs.Common.{ℕ, List, Bool, ◌≡◌, ◌||◌, ◌∙◌, Ok, ap, length, subst, sym, arith}
use Rattle.std.proofs.lemmas.Grind.{common_steps}
use Rattle.std.specs.Prelude.{IfSome}
use Rattle.bgp_update.specs.Decoded.{AddsRoute, AreUpdateSpans, IsUpdateAt, update_at}
use Rattle.bgp_update.specs.Families.{route_rules}
use Rattle.bgp_update.specs.Handling.{handled_update, lacks_mandatory, withdrawing_if}
use Rattle.bgp_update.specs.Hops.{by_hop}
use Rattle.bgp_update.specs.KeptAttributes.{KeptValue}
use Rattle.bgp_update.specs.Updates.{Update}
use Rattle.bgp_update.specs.Values.{kept_route, values_asked}
use Rattle.bgp_update.proofs.HandledUpdates.{decoded_handled}
use Rattle.bgp_update.proofs.handling.decode_handled_update.Goals as goal

pub withdrawing_if-requires : goal.withdrawing_if-requires
withdrawing_if-requires g c =
    let keys = c.args.keys.now.items in
    let n = c.in_ok-damaged.damaged.appended in
    let first = c.in_ok-damaged.damaged.values.first in
    let old = c.args.bytes.now.items in
    let mid = c.pack_values.new.out.items in
    let new = c.pack_reached.new.out.items in
    let start : c.len-start.result ≡ length keys = grind (arith, common_steps) in
    let spans : AreUpdateSpans (length keys) n c.in_ok-route.route c.in_ok-reached_route.reached_route c.in_ok-spans.spans =
    subst (λ s. AreUpdateSpans s n c.in_ok-route.route c.in_ok-reached_route.reached_route c.in_ok-spans.spans) start c.in_ok-spans.ensures in
    let ks : List KeptValue = values_asked c.in_ok-damaged.damaged.values.asked in
    let adds : AddsRoute old mid (kept_route c.args.width first ks) c.in_ok-route.route =
    subst (λ (k : List KeptValue). AddsRoute old mid (kept_route c.args.width first k) c.in_ok-route.route) c.in_ok-kept.ensures c.in_ok-route.ensures in
    let by_reached : IfSome c.in_ok-reached_route.reached_route (AddsRoute mid new (by_hop (kept_route c.args.width first ks) n.reached_hop)) =
    subst (λ (k : List KeptValue). IfSome c.in_ok-reached_route.reached_route (AddsRoute mid new (by_hop (kept_route c.args.width first k) n.reached_hop))) c.in_ok-kept.ensures c.in_ok-reached_route.ensures.route in
    let decoded = decoded_handled keys c.append_handled.new.keys.items old mid new n (kept_route c.args.width first ks) c.in_ok-damaged.damaged.values.grave
    (handled_update c.args.rules.errors (route_rules c.args.rules) c.args.width c.args.add_path c.args.body.now) c.in_ok-route.route c.in_ok-reached_route.reached_route c.in_ok-spans.spans
    c.in_ok-damaged.ensures.said spans adds c.in_ok-reached_route.ensures.grown by_reached c.in_ok-reached_route.ensures.both in
    subst (λ (bytes : List ℕ). IsUpdateAt c.append_handled.new.keys.items bytes c.in_ok-spans.spans) (sym c.as_slice-2.ensures.value) decoded.0

pub returns-clause-exact : goal.returns-clause-exact
returns-clause-exact g c =
    let keys = c.args.keys.now.items in
    let n = c.in_ok-damaged.damaged.appended in
    let first = c.in_ok-damaged.damaged.values.first in
    let old = c.args.bytes.now.items in
    let mid = c.pack_values.new.out.items in
    let new = c.pack_reached.new.out.items in
    let start : c.len-start.result ≡ length keys = grind (arith, common_steps) in
    let spans : AreUpdateSpans (length keys) n c.in_ok-route.route c.in_ok-reached_route.reached_route c.in_ok-spans.spans =
    subst (λ s. AreUpdateSpans s n c.in_ok-route.route c.in_ok-reached_route.reached_route c.in_ok-spans.spans) start c.in_ok-spans.ensures in
    let ks : List KeptValue = values_asked c.in_ok-damaged.damaged.values.asked in
    let adds : AddsRoute old mid (kept_route c.args.width first ks) c.in_ok-route.route =
    subst (λ (k : List KeptValue). AddsRoute old mid (kept_route c.args.width first k) c.in_ok-route.route) c.in_ok-kept.ensures c.in_ok-route.ensures in
    let by_reached : IfSome c.in_ok-reached_route.reached_route (AddsRoute mid new (by_hop (kept_route c.args.width first ks) n.reached_hop)) =
    subst (λ (k : List KeptValue). IfSome c.in_ok-reached_route.reached_route (AddsRoute mid new (by_hop (kept_route c.args.width first k) n.reached_hop))) c.in_ok-kept.ensures c.in_ok-reached_route.ensures.route in
    let decoded = decoded_handled keys c.append_handled.new.keys.items old mid new n (kept_route c.args.width first ks) c.in_ok-damaged.damaged.values.grave
    (handled_update c.args.rules.errors (route_rules c.args.rules) c.args.width c.args.add_path c.args.body.now) c.in_ok-route.route c.in_ok-reached_route.reached_route c.in_ok-spans.spans
    c.in_ok-damaged.ensures.said spans adds c.in_ok-reached_route.ensures.grown by_reached c.in_ok-reached_route.ensures.both in
    let after = c.append_handled.new.keys.items in
    let u : Update = update_at after new c.in_ok-spans.spans in
    let there : IsUpdateAt after c.as_slice.result.now c.in_ok-spans.spans = subst (λ (bytes : List ℕ). IsUpdateAt after bytes c.in_ok-spans.spans) (sym c.as_slice.ensures.value) decoded.0 in
    let lacks : c.lacks_mandatory.result ≡ lacks_mandatory u = c.lacks_mandatory.ensures after there ∙ ap (λ (bytes : List ℕ). lacks_mandatory (update_at after bytes c.in_ok-spans.spans)) c.as_slice.ensures.value in
    let ends : update_at c.withdrawing_if.new.keys.items new c.in_ok-handled.handled ≡ withdrawing_if (c.in_ok-damaged.damaged.values.grave || c.lacks_mandatory.result) u =
    subst (λ (bytes : List ℕ). update_at c.withdrawing_if.new.keys.items bytes c.in_ok-handled.handled ≡ withdrawing_if (c.in_ok-damaged.damaged.values.grave || c.lacks_mandatory.result) (update_at after bytes c.in_ok-spans.spans))
    c.as_slice-2.ensures.value c.in_ok-handled.ensures.exact in
    decoded.1 ∙ ap (λ (b : Bool). Ok (withdrawing_if (c.in_ok-damaged.damaged.values.grave || b) u)) (sym lacks) ∙ ap (λ (x : Update). Ok x) (sym ends)
