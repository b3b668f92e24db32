use Rattle.std.proofs.Common.{List, ◌≡◌, [], length, subst, arith}
use Rattle.std.proofs.lemmas.Grind.{common_steps}
use Rattle.std.specs.Prelude.{IfSome}
use Rattle.bgp_update.specs.Hops.{by_hop}
use Rattle.bgp_update.specs.KeptAttributes.{KeptValue}
use Rattle.bgp_update.specs.Updates.{update_in}
use Rattle.bgp_update.specs.Values.{kept_route, plain_rules}
use Rattle.bgp_update.specs.Decoded.{AddsRoute, AreUpdateSpans}
use Rattle.bgp_update.proofs.Spans.{IsGrown-trans, decoded_update}
use Rattle.bgp_update.proofs.decoding.decode_update.Goals as goal

pub returns : goal.returns
returns g c =
    let keys = c.args.keys.now.items in
    let n = c.in_ok-appended.appended in
    let own = c.in_ok-route.ensures in
    let reached = c.in_ok-reached_route.ensures in
    let first = c.read_keys.new.first in
    let old = c.args.bytes.now.items in
    let mid = c.pack_values.new.out.items in
    let new = c.pack_reached.new.out.items in
    let start : c.len-start.result ≡ length keys = grind (arith, common_steps) in
    let spans : AreUpdateSpans (length keys) n c.in_ok-route.route c.in_ok-reached_route.reached_route c.in_ok-spans.spans =
    subst (λ s. AreUpdateSpans s n c.in_ok-route.route c.in_ok-reached_route.reached_route c.in_ok-spans.spans) start c.in_ok-spans.ensures in
    let read = update_in (plain_rules g.F.Unicast.family) c.args.width c.args.add_path c.args.body.now in
    let ks : List KeptValue = [] in
    let adds : AddsRoute old mid (kept_route c.args.width first ks) c.in_ok-route.route =
    subst (λ (k : List KeptValue). AddsRoute old mid (kept_route c.args.width first k) c.in_ok-route.route) (c.none.ensures) own in
    let by_reached : IfSome c.in_ok-reached_route.reached_route (AddsRoute mid new (by_hop (kept_route c.args.width first ks) n.reached_hop)) =
    subst (λ (k : List KeptValue). IfSome c.in_ok-reached_route.reached_route (AddsRoute mid new (by_hop (kept_route c.args.width first k) n.reached_hop))) (c.none-2.ensures) reached.route in
    let decoded = decoded_update keys c.read_keys.new.keys.items old mid new n (kept_route c.args.width first ks) read c.in_ok-route.route c.in_ok-reached_route.reached_route c.in_ok-spans.spans
    (c.in_ok-appended.ensures.said) spans adds reached.grown by_reached reached.both in
    record { exact = decoded.0; there = decoded.1; keys = c.in_ok-appended.ensures.grown; bytes = IsGrown-trans old mid new own.grown reached.grown }
