use Rattle.std.proofs.Common.{◌≤◌, ◌∙◌, ap}
use Rattle.std.proofs.lemmas.List.Elements.{All-take, All-drop}
use Rattle.bgp_prefix.specs.Prefixes.{IsIpPrefix}
use Rattle.prefix_maps.proofs.SplitLaws.{own_first, split_of, sorted_here, sorted_low, sorted_high}
use Rattle.prefix_maps.proofs.flat.Flat.split.Goals as goal

pub cut-requires-clause-order : goal.cut-requires-clause-order
cut-requires-clause-order g c =
    let f = c.in-Some.ensures in
    own_first c.args.self.now c.in-Some.at f.sorted f.known f.cover c.own_end-own.result c.low_end-lower.result c.own_end-own.ensures.bound c.low_end-lower.ensures.bound c.own_end-own.ensures.end c.low_end-lower.ensures.end

pub invariant_of-result : goal.invariant_of-result
invariant_of-result g c =
    let es = c.args.self.now in
    let f = c.in-Some.ensures in
    let own = c.own_end-own in
    let low = c.low_end-lower in
    let is = c.shrink_to_fit.ensures.items ∙ ap (λ v. v.items) c.replace-here.ensures.value ∙ rw c.self.view_is at c.in_ok-low.ensures.left in
    rw is (record { sorted = sorted_here es c.in-Some.at f.sorted f.known f.cover own.result low.result own.ensures.bound low.ensures.bound own.ensures.end low.ensures.end; known = All-take (λ e. IsIpPrefix e.0.prefix) own.result es f.known; short = All-take (λ e. e.0.prefix.len ≤ g.F.Family.WIDTH) own.result es (rw c.self.view_is at c.self.invariant.short) })

pub invariant_of-result-2 : goal.invariant_of-result-2
invariant_of-result-2 g c =
    let es = c.args.self.now in
    let f = c.in-Some.ensures in
    let own = c.own_end-own in
    let low = c.low_end-lower in
    let is = rw c.self.view_is at c.in_ok-low.ensures.parts.0 in
    rw is (record { sorted = sorted_low es c.in-Some.at f.sorted f.known f.cover own.result low.result own.ensures.bound low.ensures.bound own.ensures.end low.ensures.end; known = All-drop (λ e. IsIpPrefix e.0.prefix) own.result _ (All-take (λ e. IsIpPrefix e.0.prefix) low.result es f.known); short = All-drop (λ e. e.0.prefix.len ≤ g.F.Family.WIDTH) own.result _ (All-take (λ e. e.0.prefix.len ≤ g.F.Family.WIDTH) low.result es (rw c.self.view_is at c.self.invariant.short)) })

pub invariant_of-result-3 : goal.invariant_of-result-3
invariant_of-result-3 g c =
    let es = c.args.self.now in
    let f = c.in-Some.ensures in
    let own = c.own_end-own in
    let low = c.low_end-lower in
    let is = rw c.self.view_is at c.in_ok-low.ensures.parts.1 in
    rw is (record { sorted = sorted_high es c.in-Some.at f.sorted f.known f.cover own.result low.result own.ensures.bound low.ensures.bound own.ensures.end low.ensures.end; known = All-drop (λ e. IsIpPrefix e.0.prefix) low.result es f.known; short = All-drop (λ e. e.0.prefix.len ≤ g.F.Family.WIDTH) low.result es (rw c.self.view_is at c.self.invariant.short) })

pub returns-clause-parts : goal.returns-clause-parts
returns-clause-parts g c =
    let f = c.in-Some.ensures in
    let own = c.own_end-own in
    let low = c.low_end-lower in
    let is_here = c.shrink_to_fit.ensures.items ∙ ap (λ v. v.items) c.replace-here.ensures.value ∙ rw c.self.view_is at c.in_ok-low.ensures.left in
    let is_low = rw c.self.view_is at c.in_ok-low.ensures.parts.0 in
    let is_high = rw c.self.view_is at c.in_ok-low.ensures.parts.1 in
    rw (is_here, is_low, is_high) (split_of c.args.self.now c.in-Some.at f.sorted f.known f.cover own.result low.result own.ensures.bound low.ensures.bound own.ensures.end low.ensures.end)
