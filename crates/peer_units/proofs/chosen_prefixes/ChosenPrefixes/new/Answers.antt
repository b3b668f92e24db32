use Rattle.std.proofs.Common.{◌∙◌, subst, ap, List}
use Rattle.std.specs.List.Sorted.{IsPermutation}
use Rattle.bgp_prefix.specs.Prefixes.{IpPrefix}
use Rattle.peer_units.specs.declared.choice.Reach.TheVariants.{Exact, Inside, Around}
use Rattle.peer_units.specs.Plain.{PrefixChoice}
use Rattle.peer_units.specs.Named.{named_as, is_inside}
use Rattle.peer_units.proofs.NamedLaws.{stand_for}
use Rattle.peer_units.proofs.chosen_prefixes.ChosenPrefixes.new.Goals as goal

pub invariant_of-result : goal.invariant_of-result
invariant_of-result g c =
    let exact = c.in_ok-exact.exact.items in
    let named = c.in_ok-named.named.items in
    let inside = c.in_ok-inside.inside.items in
    let around = c.in_ok-around.around.items in
    stand_for c.args.choices.items exact named inside around (subst (λ (cs : List PrefixChoice). IsPermutation (named_as Exact cs) exact) c.deref.ensures.value c.in_ok-exact.ensures.names) c.in_ok-exact.ensures.order
    (subst (λ (cs : List PrefixChoice). IsPermutation (named_as Inside cs) named) c.deref-2.ensures.value c.in_ok-named.ensures.names) c.in_ok-inside.ensures.order c.in_ok-inside.ensures.apart
    (λ p. c.in_ok-inside.ensures.same p ∙ ap (λ (l : List IpPrefix). is_inside l p) c.deref-3.ensures.value)
    (subst (λ (cs : List PrefixChoice). IsPermutation (named_as Around cs) around) c.deref-4.ensures.value c.in_ok-around.ensures.names) c.in_ok-around.ensures.order
