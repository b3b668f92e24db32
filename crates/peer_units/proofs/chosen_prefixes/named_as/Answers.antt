use Rattle.std.proofs.Common.{rules, ◌≡◌, ◌<◌, ◌∙◌, sym, ap, List, length, get_or, take, true, false, cond, ◌++◌, ◌∷◌, []}
use Rattle.std.proofs.lemmas.List.{get_or_read}
use Rattle.std.proofs.lemmas.List.Elements.{All-push}
use Rattle.std.proofs.lemmas.List.Sorted.{All-permutation}
use Rattle.bgp_prefix.specs.Prefixes.{IpPrefix, IsIpPrefix}
use Rattle.peer_units.specs.Plain.{PrefixChoice}
use Rattle.peer_units.specs.Named.{named_as, same_reach}
use Rattle.peer_units.proofs.NamedLaws.{named_next}
use Rattle.peer_units.proofs.chosen_prefixes.named_as.Goals as goal
use Rattle.peer_units.proofs.chosen_prefixes.named_as.Goals.{then-eq+in_ok-push, else-eq}

pub loop-choice-preserved : goal.loop-choice-preserved
loop-choice-preserved g c =
    let choices = c.args.choices.now in
    let n = c.loop-choice.choice-index in
    let x = c.choice-item.result in
    let before = c.loop-choice.names.items in
    let named : List IpPrefix = named_as c.args.reach (take n choices) in
    let more : n < length choices = c.loop-choice-test.true in
    let read : (d : PrefixChoice) → x ≡ get_or choices n d = get_or_read choices n x more c.choice-item.is in
    let next = named_next c.args.reach choices n x more read in
    elim c.if-eq.branch [
      | then-eq+in_ok-push w ↦
          let tested = c.eq.ensures in
          let is = w.if-eq.true in
          let same : same_reach x.reach c.args.reach ≡ true = search rules in
          let items : c.if-eq.names.items ≡ before ++ x.prefix ∷ [] = ap (λ v. v.items) w.names-is ∙ w.in_ok-push.ensures.items in
          record {
            names = items ∙ ap (λ (l : List IpPrefix). l ++ x.prefix ∷ []) c.loop-choice.invariant.names ∙ sym (next ∙ ap (λ b. cond b (named ++ x.prefix ∷ []) named) same);
            known = rw items (All-push IsIpPrefix before x.prefix c.loop-choice.invariant.known w.is_known.ensures);
          }
      | else-eq w ↦
          let tested = c.eq.ensures in
          let is = w.if-eq.false in
          let other : same_reach x.reach c.args.reach ≡ false = search rules in
          let items : c.if-eq.names.items ≡ before = ap (λ v. v.items) w.names-is in
          record {
            names = items ∙ c.loop-choice.invariant.names ∙ sym (next ∙ ap (λ b. cond b (named ++ x.prefix ∷ []) named) other);
            known = rw items c.loop-choice.invariant.known;
          }
    ]

pub returns-clause-order : goal.returns-clause-order
returns-clause-order g c = record {
  sorted = c.sort_unstable.ensures.sorted;
  known = All-permutation IsIpPrefix _ _ c.sort_unstable.ensures.permutation c.loop-choice.invariant.known;
}
