use Rattle.std.proofs.Common.{◌≡◌, ◌-◌, ◌+◌, ◌<◌, ◌∙◌, sym, ap, subst, List, length, get_or, true, false, cond, ◌++◌, ◌∷◌, [], arith}
use Rattle.std.proofs.lemmas.List.{get_or_read}
use Rattle.bgp_prefix.specs.Prefixes.{IpPrefix, covers}
use Rattle.peer_units.proofs.NamedLaws.{Keeps, LastCovers, keeps_next}
use Rattle.peer_units.proofs.chosen_prefixes.outermost.Goals as goal
use Rattle.peer_units.proofs.chosen_prefixes.outermost.Goals.{in-Some, in-None, then-not-is_covered+in_ok-push, else-not-is_covered}

pub loop-prefix-preserved : goal.loop-prefix-preserved
loop-prefix-preserved g c =
    let names = c.args.names.now in
    let n = c.loop-prefix.prefix-index in
    let kept = c.loop-prefix.kept.items in
    let x = c.prefix-item.result in
    let covered = c.match-last.is_covered in
    let more : n < length names = c.loop-prefix-test.true in
    let read : (d : IpPrefix) → x ≡ get_or names n d = get_or_read names n x more c.prefix-item.is in
    let whole : c.deref.result.now ≡ kept = c.deref.ensures.value in
    let tells : LastCovers names c.requires n kept c.loop-prefix.invariant more x read covered = elim c.match-last.branch [
      | in-Some w ↦
          let item = w.in-Some.ensures.item.3 in
          let is : w.in-Some.last.now ≡ get_or kept (length kept - 1) x = item.1 x ∙ ap (λ (l : List IpPrefix). get_or l (length l - 1) x) whole in
          record {
            some = λ _. omega (arith, item.0, ap length whole);
            last = λ _. ap (λ (y : IpPrefix). covers y x) (sym is) ∙ sym w.covers-is_covered.ensures ∙ sym w.is_covered-is;
          }
      | in-None w ↦
          let item = w.in-None.ensures.item.3 in
          let other : covered ≡ false = w.is_covered-is in
          record {
            some = λ over. let clash : true ≡ false = sym over ∙ other in cc;
            last = λ some. absurd (omega (arith, some, item, ap length whole));
          }
    ] in
    let next : Keeps names (n + 1) (cond covered kept (kept ++ x ∷ [])) = keeps_next names c.requires n kept c.loop-prefix.invariant more x read covered tells in
    elim c.if-not-is_covered.branch [
      | then-not-is_covered+in_ok-push w ↦
          let other : covered ≡ false = w.if-not-is_covered.true in
          subst (Keeps names (n + 1)) (ap (λ b. cond b kept (kept ++ x ∷ [])) other ∙ sym (ap (λ v. v.items) w.kept-is ∙ w.in_ok-push.ensures.items)) next
      | else-not-is_covered w ↦
          let over : covered ≡ true = w.if-not-is_covered.false in
          subst (Keeps names (n + 1)) (ap (λ b. cond b kept (kept ++ x ∷ [])) over ∙ sym (ap (λ v. v.items) w.kept-is)) next
    ]
