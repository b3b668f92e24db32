use Rattle.std.proofs.Common.{◌≡◌, ◌<◌, ◌+◌, ◌-◌, ◌∙◌, ap, sym, subst, arith, get_or, ℕ}
use Rattle.std.specs.declared.cmp.Ordering.TheVariants.{Less}
use Rattle.bgp_prefix.specs.Keys.{key_cmp}
use Rattle.chunked_map.proofs.LeafLaws.{gap_between}
use Rattle.chunked_map.proofs.leaf.Leaf.search.Goals as goal
use Rattle.chunked_map.proofs.leaf.Leaf.search.Goals.{then-high-len, else-high-len}

pub loop-low-preserved-in-Less : goal.loop-low-preserved-in-Less
loop-low-preserved-in-Less g c =
    let at = c.if-high-len.at in
    let inside : at < c.loop-low.high = elim c.if-high-len.branch [ then-high-len w ↦ omega (arith, w.at-is, c.loop-low-test.true) | else-high-len w ↦ omega (arith, w.at-is, c.loop-low-test.true) ] in
    record {
      order = omega (arith, inside);
      inside = c.loop-low.invariant.inside;
      below = λ some d. let same : at ≡ at + 1 - 1 = omega arith in subst (λ (n : ℕ). key_cmp (get_or c.args.self.now n d).0 c.args.key.now ≡ Less) same (ap (λ k. key_cmp k c.args.key.now) (sym (c.key_at.ensures d)) ∙ sym c.in-Less.ensures);
      above = c.loop-low.invariant.above;
    }

pub returns-clause-absent : goal.returns-clause-absent
returns-clause-absent g c = gap_between c.args.self.now c.args.key.now _ _ c.requires c.loop-low.invariant c.loop-low-test.false
