use Rattle.std.proofs.Common.{sym, ap, ◌∙◌, subst}
use Rattle.std.specs.FinMap.{find}
use Rattle.bgp_prefix.specs.Keys.{key_cmp}
use Rattle.prefix_maps.specs.Tries.{routes, IsTrie}
use Rattle.prefix_maps.specs.declared.radix.node.Branch.{Branch}
use Rattle.prefix_maps.proofs.ForkLaws.{found_here, found_low, found_high, found_outside}
use Rattle.prefix_maps.proofs.radix.node.Branch.get.Goals as goal

pub returns-in-Here : goal.returns-in-Here
returns-in-Here g c =
    rw c.deref-in-Here.ensures at c.get-in-Here.ensures
    ∙ sym (found_here _ c.in-Fork.fork c.in-Fork.is c.loop-at.invariant.0 c.args.key.now (rw c.deref.ensures at c.in-Here.ensures)) ∙ c.loop-at.invariant.1

pub loop-at-preserved-in_default : goal.loop-at-preserved-in_default
loop-at-preserved-in_default g c =
    rw c.deref-in-Low.ensures (
      (subst IsTrie c.in-Fork.is c.loop-at.invariant.0).5,
      sym (found_low _ c.in-Fork.fork c.in-Fork.is c.loop-at.invariant.0 c.args.key.now (rw c.deref.ensures at c.in-Low.ensures)) ∙ c.loop-at.invariant.1,
    )

pub loop-at-preserved : goal.loop-at-preserved
loop-at-preserved g c =
    rw c.deref-in-High.ensures (
      (subst IsTrie c.in-Fork.is c.loop-at.invariant.0).6,
      sym (found_high _ c.in-Fork.fork c.in-Fork.is c.loop-at.invariant.0 c.args.key.now (rw c.deref.ensures at c.in-High.ensures)) ∙ c.loop-at.invariant.1,
    )

pub returns-in-Outside : goal.returns-in-Outside
returns-in-Outside g c =
    sym (found_outside _ c.in-Fork.fork c.in-Fork.is c.loop-at.invariant.0 c.args.key.now (rw c.deref.ensures at c.in-Outside.ensures)) ∙ c.loop-at.invariant.1

pub returns-in-Empty-low : goal.returns-in-Empty-low
returns-in-Empty-low g c =
    ap (λ (b : Branch _ _). find key_cmp c.args.key.now (routes b)) (sym (rw c.deref-in-Low.ensures at c.in-Empty-low.is))
    ∙ sym (found_low _ c.in-Fork.fork c.in-Fork.is c.loop-at.invariant.0 c.args.key.now (rw c.deref.ensures at c.in-Low.ensures)) ∙ c.loop-at.invariant.1

pub returns-in-Empty-high : goal.returns-in-Empty-high
returns-in-Empty-high g c =
    ap (λ (b : Branch _ _). find key_cmp c.args.key.now (routes b)) (sym (rw c.deref-in-High.ensures at c.in-Empty-high.is))
    ∙ sym (found_high _ c.in-Fork.fork c.in-Fork.is c.loop-at.invariant.0 c.args.key.now (rw c.deref.ensures at c.in-High.ensures)) ∙ c.loop-at.invariant.1
