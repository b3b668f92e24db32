use Rattle.std.proofs.Common.{◌≡◌, ◌∙◌, ◌-◌, List, arith, ap, sym, length, take, drop, ℕ, length-drop, Bool, true, false, not}
use Rattle.std.proofs.lemmas.List.{take_all}
use Rattle.bgp_prefix.specs.Prefixes.{prefix_eq}
use Rattle.bgp_prefix.proofs.SortedMaps.{run_to_end, run_until}
use Rattle.prefix_maps.proofs.flat.Flat.paths.Goals as goal
use Rattle.prefix_maps.proofs.flat.Flat.paths.Goals.{else-loop-item-test, then-loop-item-test+then-ne}

rest_is : {X : Type 0} (xs ys : List X) (n : ℕ) → xs ≡ ys → take (length xs - n) (drop n xs) ≡ drop n ys
rest_is xs ys n is = take_all (length xs - n) (drop n xs) (omega (arith, length-drop n xs)) ∙ ap (drop n) is

untrue : (b : Bool) → true ≡ not b → b ≡ false
untrue true e = cc
untrue false e = cc

pub returns-clause-paths : goal.returns-clause-paths
returns-clause-paths g c =
    let p = c.args.prefix.now in
    let es = c.args.self.now in
    let n = c.loop-item.item-index in
    let sorted = c.start_of.ensures.sorted in
    let start = c.start_of.ensures.start in
    let items = rest_is c.deref.result.now es c.start_of.result (c.deref.ensures.value ∙ c.self.view_is) in
    let so_far = rw items at c.loop-item.invariant in
    so_far ∙ elim c.loop-item-test.branch [
      | else-loop-item-test w ↦ run_to_end p es c.start_of.result sorted start n (rw items at w.loop-item-test.false)
      | then-loop-item-test+then-ne w ↦
          let read = rw items at w.item-item.is in
          run_until p es c.start_of.result sorted start n w.item-item.result (rw items at w.loop-item-test.true) (ap (λ e. prefix_eq p e.0.prefix) (sym read) ∙ untrue _ w.if-ne.ensures)
    ]
