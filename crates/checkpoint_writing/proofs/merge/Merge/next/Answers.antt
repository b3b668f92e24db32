use Rattle.std.proofs.Common.{◌++◌, List, sym, refl, ap, ◌∙◌}
use Rattle.mrt_writing.specs.RibRecords.{PrefixRoute}
use Rattle.checkpoint_writing.specs.Merging.{routes_among}
use Rattle.checkpoint_writing.proofs.MergeLaws.{none_left, begins_least, left_fewer, takes_least}
use Rattle.checkpoint_writing.proofs.merge.Merge.next.Goals as goal

pub returns-in_default-clause-none : goal.returns-in_default-clause-none
returns-in_default-clause-none g c = none_left c.args.self.now.lists c.args.self.now.heads c.requires.merge (sym c.in_default.ensures.top)

pub loop-init : goal.loop-init
loop-init g c =
    let m = c.args.self.now in
    let least = begins_least m.lists m.heads c.requires.merge c.in-Some.first (sym c.in-Some.ensures.top) (c.in-Some.ensures.least c.requires.merge.heap) in
    record { merge = c.requires.merge; routes = ap (λ (l : List PrefixRoute). l ++ routes_among c.in-Some.first.0 0 m.lists) c.clear.ensures.items; left = refl; above = least.least }

pub returns-clause-least : goal.returns-clause-least
returns-clause-least g c =
    let m = c.args.self.now in
    let p = c.in-Some.first.0 in
    let least = begins_least m.lists m.heads c.requires.merge c.in-Some.first (sym c.in-Some.ensures.top) (c.in-Some.ensures.least c.requires.merge.heap) in
    let step = c.in_ok-take_first.ensures.step in
    takes_least p m.lists c.take_first.new.self.lists c.take_first.new.routes.items least (step.routes_are ∙ c.loop.invariant.routes) (step.left ∙ c.loop.invariant.left) (step.none c.if-branch.false)

pub returns-clause-none : goal.returns-clause-none
returns-clause-none g c =
    let m = c.args.self.now in
    let p = c.in-Some.first.0 in
    let least = begins_least m.lists m.heads c.requires.merge c.in-Some.first (sym c.in-Some.ensures.top) (c.in-Some.ensures.least c.requires.merge.heap) in
    let step = c.in_ok-take_first.ensures.step in
    let takes = takes_least p m.lists c.take_first.new.self.lists c.take_first.new.routes.items least (step.routes_are ∙ c.loop.invariant.routes) (step.left ∙ c.loop.invariant.left) (step.none c.if-branch.false) in
    left_fewer m.lists m.heads c.requires.merge c.in-Some.first c.take_first.new.self.lists (sym c.in-Some.ensures.top) takes.left
