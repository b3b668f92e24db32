use Rattle.std.proofs.Common.{◌≡◌, ◌+◌, ◌-◌, ◌≤◌, drop, length, sym, ap, ◌∙◌, arith}
use Rattle.std.proofs.lemmas.List.{drop-drop, drop_all, length-drop}
use Rattle.mrt_body.proofs.WaitingLaws.{some_left}
use Rattle.mrt_body.proofs.units.consume_waiting.Goals as goal

pub loop-left-init : goal.loop-left-init
loop-left-init g c = let none : 0 ≡ c.args.count - c.args.count = omega arith in record { within = omega arith; few = omega arith; waiting = ap (λ n. drop n c.args.waiting.now) none }

pub loop-left-preserved : goal.loop-left-preserved
loop-left-preserved g c =
    let i = c.loop-left.invariant in
    let units = c.args.waiting.now in
    let gone = c.args.count - c.loop-left.left in
    let test = c.loop-left-test.true in
    let within = i.within in
    let few = i.few in
    let some = some_left c.loop-left.waiting (λ none. let pending = c.if-is_pending.true in let clash = c.is_pending.ensures.1 none in absurd (cc)) in
    let left = ap length i.waiting ∙ length-drop gone units in
    let more : gone + 1 ≡ c.args.count - (c.loop-left.left - 1) = omega (arith, within, test) in
    record {
      within = omega (arith, within);
      few = omega (arith, within, few, some, left, test);
      waiting = c.consume.ensures ∙ ap (drop 1) i.waiting ∙ drop-drop 1 gone units ∙ ap (λ n. drop n units) more;
    }

-- none is left that waits
none_waits : (g : _) (c : goal.Else-is_pending g) → length c.args.waiting.now ≤ c.args.count - c.loop-left.left
none_waits g c =
    let i = c.loop-left.invariant in
    let left = ap length (c.is_pending.ensures.0 c.if-is_pending.false) in
    let rest = ap length i.waiting ∙ length-drop (c.args.count - c.loop-left.left) c.args.waiting.now in
    omega (arith, left, rest)

pub returns-else-is_pending-clause-waiting : goal.returns-else-is_pending-clause-waiting
returns-else-is_pending-clause-waiting g c =
    let all = none_waits g c in
    c.is_pending.ensures.0 c.if-is_pending.false ∙ sym (drop_all c.args.count c.args.waiting.now (omega (arith, all)))

pub returns-else-is_pending-clause-left : goal.returns-else-is_pending-clause-left
returns-else-is_pending-clause-left g c =
    let all = none_waits g c in
    let within = c.loop-left.invariant.within in
    let few = c.loop-left.invariant.few in
    omega (arith, all, within, few)

pub returns-after-loop-left-clause-waiting : goal.returns-after-loop-left-clause-waiting
returns-after-loop-left-clause-waiting g c =
    let none = c.loop-left-test.false in
    let all : c.args.count - c.loop-left.left ≡ c.args.count = omega (arith, none) in
    c.loop-left.invariant.waiting ∙ ap (λ n. drop n c.args.waiting.now) all

pub returns-after-loop-left-clause-left : goal.returns-after-loop-left-clause-left
returns-after-loop-left-clause-left g c =
    let none = c.loop-left-test.false in
    let few = c.loop-left.invariant.few in
    omega (arith, none, few)
