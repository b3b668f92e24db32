use Rattle.std.proofs.Common.{◌≡◌, None, rules, ◌∙◌, refl}
use Rattle.std.proofs.lemmas.Result.{err_from_is_err_and}
use Rattle.lane_deal.proofs.Asking.{Listed-none, Listed-more, TakesUnits-one, Asked-from, AskedInVain-from}
use Rattle.lane_deal.proofs.dealer.list_refusals.Goals as goal

pub loop-damage-init : goal.loop-damage-init
loop-damage-init g c = record { count = refl; listed = Listed-none _ _ _; sound = refl }

pub loop-damage-preserved : goal.loop-damage-preserved
loop-damage-preserved g c =
    let gives = c.in_ok-damage.ensures.gives in
    let plan = c.in_ok-damage.ensures.bounds.plan in
    let one = TakesUnits-one g.R.Source.remaining g.R.Failures.failure_count _ _ _ _ _ gives plan in
    record {
      count = plan.0 ∙ c.loop-damage.invariant.count;
      listed = Listed-more _ _ _ _ _ _ _ _ _ _ c.loop-damage.invariant.listed (rw c.in-Some.is at one) c.in_ok-push.ensures.items;
      sound = gives.counted ∙ c.loop-damage.invariant.sound;
    }

-- a read failed
pub returns-in_err-damage-clause-asked : goal.returns-in_err-damage-clause-asked
returns-in_err-damage-clause-asked g c =
    let p = err_from_is_err_and c.from_residual.result c.from_residual.ensures.1 in
    rw (p.1, p.2) (λ file e. AskedInVain-from _ _ _ _ _ _ _ _ file c.loop-damage.invariant.listed (λ going. rw e at (c.in_err-damage.ensures.stops.before going)))

pub returns-clause-asked : goal.returns-clause-asked
returns-clause-asked g c =
    let none : c.in_ok-damage.field-0 ≡ None = search rules in
    Asked-from g.R.Source.remaining g.R.Failures.failure_count c.args.refused.now.items c.loop-damage.refused.items c.args.units.now c.loop-damage.units c.advance.new.self c.args.files.now c.loop-damage.files c.advance.new.files
    c.loop-damage.invariant.listed (rw none at c.in_ok-damage.ensures.gives) c.in_ok-damage.ensures.bounds.plan (c.in_ok-damage.ensures.ends none)
