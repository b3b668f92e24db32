use Rattle.std.proofs.Common.{ℕ, ◌<◌, ◌∷◌, ◌++◌, [], ◌∙◌, length, refl, sym, ap}
use Rattle.std.proofs.lemmas.List.{get_or_default}
use Rattle.lane_schedules.proofs.ScheduleRuns.{shows_dealt}
use Rattle.lane_schedules.proofs.schedule.deal.Goals as goal

pub returns : goal.returns
returns g c = λ all s p.
    let lo : ℕ → ℕ = λ number. g.D.Dealing.lane_of c.args.dealing.now number (length c.args.lanes.now) in
    let lanes = c.args.lanes.now in
    let item = c.in-Some.item in
    let lane = c.lane-lane.result in
    let below : lane < length lanes = rw c.lane-lane.ensures (g.met.D.Dealing.is_below c.args.dealing.now item.number (length lanes) c.requires) in
    shows_dealt lo all c.args.undealt.now.items c.pop_front.new.self.items lanes item lane _ s s.undealt refl c.in-Some.ensures.items (sym c.lane-lane.ensures) below
    (λ d. c.in_ok-push_back.ensures.items ∙ ap (λ o. o.ring.items ++ item ∷ []) (get_or_default lanes lane c.index-lanes-lane.result d below))
    (λ d. ap (λ o. o.seats) (get_or_default lanes lane c.index-lanes-lane.result d below))
    (λ d. ap (λ o. o.took) (get_or_default lanes lane c.index-lanes-lane.result d below)) p
