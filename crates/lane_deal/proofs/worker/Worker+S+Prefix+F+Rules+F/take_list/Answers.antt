use Rattle.std.proofs.Common.{refl, subst, sym}
use Rattle.lane_deal.specs.LaneWorkers.{TookFront}
use Rattle.lane_deal.specs.Plain.{Worker}
use Rattle.lane_deal.proofs.Working.{TookFront-from}
use Rattle.lane_deal.proofs.worker.Worker+S+Prefix+F+Rules+F.take_list.Goals as goal

pub returns : goal.returns
returns g c =
    let self = c.args.self.now in
    let pop = c.pop_known-items.ensures in
    let popped : Worker g.row.S.Denot = record self { consumer = c.pop_known-items.new.self } in
    let after : Worker g.row.S.Denot = record c.take_decoded.new.self { recycled = c.give_back.new.self.recycled } in
    let took = c.in_ok-take_decoded.ensures _ c.in_ok-decode_all.ensures in
    subst (TookFront g.S.Sessions.stands_for self) (sym c.give_back.ensures)
    (TookFront-from g.S.Sessions.stands_for self popped after c.pop_known-items.result refl refl refl pop.allowed pop.ring pop.received.0 pop.received.1
    (record { lane = took.lane; ring = took.ring; counted = took.counted; sessions = took.sessions }))
