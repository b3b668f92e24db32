use Rattle.std.proofs.Common.{refl, ap, ◌∙◌}
use Rattle.lane_schedules.proofs.TakenTables.{tables_are_taken, tables_are_whole, apart_still, shown_still}
use Rattle.lane_schedules.proofs.scheduled.Lanes.into_tables.Goals as goal

pub collect_lanes-requires : goal.collect_lanes-requires
collect_lanes-requires g c = c.args.self.apart

pub invariant_of-result : goal.invariant_of-result
invariant_of-result g c = record { apart = apart_still c.args.self.lanes.items c.in-Err.lanes.items c.in-Err.ensures.back.0 c.args.self.apart }

pub returns-in-Ok : goal.returns-in-Ok
returns-in-Ok g c = record {
  tables = λ all s h.
      tables_are_taken h.lane_of all s h.shared _ c.args.self.lanes.items h.lists c.in-Ok.tables
      (λ seats p q. c.in-Ok.ensures.only seats p q ∙ ap (λ r. record { seats = seats; refused = r }) c.new.ensures.items);
  whole = λ all s h none idle.
      tables_are_whole h.lane_of all s h.shared _ c.args.self.lanes.items h.lists c.in-Ok.tables
      (λ seats p q. c.in-Ok.ensures.only seats p q ∙ ap (λ r. record { seats = seats; refused = r }) c.new.ensures.items) none idle;
  back = tt;
  shows = λ all s h. tt;
}

pub returns-in-Err : goal.returns-in-Err
returns-in-Err g c = record {
  tables = λ all s h. tt;
  whole = λ all s h none idle. tt;
  back = (refl, c.in-Err.ensures.back.0);
  shows = λ all s h. record { lane_of = h.lane_of; shared = h.shared; lists = shown_still c.args.self.lanes.items c.in-Err.lanes.items c.in-Err.ensures.back.0 all _ s h.lists };
}
