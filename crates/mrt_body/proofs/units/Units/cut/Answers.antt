use Rattle.std.proofs.Common.{◌++◌, ◌∙◌, subst, ap}
use Rattle.mrt_frame.specs.Frames.{HasCause}
use Rattle.mrt_body.specs.ToCome.{UnitsState, index_peers, index_pending}
use Rattle.mrt_body.proofs.ToldLaws.{fails_told, stands_before}
use Rattle.mrt_body.proofs.units.Units.cut.Goals as goal

pub returns-in-Err-clause-stops_told : goal.returns-in-Err-clause-stops_told
returns-in-Err-clause-stops_told g c =
    let old : UnitsState = record {
      count = c.self.inside.count;
      file = c.self.inside.file;
      frames = c.self.inside.frames;
      selection = c.self.inside.selection;
      index = index_peers c.self.inside.index;
      dumps = c.self.inside.dumps;
      pending = c.self.inside.waiting ++ index_pending c.self.inside.index;
      max_records = c.self.inside.max_records;
      records = c.self.inside.records;
      aside = c.self.inside.aside;
      state = c.self.inside.state;
    } in
    let state = ap (λ (u : UnitsState). u.state) c.self.view_is ∙ c.requires.reading in
    let reading = c.self.invariant.reading state in
    fails_told g.R.Source.reads c.args.reader.now c.next_into.new.reader c.args.self.now (record old { frames = c.next_into.new.self; state = c.after-self-inside.result }) c.self.inside.frames c.in-Err.error
    (ap (λ (u : UnitsState). u.frames) c.self.view_is) (stands_before old c.next_into.new.self c.after-self-inside.result c.next_into.ensures.bounds.file (c.in-Err.ensures.stops.part reading).0 reading state ∙ c.self.view_is)
    (λ r. subst (HasCause c.self.inside.frames c.next_into.new.self (g.R.Failures.failure_count c.args.reader.now) (g.R.Failures.failure_count c.next_into.new.reader)) r c.in-Err.ensures.stops.cause)
    (c.in-Err.ensures.part reading)
