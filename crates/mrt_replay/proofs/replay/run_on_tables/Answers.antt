use Rattle.std.proofs.Common.{sym, ap, ◌∙◌, subst, Err, refl}
use Rattle.std.proofs.KnownBytes.{Keeps-refl, Appends-kept}
use Rattle.std.specs.Io.KnownBytes.{Appends, Keeps}
use Rattle.peer_units.specs.Choices.{choices_of}
use Rattle.mrt_body.specs.Units.{units_of, refused_of}
use Rattle.mrt_frame.specs.Writes.{WritesFront}
use Rattle.mrt_frame.specs.declared.error.ReplayError.TheVariants as errors
use Rattle.mrt_replay.specs.Headline.{run_on}
use Rattle.mrt_replay.proofs.HeadlineLaws.{stopped}
use Rattle.mrt_replay.proofs.HistoryLaws.{rounds_of_tables}
use Rattle.mrt_replay.specs.Reports.{lines_of}
use Rattle.report_request.specs.Requests.{request_of}
use Rattle.mrt_replay.proofs.RunLaws.{lines_are_report, damaged_counted, peers_counted, routes_counted, flush_failed, flush_succeeded, flush_unfailed, front_whole, stops_writing, stops_reading}
use Rattle.mrt_replay.proofs.replay.run_on_tables.Goals as goal

pub returns-in-Err-clause-promised : goal.returns-in-Err-clause-promised
returns-in-Err-clause-promised g c =
    let run =
    run_on g.R.Source.remaining g.R.Failures.failure_count g.W.Sink.contents g.W.Failures.failure_count g.W.Sink.is_flushed (request_of g.F.Family.bits c.args.request.now) c.args.layout c.args.selection c.args.plan.now
    c.args.files.now c.replay.new.files c.args.out.now c.args.out.now (Err c.in-Err.error) in
    stopped run c.in-Err.error refl (stops_reading run c.in-Err.error refl c.in-Err.ensures.cause)

pub returns-in-Err-write_report-clause-promised : goal.returns-in-Err-write_report-clause-promised
returns-in-Err-write_report-clause-promised g c =
    let request = request_of g.F.Family.bits c.args.request.now in
    let tables = c.in-Ok.replayed.tables in
    let error = c.in-Err-write_report.error in
    let h = c.in-Err-write_report.ensures in
    let run =
    run_on g.R.Source.remaining g.R.Failures.failure_count g.W.Sink.contents g.W.Failures.failure_count g.W.Sink.is_flushed request c.args.layout c.args.selection c.args.plan.now
    c.args.files.now c.replay.new.files c.args.out.now c.write_report.new.out (Err error) in
    stopped run error refl (stops_writing run error h.errors
    (λ s. subst (λ o. Keeps (g.W.Sink.contents c.args.out.now) (g.W.Sink.contents o)) (sym (h.untouched (ap (λ x. Err x) s))) (Keeps-refl (g.W.Sink.contents c.args.out.now)))
    (λ s. h.risen (ap (λ x. Err x) s))
    (λ files honest s. subst (WritesFront (g.W.Sink.contents c.args.out.now) (g.W.Sink.contents c.write_report.new.out)) (lines_are_report request c.args.layout c.args.selection files tables c.requires.tables (c.in-Ok.ensures.replayed files honest.readers_tell).stands) (h.front (ap (λ x. Err x) s))))

pub returns-then-is_err-clause-promised : goal.returns-then-is_err-clause-promised
returns-then-is_err-clause-promised g c =
    let wrote = Appends-kept (g.W.Sink.contents c.args.out.now) (g.W.Sink.contents c.write_report.new.out) (g.W.Sink.contents c.flush_all.new.self) (lines_of (request_of g.F.Family.bits c.args.request.now) c.args.layout c.in-Ok.replayed.tables) c.in_default.ensures.ok c.flush_all.ensures.bytes in
    let run =
    run_on g.R.Source.remaining g.R.Failures.failure_count g.W.Sink.contents g.W.Failures.failure_count g.W.Sink.is_flushed (request_of g.F.Family.bits c.args.request.now) c.args.layout c.args.selection c.args.plan.now
    c.args.files.now c.replay.new.files c.args.out.now c.flush_all.new.self (Err errors.Write) in
    stopped run errors.Write refl (
      flush_failed c.flush_all.result _ _ _ c.in_default.ensures.sound (sym c.is_err.ensures.value ∙ c.if-is_err.true) c.flush_all.ensures.counted,
      λ files honest. front_whole _ _ _ (subst (Appends (g.W.Sink.contents c.args.out.now) (g.W.Sink.contents c.flush_all.new.self)) (lines_are_report (request_of g.F.Family.bits c.args.request.now) c.args.layout c.args.selection files c.in-Ok.replayed.tables c.requires.tables (c.in-Ok.ensures.replayed files honest.readers_tell).stands) wrote),
    )

pub returns-clause-promised : goal.returns-clause-promised
returns-clause-promised g c = record {
  headline = λ files honest.
      let p = c.in-Ok.ensures.replayed files honest.readers_tell in
      let until = c.args.selection in
      let tables = c.in-Ok.replayed.tables in
      let wrote = Appends-kept (g.W.Sink.contents c.args.out.now) (g.W.Sink.contents c.write_report.new.out) (g.W.Sink.contents c.flush_all.new.self) (lines_of (request_of g.F.Family.bits c.args.request.now) c.args.layout tables) c.in_default.ensures.ok c.flush_all.ensures.bytes in
      record {
        written = subst (Appends (g.W.Sink.contents c.args.out.now) (g.W.Sink.contents c.flush_all.new.self)) (lines_are_report (request_of g.F.Family.bits c.args.request.now) c.args.layout until files tables c.requires.tables p.stands) wrote;
        counted = record {
          records = p.records_counted;
          units = p.units_counted;
          aside = p.aside_counted;
          damaged = damaged_counted until files tables c.damaged.result p.stands c.damaged.ensures;
          routes = routes_counted until files tables c.routes.result p.stands c.routes.ensures;
          peers = peers_counted (choices_of until) (units_of until files) (refused_of until files) tables c.peers.result p.stands c.peers.ensures;
          rounds = rounds_of_tables (request_of g.F.Family.bits c.args.request.now) (choices_of until) c.args.plan.now _ c.requires.tables (record { few = p.few_rounds; two = p.two_rounds; enough = p.enough_rounds });
        };
      };
  flushed = flush_succeeded c.flush_all.result (sym c.is_err.ensures.value ∙ c.if-is_err.false) c.flush_all.ensures.flushed;
  unfailed = (c.in-Ok.ensures.sound, flush_unfailed c.flush_all.result _ _ (sym c.is_err.ensures.value ∙ c.if-is_err.false) c.flush_all.ensures.counted ∙ c.in_default.ensures.sound);
  cause = tt;
  completes = λ files honest sound within. tt;
}
