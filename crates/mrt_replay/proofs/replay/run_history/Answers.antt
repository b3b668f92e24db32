use Rattle.std.proofs.Common.{◌≡◌, sym, ap, ◌∙◌, subst, Err, map, refl}
use Rattle.std.specs.Io.KnownBytes.{Appends, Keeps}
use Rattle.std.proofs.KnownBytes.{Appends-kept, Keeps-refl}
use Rattle.std.proofs.lemmas.List.{length-map}
use Rattle.peer_units.specs.Choices.{choices_of}
use Rattle.mrt_body.specs.Units.{units_of}
use Rattle.mrt_frame.specs.Writes.{WritesFront}
use Rattle.mrt_frame.specs.declared.error.ReplayError.TheVariants as errors
use Rattle.peer_tables.specs.Histories.{watches_of}
use Rattle.peer_tables.specs.Watching.{watch_in}
use Rattle.mrt_replay.specs.Headline.{run_on}
use Rattle.mrt_replay.specs.Reports.{told_lines}
use Rattle.report_request.specs.Requests.{request_of}
use Rattle.mrt_replay.proofs.HeadlineLaws.{stopped}
use Rattle.mrt_replay.proofs.HistoryLaws.{history_is_report, no_rounds, damaged_told, routes_told, peers_told}
use Rattle.mrt_replay.proofs.RunLaws.{flush_failed, flush_succeeded, flush_unfailed, front_whole, stops_writing}
use Rattle.mrt_replay.proofs.replay.run_history.Goals as goal

pub returns-in-Err-write_told-clause-promised : goal.returns-in-Err-write_told-clause-promised
returns-in-Err-write_told-clause-promised g c =
    let error = c.in-Err-write_told.error in
    let told = c.in-Ok.history.told in
    let h = c.in-Err-write_told.ensures in
    let run =
    run_on g.R.Source.remaining g.R.Failures.failure_count g.W.Sink.contents g.W.Failures.failure_count g.W.Sink.is_flushed (request_of g.F.Family.bits c.args.request.now) c.args.layout c.args.selection c.args.plan.now
    c.args.files.now c.list_history.new.files c.args.writer.now c.write_told.new.out (Err error) in
    stopped run error refl (stops_writing run error h.errors
    (λ s. subst (λ o. Keeps (g.W.Sink.contents c.args.writer.now) (g.W.Sink.contents o)) (sym (h.untouched (ap (λ x. Err x) s))) (Keeps-refl (g.W.Sink.contents c.args.writer.now)))
    (λ s. h.risen (ap (λ x. Err x) s))
    (λ files honest s.
    let p = c.in-Ok.ensures.listed files honest.readers_tell in
    subst (WritesFront (g.W.Sink.contents c.args.writer.now) (g.W.Sink.contents c.write_told.new.out))
    (history_is_report (request_of g.F.Family.bits c.args.request.now) c.args.layout c.args.listing c.args.selection files told.rows.listed told.watches c.requires.history p.rows p.watches) (h.front (ap (λ x. Err x) s))))

pub returns-then-is_err-clause-promised : goal.returns-then-is_err-clause-promised
returns-then-is_err-clause-promised g c =
    let told = c.in-Ok.history.told in
    let wrote = Appends-kept (g.W.Sink.contents c.args.writer.now) (g.W.Sink.contents c.write_told.new.out) (g.W.Sink.contents c.flush_all.new.self) (told_lines c.args.layout c.args.listing.listed told.rows.listed told.watches) c.in_default.ensures.ok c.flush_all.ensures.bytes in
    let run =
    run_on g.R.Source.remaining g.R.Failures.failure_count g.W.Sink.contents g.W.Failures.failure_count g.W.Sink.is_flushed (request_of g.F.Family.bits c.args.request.now) c.args.layout c.args.selection c.args.plan.now
    c.args.files.now c.list_history.new.files c.args.writer.now c.flush_all.new.self (Err errors.Write) in
    stopped run errors.Write refl (
      flush_failed c.flush_all.result _ _ _ c.in_default.ensures.sound (sym c.is_err.ensures.value ∙ c.if-is_err.true) c.flush_all.ensures.counted,
      λ files honest.
          let p = c.in-Ok.ensures.listed files honest.readers_tell in
          front_whole _ _ _ (subst (Appends (g.W.Sink.contents c.args.writer.now) (g.W.Sink.contents c.flush_all.new.self))
          (history_is_report (request_of g.F.Family.bits c.args.request.now) c.args.layout c.args.listing c.args.selection files told.rows.listed told.watches c.requires.history p.rows p.watches) wrote),
    )

pub returns-clause-promised : goal.returns-clause-promised
returns-clause-promised g c = record {
  headline = λ files honest.
      let p = c.in-Ok.ensures.listed files honest.readers_tell in
      let told = c.in-Ok.history.told in
      let until = c.args.selection in
      let since = c.args.listing.since in
      let watches = map watch_in c.watched-watches.result.now in
      let stands : watches ≡ watches_of since (choices_of until) (units_of until files) = c.watched-watches.ensures ∙ p.watches in
      let wrote = Appends-kept (g.W.Sink.contents c.args.writer.now) (g.W.Sink.contents c.write_told.new.out) (g.W.Sink.contents c.flush_all.new.self) (told_lines c.args.layout c.args.listing.listed told.rows.listed told.watches) c.in_default.ensures.ok c.flush_all.ensures.bytes in
      record {
        written = subst (Appends (g.W.Sink.contents c.args.writer.now) (g.W.Sink.contents c.flush_all.new.self))
            (history_is_report (request_of g.F.Family.bits c.args.request.now) c.args.layout c.args.listing until files told.rows.listed told.watches c.requires.history p.rows p.watches) wrote;
        counted = record {
          records = p.records_counted;
          units = p.units_counted;
          aside = p.aside_counted;
          damaged = damaged_told since until files c.as_slice-refused.result.now watches _ c.count_faults.result (c.as_slice-refused.ensures.value ∙ p.refused_kept) refl stands c.count_faults.ensures;
          routes = routes_told since until files _ p.routes_counted;
          peers = peers_told since (choices_of until) (units_of until files) watches _ stands (sym (length-map c.watched-watches.result.now watch_in));
          rounds = no_rounds (request_of g.F.Family.bits c.args.request.now) (choices_of until) c.args.listing c.args.plan.now _ c.requires.history refl;
        };
      };
  flushed = flush_succeeded c.flush_all.result (sym c.is_err.ensures.value ∙ c.if-is_err.false) c.flush_all.ensures.flushed;
  unfailed = (c.in-Ok.ensures.sound, flush_unfailed c.flush_all.result _ _ (sym c.is_err.ensures.value ∙ c.if-is_err.false) c.flush_all.ensures.counted ∙ c.in_default.ensures.sound);
  cause = tt;
  completes = λ files honest sound within. tt;
}
