use Rattle.std.proofs.Common.{◌-◌, min, ◌≡◌, ◌≤◌, ◌^◌, List, sym, ap, ◌∙◌, length, map, arith}
use Rattle.std.proofs.lemmas.List.{length-map}
use Rattle.std.proofs.lemmas.Result.{err_from_is_err_and}
use Rattle.peer_units.specs.Choices.{Choices, choices_of}
use Rattle.mrt_body.specs.Units.{units_of}
use Rattle.peer_tables.specs.Histories.{history_rows, watches_of}
use Rattle.history_replay.specs.Tellings.{Tells, watch_routes}
use Rattle.history_replay.proofs.FilesTaken.{stops_replay, took_files, few_units_of, records_taken, aside_taken}
use Rattle.history_replay.proofs.history.list_history.Goals as goal

pub returns-in_err-told-clause-cause : goal.returns-in_err-told-clause-cause
returns-in_err-told-clause-cause g c =
    let p = err_from_is_err_and c.from_residual-in_err-told.result c.from_residual-in_err-told.ensures.1 in
    rw (p.1, p.2) tt

pub returns-in-Err-clause-cause : goal.returns-in-Err-clause-cause
returns-in-Err-clause-cause g c =
    stops_replay c.new-units.result _ c.args.max_records c.args.selection c.new-units.ensures.fresh (map g.R.Source.remaining c.args.files.now)
    (map g.R.Failures.failure_count c.args.files.now) (map g.R.Failures.failure_count c.tell.new.files) c.in-Err.error c.new-units.ensures.cuts
    (length-map c.tell.new.files g.R.Failures.failure_count ∙ c.tell.auto.files ∙ sym (length-map c.args.files.now g.R.Failures.failure_count)) c.in-Err.ensures.cause

pub returns-clause-listed : goal.returns-clause-listed
returns-clause-listed g c contents known =
    let start = c.new-units.result in
    let max = c.args.max_records in
    let until = c.args.selection in
    let told = map g.R.Source.remaining c.args.files.now in
    let all = c.new-units.ensures.all contents in
    let cuts = c.new-units.ensures.cuts contents in
    let chosen : Choices = c.in_ok-chosen.chosen in
    let same : chosen ≡ choices_of until = c.in_ok-chosen.ensures ∙ c.chosen.ensures in
    let taken = c.in_default.ensures.told in
    let empty = c.in_ok-told.ensures chosen c.args.listing in
    let took = took_files start _ max until c.new-units.ensures.fresh contents told known (Tells chosen c.args.listing) c.tell.new.units c.in_ok-told.told c.tell.new.told taken empty all in
    let few : length (units_of until contents) ≤ 2 ^ 64 - 2 = few_units_of start _ max until c.new-units.ensures.fresh contents told known (Tells chosen c.args.listing) c.tell.new.units c.in_ok-told.told c.tell.new.told taken empty all c.requires.1 in
    record {
      rows = took.rows ∙ ap (λ l. history_rows c.args.listing l (units_of until contents)) same;
      watches = took.watches ∙ ap (λ l. watches_of c.args.listing.since l (units_of until contents)) same;
      refused_kept = took.refused_kept;
      records_counted = c.records.ensures ∙ records_taken start _ max until c.new-units.ensures.fresh contents told known (Tells chosen c.args.listing) c.tell.new.units c.in_ok-told.told c.tell.new.told taken empty cuts;
      units_counted = omega (arith, took.counted, few);
      routes_counted = c.in-Ok.ensures
          ∙ (λ i. min (length (watch_routes ((c.routes.ensures ∙ ap (λ (x : Choices). x.routes) same) i) (c.watched.ensures i))) (2 ^ 64 - 1))
          ∙ ap (λ ws. min (length (watch_routes until.routes ws)) (2 ^ 64 - 1)) (took.watches ∙ ap (λ l. watches_of c.args.listing.since l (units_of until contents)) same);
      aside_counted = c.aside.ensures ∙ aside_taken start _ max until c.new-units.ensures.fresh contents told known (Tells chosen c.args.listing) c.tell.new.units c.in_ok-told.told c.tell.new.told taken empty cuts;
    }
