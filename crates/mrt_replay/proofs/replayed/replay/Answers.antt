use Rattle.std.proofs.Common.{◌≡◌, ◌≢◌, ◌≤◌, ◌+◌, ◌-◌, ◌^◌, min, [], Option, sym, ap, ◌∙◌, subst, length, map, arith}
use Rattle.std.specs.Prelude.{option_to_list}
use Rattle.std.specs.List.{filter_map}
use Rattle.std.proofs.lemmas.List.{length-map}
use Rattle.std.proofs.lemmas.Result.{err_from_is_err_and}
use Rattle.peer_units.specs.Plain.{Unit as ReplayUnit}
use Rattle.mrt_body.specs.Units.{units_of, refused_of, unit_of}
use Rattle.peer_units.specs.Choices.{choices_of}
use Rattle.peer_tables.specs.Tables.{chosen_tables}
use Rattle.lane_deal.specs.Playing.{shown}
use Rattle.lane_deal.specs.Replayers.{ReplayerStandsFor}
use Rattle.mrt_frame.specs.declared.read_state.ReadState.{ReadState}
use Rattle.mrt_frame.specs.declared.read_state.ReadState.TheVariants.{Ended, Spent}
use Rattle.mrt_replay.specs.Replays.{DealtAll}
use Rattle.history_replay.proofs.FilesTaken.{stops_replay, took_files, few_units_of, units_came, records_taken, aside_taken}
use Rattle.mrt_replay.proofs.LanesTaken.{all_dealt}
use Rattle.mrt_replay.proofs.RoundsTaken.{few_in_all, two_in_all, enough_in_all}
use Rattle.mrt_replay.proofs.replayed.replay.Goals as goal

pub returns-in_err-replayer-clause-cause : goal.returns-in_err-replayer-clause-cause
returns-in_err-replayer-clause-cause g c =
    let p = err_from_is_err_and c.from_residual-in_err-replayer.result c.from_residual-in_err-replayer.ensures.1 in
    rw (p.1, p.2) tt

pub returns-in-Err-clause-cause : goal.returns-in-Err-clause-cause
returns-in-Err-clause-cause g c =
    stops_replay c.new-units.result _ c.args.plan.now.max_records c.args.selection c.new-units.ensures.fresh (map g.R.Source.remaining c.args.files.now)
    (map g.R.Failures.failure_count c.args.files.now) (map g.R.Failures.failure_count c.play.new.files) c.in-Err.error c.new-units.ensures.cuts
    (length-map c.play.new.files g.R.Failures.failure_count ∙ c.play.auto.files ∙ sym (length-map c.args.files.now g.R.Failures.failure_count)) c.in-Err.ensures.cause

-- a replayer at the end isn't spent
ended_unspent : (state : ReadState) → state ≡ Ended → state ≢ Spent
ended_unspent state ended spent = cc

pub returns-clause-replayed : goal.returns-clause-replayed
returns-clause-replayed g c contents known =
    let start = c.new-units.result in
    let max = c.args.plan.now.max_records in
    let until = c.args.selection in
    let told = map g.R.Source.remaining c.args.files.now in
    let all = c.new-units.ensures.all contents in
    let cuts = c.new-units.ensures.cuts contents in
    let made = c.in_ok-replayer.ensures in
    let r = c.in_ok-replayer.replayer in
    let s = c.play.new.replayer in
    let t = c.settle.new.self in
    let played = c.in_default.ensures.played in
    let kept = c.in_default.ensures.kept in
    let settled = c.in-Ok.ensures.settled in
    let still = c.in-Ok.ensures.kept in
    let law = g.D.Dealing.lane_of in
    let units = units_of until contents in
    let refused = refused_of until contents in
    let new_stands = subst (λ d. ReplayerStandsFor (λ p w. law d.now p w) r.plan.ring [] [] (shown r)) (sym made.plan.1)
    (subst (λ pl. ReplayerStandsFor (λ p w. law c.args.dealing.now p w) pl.ring [] [] (shown r)) (sym made.plan.0) made.stands) in
    let empty : DealtAll (λ p w. law r.dealer.dealing.now p w) r.plan.ring (shown r) [] [] = record { dealt = []; whole = ap (λ (k : Option ReplayUnit). option_to_list k) (sym made.reading.2); stands = new_stands } in
    let took = took_files start _ max until c.new-units.ensures.fresh contents told known (DealtAll (λ p w. law r.dealer.dealing.now p w) r.plan.ring) c.play.new.units (shown r) (shown s) played.taken empty all in
    let few = few_units_of start _ max until c.new-units.ensures.fresh contents told known (DealtAll (λ p w. law r.dealer.dealing.now p w) r.plan.ring) c.play.new.units (shown r) (shown s) played.taken empty all c.requires.max_records.1 in
    let came = units_came start _ max until c.new-units.ensures.fresh contents told known (DealtAll (λ p w. law r.dealer.dealing.now p w) r.plan.ring) c.play.new.units (shown r) (shown s) played.taken empty all in
    let one = all_dealt (λ p w. law r.dealer.dealing.now p w) r.plan.ring (shown s) units refused played.none took in
    let two = subst (λ d. ReplayerStandsFor (λ p w. law d.now p w) s.plan.ring units refused (shown s)) (sym kept.1)
    (subst (λ pl. ReplayerStandsFor (λ p w. law r.dealer.dealing.now p w) pl.ring units refused (shown s)) (sym kept.0) one) in
    let three = settled.stands units refused two in
    let four = subst (λ d. ReplayerStandsFor (λ p w. law d.dealing.now p w) t.plan.ring units refused (shown t)) (sym still.1)
    (subst (λ pl. ReplayerStandsFor (λ p w. law s.dealer.dealing.now p w) pl.ring units refused (shown t)) (sym still.0) three) in
    let count : c.dealt-dealt.result ≡ length units = (let d = c.dealt-dealt.ensures in let m = four.dealt_counted in omega (arith, d, m, few)) in
    let up : c.rounds-rounds.result ≡ min (s.rounds + 1) (2 ^ 64 - 1) =
    c.rounds-rounds.ensures ∙ c.in-Ok.ensures.forks (ended_unspent s.state kept.2) in
    let at_most : c.rounds-rounds.result ≤ s.rounds + 1 = omega (arith, up) in
    record {
      stands = c.in-Ok-retain.ensures ∙ ap (λ l. chosen_tables l c.in-Ok-into_tables.tables) (c.in_ok-chosen.ensures ∙ c.chosen.ensures)
          ∙ ap (chosen_tables (choices_of until)) (c.in-Ok-into_tables.ensures.tables units refused four);
      records_counted = c.records.ensures ∙ records_taken start _ max until c.new-units.ensures.fresh contents told known (DealtAll (λ p w. law r.dealer.dealing.now p w) r.plan.ring) c.play.new.units (shown r) (shown s) played.taken empty cuts;
      units_counted = count;
      aside_counted = c.aside.ensures ∙ aside_taken start _ max until c.new-units.ensures.fresh contents told known (DealtAll (λ p w. law r.dealer.dealing.now p w) r.plan.ring) c.play.new.units (shown r) (shown s) played.taken empty cuts;
      few_rounds = few_in_all c.args.plan.now r.plan r.rounds s.rounds c.rounds-rounds.result (length (filter_map unit_of played.taken.items)) c.dealt-dealt.result made.plan.0 made.reading.1 (played.few made.settled made.reading.2) at_most (ap length came ∙ sym count);
      two_rounds = two_in_all r.rounds s.rounds c.rounds-rounds.result played.played made.reading.1 played.some played.counted up;
      enough_rounds = enough_in_all c.args.plan.now r.plan r.rounds s.rounds c.rounds-rounds.result played.played (length (filter_map unit_of played.taken.items)) c.dealt-dealt.result c.requires made.plan.0 made.reading.1 played.counted up
          (played.batches made.reading.2) (ap length came ∙ sym count) (omega (arith, count, few));
    }
