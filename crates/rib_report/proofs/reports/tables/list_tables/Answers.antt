use Rattle.std.proofs.Common.{◌≡◌, ◌⊎◌, ◌∙◌, inr, ap, rules, subst, Result, Ok, Err, refl}
use Rattle.std.specs.Prelude.{IsErr, IfErr, OnErr, is_err}
use Rattle.mrt_frame.specs.declared.error.ReplayError.{ReplayError}
use Rattle.mrt_frame.specs.declared.error.ReplayError.TheVariants.{Memory, Write}
use Rattle.std.specs.List.{flat_map}
use Rattle.rib_report.specs.Listings.{seat_lines}
use Rattle.report_lines.proofs.TextLaws.{Adds_as, text_begun, output_at}
use Rattle.rib_report.proofs.LineBlockLaws.{lines_of_seats}
use Rattle.rib_report.proofs.reports.tables.list_tables.Goals as goal

-- no other error
write_alone : (result : Result (Unit {0}) ReplayError) → (IsErr result → result ≡ Err Write) → IfErr result (λ e. (e ≡ Memory) ⊎ (e ≡ Write))
write_alone (Ok done) only = tt
write_alone (Err e) only = let w = only refl in inr cc

fails_at : {P : Type 0} {result : Result (Unit {0}) ReplayError} → OnErr result P → result ≡ Err Write → P
fails_at {P = P} h e = subst (λ r. OnErr r P) e h

pub returns : goal.returns
returns g c =
    let lines = ap (flat_map (seat_lines c.args.layout)) c.seats-seats.ensures ∙ lines_of_seats c.args.layout c.args.tables.now.seats in
    let output = output_at g.W.Sink.contents g.W.Failures.failure_count (search rules) (c.finish.ensures.output _ _ _ (text_begun c.new-2.ensures (Adds_as lines c.put_tables.ensures))) in
    record {
      ok = output.ok;
      front = output.front;
      errors = write_alone c.finish.result output.write;
      untouched = λ e. let w : c.finish.result ≡ Err Write = output.write (ap is_err e) in absurd cc;
      sound = output.sound;
      risen = fails_at output.risen;
    }
