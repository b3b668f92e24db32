use Rattle.std.proofs.Common.{◌≡◌, ◌+◌, ◌-◌, ◌++◌, length, take, drop, replicate, slice_index, sym, ap, ◌∙◌, arith, length-take-le}
use Rattle.bzip2_reader.specs.Runs.{written_from}
use Rattle.bzip2_reader.proofs.RunLaws.{count_there, front_is, length_behind}
use Rattle.bzip2_reader.proofs.runs.Runs.copy.Goals as goal

pub returns-then-self-text-clause-written : goal.returns-then-self-text-clause-written
returns-then-self-text-clause-written c =
    let text = c.args.text.now in
    let runs = c.args.self.now in
    let far = c.stretch_at-stretch.result in
    let n = far.end - runs.at in
    let copied = c.copy_from_slice.new.self in
    let same = c.copy_from_slice.ensures.after in
    let behind = length_behind text runs.at (omega (arith, c.requires.more.0)) in
    let size : length copied ≡ n = ap length same ∙ length-take-le n (drop runs.at text) (omega (arith, behind, c.stretch_at-stretch.ensures.within.1, c.min-room.ensures)) in
    ap (λ k. replicate k runs.last ++ written_from runs.last runs.same (drop runs.at text)) c.requires.owed
    ∙ c.stretch_at-stretch.ensures.written
    ∙ ap (λ l. take n (drop runs.at text) ++ l) (count_there text far.end far.last far.same (omega (arith, c.if-self-text.true)) c.if-self-eq-RUN.true)
    ∙ ap (λ l. l ++ (replicate (slice_index text far.end) far.last ++ written_from far.last 0 (drop (far.end + 1) text))) (sym (front_is n copied (drop n c.args.out.now) size ∙ same))
