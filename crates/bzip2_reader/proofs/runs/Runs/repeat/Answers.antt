use Rattle.std.proofs.Common.{◌≡◌, ◌+◌, ◌-◌, ◌++◌, length, take, drop, replicate, sym, ap, ◌∙◌, arith, append_assoc, length-take-le}
use Rattle.std.proofs.lemmas.List.{length-replicate, replicate-append-replicate}
use Rattle.bzip2_reader.specs.Runs.{written_from}
use Rattle.bzip2_reader.proofs.RunLaws.{front_is}
use Rattle.bzip2_reader.proofs.runs.Runs.repeat.Goals as goal

pub returns-clause-written : goal.returns-clause-written
returns-clause-written c = λ text.
    let runs = c.args.self.now in
    let n = c.min-count.result in
    let filled = c.fill.new.self in
    let rest = written_from runs.last runs.same (drop runs.at text) in
    let room : length (take n c.args.out.now) ≡ n = length-take-le n c.args.out.now (omega (arith, c.min-count.ensures)) in
    let fill : filled ≡ replicate n runs.last = c.fill.ensures.after (λ y same. same) ∙ ap (λ k. replicate k runs.last) room in
    let size : length filled ≡ n = ap length fill ∙ length-replicate n runs.last in
    let sum : runs.owed ≡ n + (runs.owed - n) = omega (arith, c.min-count.ensures) in
    ap (λ k. replicate k runs.last ++ rest) sum ∙ ap (λ l. l ++ rest) (sym (replicate-append-replicate n (runs.owed - n) runs.last))
    ∙ append_assoc (replicate n runs.last) (replicate (runs.owed - n) runs.last) rest
    ∙ ap (λ l. l ++ (replicate (runs.owed - n) runs.last ++ rest)) (sym (front_is n filled (drop n c.args.out.now) size ∙ fill))
