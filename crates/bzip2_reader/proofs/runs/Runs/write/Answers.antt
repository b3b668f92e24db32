use Rattle.std.proofs.Common.{◌-◌, ◌++◌, length, take, sym, ap, ◌∙◌, arith, append_assoc}
use Rattle.std.proofs.lemmas.Grind.{common_steps}
use Rattle.bzip2_reader.specs.Runs.{left}
use Rattle.bzip2_reader.proofs.RunLaws.{front_put}
use Rattle.bzip2_reader.proofs.runs.Runs.write.Goals as goal

pub loop-done-preserved : goal.loop-done-preserved
loop-done-preserved c =
    let inv = c.loop-done.invariant in
    let done = c.loop-done.done in
    let n = c.write_some-count.result in
    let buf = c.loop-done.out in
    let piece = c.write_some-count.new.out in
    let rest = left c.args.text.now c.write_some-count.new.self in
    record {
      within = grind (arith, common_steps);
      settled = c.write_some-count.ensures.settled;
      written = inv.written ∙ ap (λ l. take done buf ++ l) c.write_some-count.ensures.written ∙ sym (append_assoc (take done buf) (take n piece) rest)
          ∙ ap (λ l. l ++ rest) (sym (front_put done (length buf - done) n buf piece inv.within c.write_some-count.ensures.bound));
    }
