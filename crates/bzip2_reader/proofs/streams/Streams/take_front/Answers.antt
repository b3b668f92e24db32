use Rattle.std.proofs.Common.{◌∙◌, List, Err, Result, ap, arith, drop, inr, length-take-le, sym, subst}
use Rattle.std.specs.Prelude.{All}
use Rattle.bzip2_reader.specs.declared.batch.Job.{Job}
use Rattle.bzip2_reader.specs.declared.block.Text.{Text}
use Rattle.bzip2_reader.specs.declared.fault.BlockFault.{BlockFault}
use Rattle.std.proofs.lemmas.Result.{err_from_is_err_and}
use Rattle.bzip2_reader.specs.Coming.{IsWrong}
use Rattle.bzip2_reader.specs.Fields.{bits_of}
use Rattle.bzip2_reader.specs.Files.{block_in}
use Rattle.bzip2_reader.specs.Left.{left_of}
use Rattle.bzip2_reader.specs.Jobs.{HasRun}
use Rattle.bzip2_reader.specs.Texts.{IsBlock}
use Rattle.bzip2_reader.specs.Windows.{window_bytes}
use Rattle.bzip2_reader.proofs.LaneLaws.{block_taken}
use Rattle.bzip2_reader.proofs.StepLaws.{block_as, block_checked, block_fault_in, block_long, block_read_in, taken_wrong}
use Rattle.bzip2_reader.proofs.WordLaws.{bits_length}
use Rattle.bzip2_reader.proofs.streams.Streams.take_front.Goals as goal

pub returns-in-Some-Err-clause-wrong : goal.returns-in-Some-Err-clause-wrong
returns-in-Some-Err-clause-wrong g c =
    let s = c.args.self.now in
    let bits = bits_of (window_bytes s.window) in
    let job = c.in-Some.job.now in
    let jobs = subst (λ (l : List Job). All (HasRun bits) l) (sym c.as_slice.ensures.value) (s.decoded c.if-self.false) in
    let found = c.in-Some.ensures.lookup in
    let run = subst (λ (j : Job). HasRun bits j) (sym (found.3.1 job)) (jobs s.next job found.3.0) in
    let block = c.in-Some-Err.ensures bits run in
    inr (block_fault_in c.args.most c.args.sum (drop s.at bits) c.in-Some-Err.fault (subst (λ (q : Result Text BlockFault). IsBlock bits s.at q job.raw.items) c.in-Some-Err.field-0-is block) ∙ ap Err (sym c.cause_of.ensures))

pub returns-then-text-most-clause-wrong : goal.returns-then-text-most-clause-wrong
returns-then-text-most-clause-wrong g c =
    let s = c.args.self.now in
    let bits = bits_of (window_bytes s.window) in
    let job = c.in-Some.job.now in
    let jobs = subst (λ (l : List Job). All (HasRun bits) l) (sym c.as_slice.ensures.value) (s.decoded c.if-self.false) in
    let found = c.in-Some.ensures.lookup in
    let run = subst (λ (j : Job). HasRun bits j) (sym (found.3.1 job)) (jobs s.next job found.3.0) in
    inr (block_long c.args.most c.args.sum s.at bits job.raw.items c.in-Some-Ok.field-0 c.in-Some-Ok.text c.in-Some-Ok.field-0-is (c.in-Some-Ok.ensures bits run) c.if-text-most.true)

pub returns-in_err-self-clause-wrong : goal.returns-in_err-self-clause-wrong
returns-in_err-self-clause-wrong g c =
    let s = c.args.self.now in
    let bits = bits_of (window_bytes s.window) in
    let job = c.in-Some.job.now in
    let jobs = subst (λ (l : List Job). All (HasRun bits) l) (sym c.as_slice.ensures.value) (s.decoded c.if-self.false) in
    let found = c.in-Some.ensures.lookup in
    let run = subst (λ (j : Job). HasRun bits j) (sym (found.3.1 job)) (jobs s.next job found.3.0) in
    let p = err_from_is_err_and c.from_residual.result c.from_residual.ensures.1 in
    let part = block_in c.args.most c.args.sum (drop s.at bits) in
    let raw = c.raw-raw.result.now in
    let wrong : IsWrong c.in_err-self.field-0.0 part = taken_wrong c.in_err-self.field-0.0 part c.in-Some-Ok.text.checksum raw c.in_err-self.ensures.wrong
    (block_checked c.args.most c.args.sum s.at _ bits job.raw.items raw c.in-Some-Ok.field-0 c.in-Some-Ok.text c.in-Some-Ok.field-0-is (c.in-Some-Ok.ensures bits run) (sym job.raw.ok.0) c.raw-raw.ensures
    (omega (arith, c.if-text-most.false))) in
    rw (p.1, p.2) wrong

pub invariant_of-self-2 : goal.invariant_of-self-2
invariant_of-self-2 g c =
    let s = c.args.self.now in
    let bits = bits_of (window_bytes s.window) in
    let job = c.in-Some.job.now in
    let jobs = subst (λ (l : List Job). All (HasRun bits) l) (sym c.as_slice.ensures.value) (s.decoded c.if-self.false) in
    let found = c.in-Some.ensures.lookup in
    let run = subst (λ (j : Job). HasRun bits j) (sym (found.3.1 job)) (jobs s.next job found.3.0) in
    let end = (block_taken bits s.at c.in-Some-Ok.field-0 c.in-Some-Ok.text job.raw.items c.raw-raw.result.now c.in_ok-self.field-0.text.items _ c.in_ok-self.field-0.checksum c.in-Some-Ok.field-0-is
    (c.in-Some-Ok.ensures bits run) (sym job.raw.ok.0) c.raw-raw.ensures c.in_ok-self.ensures.text c.in_ok-self.ensures.named).1 in
    record {
      within = omega (arith, end, bits_length (window_bytes s.window), length-take-le s.window.filled s.window.block.items (omega (arith, s.window.within, s.window.block.ok.0)));
      decoded = s.decoded;
    }

pub returns-clause-taken : goal.returns-clause-taken
returns-clause-taken g c = λ _.
    (let s = c.args.self.now in
    let bits = bits_of (window_bytes s.window) in
    let job = c.in-Some.job.now in
    let jobs = subst (λ (l : List Job). All (HasRun bits) l) (sym c.as_slice.ensures.value) (s.decoded c.if-self.false) in
    let found = c.in-Some.ensures.lookup in
    let run = subst (λ (j : Job). HasRun bits j) (sym (found.3.1 job)) (jobs s.next job found.3.0) in
    let taken = block_taken bits s.at c.in-Some-Ok.field-0 c.in-Some-Ok.text job.raw.items c.raw-raw.result.now c.in_ok-self.field-0.text.items _ c.in_ok-self.field-0.checksum c.in-Some-Ok.field-0-is
    (c.in-Some-Ok.ensures bits run) (sym job.raw.ok.0) c.raw-raw.ensures c.in_ok-self.ensures.text c.in_ok-self.ensures.named in
    let block = c.in_ok-self.field-0 in
    block_as c.args.most c.args.sum block.checksum c.rotate_left.result c.in-Some-Ok.text.checksum (drop s.at bits) (drop c.in-Some-Ok.text.end bits) block.text.items (left_of block)
    (block_read_in c.args.most c.args.sum block.checksum (drop s.at bits) (drop c.in-Some-Ok.text.end bits) block.text.items taken.2 (omega (arith, taken.0, c.if-text-most.false)) (sym block.checked)) c.in_ok-self.ensures.fresh c.rotate_left.ensures c.in_ok-self.ensures.named)
