use Rattle.std.proofs.Common.{List, [], ◌∷◌, All, sym, arith, subst, zero, suc}
use Rattle.std.proofs.lemmas.List.Elements.{All-append}
use Rattle.bzip2_reader.specs.Fields.{bits_of}
use Rattle.bzip2_reader.specs.Jobs.{HasRun}
use Rattle.bzip2_reader.specs.declared.batch.Job.{Job}
use Rattle.bzip2_reader.proofs.batch.AloneTeam.run.Goals as goal

one : (P : Job → Type 0) (x : Job) → P x → All P (x ∷ [])
one P x h zero d less = h
one P x h (suc k) d less = absurd (omega (arith, less))

pub loop-job-preserved : goal.loop-job-preserved
loop-job-preserved c =
    let P = HasRun (bits_of c.args.bytes.now) in
    subst (λ (l : List Job). All P l) (sym c.in_ok-push.ensures.items) (All-append P c.loop-job.done.items (c.run.result ∷ []) c.loop-job.invariant (one P c.run.result c.run.ensures))
