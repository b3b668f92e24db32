use Rattle.std.proofs.Common.{[], ◌∷◌}
use Rattle.mrt_body.proofs.FilesLaws.{gives_pending}
use Rattle.mrt_body.proofs.ToldLaws.{told_pending}
use Rattle.mrt_body.proofs.units.Units.next.Goals as goal

pub returns-in-Some-clause-gives : goal.returns-in-Some-clause-gives
returns-in-Some-clause-gives g c =
    gives_pending g.R.Source.remaining g.R.Failures.failure_count c.args.self.now c.advance.new.self c.next_pending.new.self c.args.files.now c.advance.new.files (c.in-Some.unit ∷ [])
    (rw c.in-Ok-None.field-0-is at c.in-Ok-None.ensures.gives) (rw c.in-Some.is at c.in_ok-unit-in-Ok-None.ensures.gives)

pub returns-in-Some-clause-told : goal.returns-in-Some-clause-told
returns-in-Some-clause-told g c =
    told_pending g.R.Source.reads c.args.files.now c.advance.new.files c.args.self.now c.advance.new.self c.next_pending.new.self (c.in-Some.unit ∷ [])
    (rw c.in-Ok-None.field-0-is at c.in-Ok-None.ensures.told) (rw c.in-Some.is at c.in_ok-unit-in-Ok-None.ensures.gives)

pub returns-in-None-clause-told : goal.returns-in-None-clause-told
returns-in-None-clause-told g c =
    told_pending g.R.Source.reads c.args.files.now c.advance.new.files c.args.self.now c.advance.new.self c.next_pending.new.self []
    (rw c.in-Ok-None.field-0-is at c.in-Ok-None.ensures.told) (rw c.in-None.is at c.in_ok-unit-in-Ok-None.ensures.gives)
