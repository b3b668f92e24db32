use Rattle.checkpoint_writing.proofs.StepLaws.{parts_first, parts_merged}
use Rattle.checkpoint_writing.proofs.laws.prefixes_are_written_in_order.Goals as goal

pub returns-clause-merged : goal.returns-clause-merged
returns-clause-merged c = parts_merged

pub returns-clause-first : goal.returns-clause-first
returns-clause-first c = λ split prefix lists h. parts_first split prefix lists h
