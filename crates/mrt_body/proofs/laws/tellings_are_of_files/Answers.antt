use Rattle.mrt_body.specs.ToCome.{TakesFound}
use Rattle.mrt_body.proofs.ToldLaws.{told_whole, all_told_known, all_told_more}
use Rattle.mrt_body.proofs.FilesLaws.{TakesFound-more}
use Rattle.std.proofs.Common.{◌++◌}
use Rattle.mrt_body.proofs.laws.tellings_are_of_files.Goals as goal

pub returns-clause-whole : goal.returns-clause-whole
returns-clause-whole g c a b files left taken = told_whole g.R.Source.reads files left a.file b.file (λ told now. TakesFound a told b now taken)

pub returns-clause-known : goal.returns-clause-known
returns-clause-known g c a b files left taken = all_told_known g.R.Source.remaining g.R.Source.reads g.met.R.Source.reads_known files left a.file b.file (λ told now. TakesFound a told b now taken)

pub returns-clause-joined : goal.returns-clause-joined
returns-clause-joined g _ a b c files mids left taken more =
    all_told_more g.R.Source.reads g.met.R.Source.reads_more files mids left a.file b.file c.file (λ told now. TakesFound a told b now taken) (λ told now. TakesFound b told c now more) (λ told now. TakesFound a told c now (taken ++ more))
    (λ told mid now. TakesFound-more a b c told mid now taken more)
