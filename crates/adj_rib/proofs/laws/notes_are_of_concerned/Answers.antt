use Rattle.adj_rib.proofs.WatchLaws.{notes_early, notes_quiet}
use Rattle.adj_rib.proofs.laws.notes_are_of_concerned.Goals as goal

pub returns : goal.returns
returns c = record { others = notes_quiet; early = notes_early }
