use Rattle.selection_laws.proofs.Cleared.{none_left, reading_begins}
use Rattle.selection_laws.proofs.laws.dumps_begin_with_empty_tables.Goals as goal

pub returns : goal.returns
returns c = record {
  reading = reading_begins;
  emptied = none_left;
}
