use Rattle.selection_laws.proofs.LastLines.{last_of_files, last_of_own, last_of_rows}
use Rattle.selection_laws.proofs.laws.last_lines_are_of_tables.Goals as goal

pub returns : goal.returns
returns c = record {
  own = last_of_own;
  rows = λ listing choices units q key every some chosen. last_of_rows listing choices q every some units key chosen;
  files = last_of_files;
}
