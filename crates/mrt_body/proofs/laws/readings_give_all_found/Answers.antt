use Rattle.mrt_body.proofs.FilesLaws.{TakesFound-more}
use Rattle.mrt_body.proofs.ReadingLaws.{gave_front, gave_all, gave_before}
use Rattle.mrt_body.proofs.laws.readings_give_all_found.Goals as goal

pub returns : goal.returns
returns c = record {
  joined = TakesFound-more;
  front = gave_front;
  whole = gave_all;
  failed = λ count max_records file selection last stopped contents left after given gave before. gave_before count max_records selection last contents left given file stopped after gave before;
}
