use Rattle.ip_text.proofs.WrittenLaws.{first_longest}
use Rattle.ip_text.proofs.spelled.runs_are_first_and_longest.Goals as goal

pub returns : goal.returns
returns c = first_longest
