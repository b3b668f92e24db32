use Rattle.report_laws.proofs.ShareLaws.{count_of_faults}
use Rattle.report_laws.proofs.laws.faults_of_shares.Goals as goal

pub returns : goal.returns
returns c = λ tables is_in test. count_of_faults test is_in tables
