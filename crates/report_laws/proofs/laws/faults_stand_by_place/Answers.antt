use Rattle.peer_tables.specs.Tables.{all_faults}
use Rattle.rib_report.proofs.ListedLaws.{faults_sorted, faults_stable}
use Rattle.report_laws.proofs.laws.faults_stand_by_place.Goals as goal

pub returns : goal.returns
returns c = record { sorted = λ tables. faults_sorted (all_faults tables); stable = λ tables. faults_stable (all_faults tables) }
