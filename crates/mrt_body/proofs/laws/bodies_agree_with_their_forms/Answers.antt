use Rattle.mrt_body.proofs.PeerForms.{index_body-is, index_body-again}
use Rattle.mrt_body.proofs.AgreementLaws.{agrees, is_read, agrees_once}
use Rattle.mrt_body.proofs.RefusalLaws.{is_refused, refusal}
use Rattle.mrt_body.proofs.laws.bodies_agree_with_their_forms.Goals as goal

pub returns : goal.returns
returns c = record {
  peers = λ body peers fine. (index_body-is body peers fine, index_body-again body peers);
  units = λ selection known at extended index content body units fine. (agrees selection known at extended index content body units fine, is_read selection known at extended index content body units);
  only = agrees_once;
  refused = λ selection known at extended index content body fault fine. (is_refused selection known at extended index content body fault fine, refusal selection known at extended index content body fault fine);
}
