use Rattle.selection_laws.proofs.SameRoutes.{same_established, same_routes, same_up}
use Rattle.selection_laws.proofs.laws.chosen_prefixes_keep_their_routes.Goals as goal

pub returns : goal.returns
returns c = record {
  routes = λ selection files q. same_routes selection q files;
  state = λ selection files q. same_up selection q files;
  established = λ selection files q. same_established selection q files;
}
