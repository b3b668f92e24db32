use Rattle.std.proofs.Common.{sym, ◌∙◌}
use Rattle.mrt_frame.proofs.Items.{ok_is}
use Rattle.bgp_update.proofs.UpdateLaws.{route_takes, route_again, update_takes, update_again}
use Rattle.bgp_update.proofs.laws.updates_agree_with_their_forms.Goals as goal

pub returns : goal.returns
returns c = record {
  updates = λ family width add_path body update fine. (update_takes family width add_path body update fine, update_again family width add_path body update);
  one_update = λ family width add_path body update other h k. ok_is update other (sym (update_again family width add_path body update h) ∙ update_again family width add_path body other k);
  routes = λ family width bytes route fine. (route_takes family width bytes route fine, route_again family width bytes route);
  one_route = λ family width bytes route other h k. ok_is route other (sym (route_again family width bytes route h) ∙ route_again family width bytes other k);
}
