use Rattle.std.proofs.Common.{sym, ap, subst, ◌∙◌}
use Rattle.bgp_update.specs.declared.route.Route.{Route}
use Rattle.bgp_update.specs.Packing.{IsWritable}
use Rattle.bgp_update.specs.Updates.{Update}
use Rattle.peer_units.proofs.EventLaws.{taken_route}
use Rattle.peer_units.proofs.interpret.update_event.Goals as goal

pub returns-in-Ok-taken_by-clause-writable : goal.returns-in-Ok-taken_by-clause-writable
returns-in-Ok-taken_by-clause-writable g c =
    subst (λ (r : Route). IsWritable r.path) (sym (ap (λ (u : Update). u.route) c.in-Ok-taken_by.ensures ∙ taken_route c.errors.result c.in-Ok.update)) c.in-Ok.ensures.writable
