use Rattle.std.proofs.Common.{subst, sym}
use Rattle.bgp_update.specs.declared.route.Route.{Route}
use Rattle.bgp_update.specs.Packing.{IsWritable}
use Rattle.bgp_update.specs.Updates.{Update}
use Rattle.bgp_update.proofs.HandledEntries.{entry_writable}
use Rattle.bgp_update.proofs.handling.read_handled_entry.Goals as goal

pub returns-clause-writable : goal.returns-clause-writable
returns-clause-writable g c =
    subst (λ (u : Update). IsWritable u.route.path) (sym c.in_ok-update.ensures)
    (subst (λ (r : Route). IsWritable r.path) (sym c.in_ok-route.ensures) (entry_writable g.F.Unicast.family c.args.width c.in_ok-values.values.first c.in_ok-block.block c.in_ok-values.ensures.packable))
