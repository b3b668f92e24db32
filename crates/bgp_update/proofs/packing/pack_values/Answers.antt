use Rattle.std.proofs.Common.{subst, ap, ◌∙◌}
use Rattle.std.specs.Prelude.{IfOk}
use Rattle.bgp_update.specs.declared.route.Route.{Route}
use Rattle.bgp_update.specs.Decoded.{AddsRoute}
use Rattle.bgp_update.specs.Attributes.{next_hop_value}
use Rattle.bgp_update.proofs.PackedReadings.{by_own_hop}
use Rattle.bgp_update.proofs.packing.pack_values.Goals as goal

pub returns : goal.returns
returns c =
    subst (λ (r : Route). IfOk c.pack_by_hop.result (AddsRoute c.args.out.now.items c.pack_by_hop.new.out.items r))
    (by_own_hop c.args.width c.args.first.now c.args.kept.now _ (c.next_hop_value-hop.ensures ∙ ap next_hop_value c.value.ensures)) c.pack_by_hop.ensures
