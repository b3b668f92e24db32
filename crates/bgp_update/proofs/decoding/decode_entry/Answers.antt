use Rattle.std.proofs.Common.{List, ap, ◌∙◌}
use Rattle.bgp_update.specs.Decoded.{route_at}
use Rattle.bgp_update.specs.KeptAttributes.{KeptValue}
use Rattle.bgp_update.specs.Values.{kept_entry_route, kept_value, plain_rules}
use Rattle.bgp_update.proofs.FromFirstValues.{route_of_first_values}
use Rattle.bgp_update.proofs.PackedReadings.{plain_entry}
use Rattle.bgp_update.proofs.decoding.decode_entry.Goals as goal

pub returns-clause-exact : goal.returns-clause-exact
returns-clause-exact g c =
    let first = c.keep_values.new.first in
    route_of_first_values (plain_rules g.F.Unicast.family) c.args.width c.args.attrs.now (kept_value first) (route_at c.pack_entry.new.out.items c.in_ok-span.span) c.in_ok-keep_values.ensures.values
    (c.in_ok-span.ensures.is ∙ ap (λ (ks : List KeptValue). kept_entry_route g.F.Unicast.family c.args.width first ks) c.none.ensures ∙ plain_entry g.F.Unicast.family c.args.width first)
