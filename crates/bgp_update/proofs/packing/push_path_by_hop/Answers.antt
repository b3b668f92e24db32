use Rattle.std.proofs.Common.{subst, sym}
use Rattle.std.specs.Prelude.{OnOk}
use Rattle.bgp_update.specs.declared.width.Width.{Width}
use Rattle.bgp_update.specs.Hops.{by_hop}
use Rattle.bgp_update.specs.Packing.{WritesPath}
use Rattle.bgp_update.specs.Values.{kept_route}
use Rattle.bgp_update.proofs.packing.push_path_by_hop.Goals as goal

pub returns-in-Four : goal.returns-in-Four
returns-in-Four c = subst (λ (w : Width). OnOk c.push_four.result (WritesPath c.args.out.now.items c.push_four.new.out.items (by_hop (kept_route w c.args.first.now c.args.kept.now) c.args.hop.now))) (sym c.in-Four.is) c.push_four.ensures

pub returns-in-Two : goal.returns-in-Two
returns-in-Two c = subst (λ (w : Width). OnOk c.push_two.result (WritesPath c.args.out.now.items c.push_two.new.out.items (by_hop (kept_route w c.args.first.now c.args.kept.now) c.args.hop.now))) (sym c.in-Two.is) c.push_two.ensures
