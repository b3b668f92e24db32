use Rattle.std.proofs.Common.{refl}
use Rattle.prefix_maps.proofs.radix.node.Fork.of.Goals as goal

pub returns-clause-fork : goal.returns-clause-fork
returns-clause-fork g c =
    let parts = c.in-Some.parts in
    rw c.fill.ensures (record {
      low = parts.low;
      high = parts.high;
      split = rw c.in-Some.is at c.in_ok-parts.ensures.parts;
      low_is = refl;
      high_is = refl;
    })
