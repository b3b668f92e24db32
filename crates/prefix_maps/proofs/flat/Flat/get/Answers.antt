use Rattle.std.proofs.Common.{Some, sym, ap, ◌∙◌}
use Rattle.bgp_prefix.specs.Keys.{key_cmp}
use Rattle.bgp_prefix.proofs.KeyLaws.{key_cmp_total}
use Rattle.bgp_prefix.proofs.SearchLaws.{at_find, gap_absent}
use Rattle.prefix_maps.proofs.flat.Flat.get.Goals as goal

pub returns-in-Ok : goal.returns-in-Ok
returns-in-Ok g c =
    let read = rw c.self.view_is at c.index.ensures in
    ap (λ e. Some e.1) read ∙ sym (at_find key_cmp key_cmp_total c.args.self.now c.args.key.now c.in-Ok.at c.index.result.now c.in-Ok.ensures.sorted c.in-Ok.ensures.found)

pub returns-in-Err : goal.returns-in-Err
returns-in-Err g c = sym (gap_absent key_cmp key_cmp_total c.args.self.now c.args.key.now _ c.in-Err.ensures.absent).0
