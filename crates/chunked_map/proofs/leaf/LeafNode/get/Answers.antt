use Rattle.std.proofs.Common.{◌∙◌, ap, sym, Some}
use Rattle.bgp_prefix.specs.Keys.{key_cmp, RouteKey}
use Rattle.bgp_prefix.proofs.KeyLaws.{key_cmp_total}
use Rattle.bgp_prefix.proofs.SearchLaws.{at_find, gap_absent}
use Rattle.chunked_map.proofs.leaf.LeafNode.get.Goals as goal

pub returns-in-Ok : goal.returns-in-Ok
returns-in-Ok g c =
    let d : RouteKey × _ = (c.args.key.now, c.value_at.result.now) in
    ap Some (c.value_at.ensures d) ∙ sym (at_find key_cmp key_cmp_total c.args.self.now c.args.key.now c.in-Ok.at d c.requires c.in-Ok.ensures.found)

pub returns-in-Err : goal.returns-in-Err
returns-in-Err g c =
    sym (gap_absent key_cmp key_cmp_total c.args.self.now c.args.key.now _ c.in-Err.ensures.absent).0
