use Rattle.std.proofs.Common.{Some, sym, ap, ◌∙◌}
use Rattle.bgp_prefix.specs.Keys.{RouteKey, key_cmp}
use Rattle.bgp_prefix.proofs.KeyLaws.{key_cmp_total}
use Rattle.bgp_prefix.proofs.SearchLaws.{at_find, at_without, gap_absent}
use Rattle.chunked_map.proofs.leaf.LeafNode.remove.Goals as goal

pub returns-in-Ok-clause-before : goal.returns-in-Ok-clause-before
returns-in-Ok-clause-before g c =
    let d : RouteKey × _ = (c.args.key.now, c.take_at.result) in
    ap Some (c.take_at.ensures.before d) ∙ sym (at_find key_cmp key_cmp_total c.args.self.now c.args.key.now c.in-Ok.at d c.requires c.in-Ok.ensures.found)

pub returns-in-Ok-clause-removed : goal.returns-in-Ok-clause-removed
returns-in-Ok-clause-removed g c = c.take_at.ensures.removed ∙ sym (at_without key_cmp key_cmp_total c.args.self.now c.args.key.now c.in-Ok.at c.requires c.in-Ok.ensures.found)

pub returns-in-Err-clause-before : goal.returns-in-Err-clause-before
returns-in-Err-clause-before g c = sym (gap_absent key_cmp key_cmp_total c.args.self.now c.args.key.now _ c.in-Err.ensures.absent).0

pub returns-in-Err-clause-removed : goal.returns-in-Err-clause-removed
returns-in-Err-clause-removed g c = sym (gap_absent key_cmp key_cmp_total c.args.self.now c.args.key.now _ c.in-Err.ensures.absent).1
