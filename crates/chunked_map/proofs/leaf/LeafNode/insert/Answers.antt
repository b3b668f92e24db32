use Rattle.std.proofs.Common.{Some, sym, ap, ◌∙◌}
use Rattle.bgp_prefix.specs.Keys.{RouteKey, key_cmp}
use Rattle.bgp_prefix.proofs.KeyLaws.{key_cmp_total}
use Rattle.bgp_prefix.proofs.SearchLaws.{at_find, at_put, gap_put, gap_absent}
use Rattle.chunked_map.proofs.leaf.LeafNode.insert.Goals as goal

pub returns-in-Ok-clause-before : goal.returns-in-Ok-clause-before
returns-in-Ok-clause-before g c =
    let d : RouteKey × _ = (c.args.key.now, c.set.result) in
    ap Some (c.set.ensures.before d) ∙ sym (at_find key_cmp key_cmp_total c.args.self.now c.args.key.now c.in-Ok.at d c.requires.sorted c.in-Ok.ensures.found)

pub returns-in-Ok-clause-ok : goal.returns-in-Ok-clause-ok
returns-in-Ok-clause-ok g c =
    let d : RouteKey × _ = (c.args.key.now, c.args.value) in
    c.set.ensures.set d ∙ sym (at_put key_cmp key_cmp_total c.args.self.now c.args.key.now c.args.value c.in-Ok.at d c.requires.sorted c.in-Ok.ensures.found)

pub returns-in_ok-put_at-in-Err-clause-before : goal.returns-in_ok-put_at-in-Err-clause-before
returns-in_ok-put_at-in-Err-clause-before g c = sym (gap_absent key_cmp key_cmp_total c.args.self.now c.args.key.now c.in-Err.at c.in-Err.ensures.absent).0

pub returns-in_ok-put_at-in-Err-clause-ok : goal.returns-in_ok-put_at-in-Err-clause-ok
returns-in_ok-put_at-in-Err-clause-ok g c = c.in_ok-put_at-in-Err.ensures ∙ sym (gap_put key_cmp key_cmp_total c.args.self.now c.args.key.now c.args.value c.in-Err.at c.in-Err.ensures.absent)
