use Rattle.std.proofs.Common.{arith, map, take, ◌<◌, ◌+◌, length, ◌∙◌}
use Rattle.chunked_map.proofs.LeafLaws.{one_more, read_more}
use Rattle.chunked_map.proofs.leaf.LeafNode.list.Goals as goal

pub loop-at-preserved : goal.loop-at-preserved
loop-at-preserved g c =
    let l = c.loop-at in
    let es = c.args.self.now in
    let lt : l.at < length es = omega (arith, c.loop-at-test.true, c.len.ensures) in
    record {
      inside = omega (arith, lt);
      listed = read_more (λ e. (e.0, e.1.now)) l.all.items c.push_reserved.new.self.items (c.key_at.result, c.value_at.result) (map (λ e. (e.0, e.1.now)) c.args.all.now.items) (take l.at es) (take (l.at + 1) es) c.push_reserved.ensures.items l.invariant.listed (one_more c.key_at.result.prefix es l.at c.key_at.result c.value_at.result.now lt c.key_at.ensures c.value_at.ensures);
      len = omega (arith, c.push_reserved.ensures.len, l.invariant.len);
      capacity = c.push_reserved.ensures.capacity ∙ l.invariant.capacity;
    }
