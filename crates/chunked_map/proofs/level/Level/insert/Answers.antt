use Rattle.std.proofs.Common.{sym, arith}
use Rattle.std.proofs.lemmas.List.{length-map}
use Rattle.chunked_map.proofs.KeyedLists.{find_below}
use Rattle.chunked_map.proofs.NodeLaws.{node_sorted, node_last}
use Rattle.chunked_map.proofs.level.Level.insert.Goals as goal

pub is_full_before-requires : goal.is_full_before-requires
is_full_before-requires g c = node_sorted g.P.Node.routes c.args.self.now.nodes.items _ _ c.index.ensures c.index_of_key-index.ensures.in_range c.requires.nodes.sorted

pub push_single-requires-then-is_full_before-clause-last : goal.push_single-requires-then-is_full_before-clause-last
push_single-requires-then-is_full_before-clause-last g c =
    node_last g.P.Node.routes c.args.self.now.nodes.items _ _ c.index.ensures _ _ c.requires.nodes (omega (arith, c.if-index-len.true, c.len.ensures)) (c.is_full_before.ensures c.if-is_full_before.true)

pub returns-then-is_full_before-clause-before : goal.returns-then-is_full_before-clause-before
returns-then-is_full_before-clause-before g c =
    sym (find_below c.args.key.now _
    (node_last g.P.Node.routes c.args.self.now.nodes.items _ _ c.index.ensures _ _ c.requires.nodes (omega (arith, c.if-index-len.true, c.len.ensures)) (c.is_full_before.ensures c.if-is_full_before.true)))

pub split_overfull-requires-clause-within : goal.split_overfull-requires-clause-within
split_overfull-requires-clause-within g c =
    omega (arith, c.in_ok-before.ensures.kept, c.index_of_key-index.ensures.in_range, length-map c.args.self.now.nodes.items g.P.Node.routes)
