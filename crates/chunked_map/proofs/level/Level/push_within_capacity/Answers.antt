use Rattle.std.proofs.Common.{◌≡◌, ◌+◌, ◌-◌, ap, arith, length}
use Rattle.std.proofs.lemmas.List.{length-map}
use Rattle.std.proofs.lemmas.Result.{on_ok_weaker, on_err_weaker}
use Rattle.std.specs.declared.cmp.Ordering.TheVariants.{Less}
use Rattle.bgp_prefix.specs.Keys.{key_cmp}
use Rattle.chunked_map.specs.ChunkedMaps.{in_leaves}
use Rattle.chunked_map.proofs.KeyedLists.{either_way}
use Rattle.chunked_map.proofs.NodeLaws.{node_each, node_kept, node_pushed, nodes_with_pushed}
use Rattle.chunked_map.proofs.level.Level.push_within_capacity.Goals as goal

pub push_within_capacity-requires-clause-last : goal.push_within_capacity-requires-clause-last
push_within_capacity-requires-clause-last g c =
    node_each g.P.Node.routes c.args.self.now.nodes.items _ _ c.index_mut.ensures.value (λ j. key_cmp j c.args.key.now ≡ Less)
    (omega (arith, c.len-len.ensures, c.if-len-eq0.false, length-map c.args.self.now.nodes.items g.P.Node.routes)) c.requires.last

pub returns-clause-ok : goal.returns-clause-ok
returns-clause-ok g c =
    let last : c.len-len.result - 1 + 1 ≡ length c.args.self.now.nodes.items = omega (arith, c.len-len.ensures, c.if-len-eq0.false) in
    on_ok_weaker c.push_within_capacity.result
    (node_pushed g.P.Node.routes c.args.self.now.nodes.items _ _ c.index_mut.ensures.value c.args.key.now c.args.value c.push_within_capacity.new.self last) c.push_within_capacity.ensures.ok

pub returns-clause-err : goal.returns-clause-err
returns-clause-err g c =
    on_err_weaker c.push_within_capacity.result
    (λ kept. ap in_leaves (node_kept g.P.Node.routes c.args.self.now.nodes.items _ _ c.index_mut.ensures.value c.push_within_capacity.new.self kept)) c.push_within_capacity.ensures.err

pub returns-clause-nodes : goal.returns-clause-nodes
returns-clause-nodes g c =
    let last : c.len-len.result - 1 + 1 ≡ length c.args.self.now.nodes.items = omega (arith, c.len-len.ensures, c.if-len-eq0.false) in
    either_way c.push_within_capacity.result
    (λ pushed. nodes_with_pushed g.P.Node.routes c.args.self.now.nodes.items _ _ c.index_mut.ensures.value c.args.key.now c.args.value c.push_within_capacity.new.self last pushed _ c.requires.nodes c.requires.last c.requires.known)
    (λ kept. rw (node_kept g.P.Node.routes c.args.self.now.nodes.items (c.len-len.result - 1) _ c.index_mut.ensures.value c.push_within_capacity.new.self kept) c.requires.nodes)
    c.push_within_capacity.ensures.ok c.push_within_capacity.ensures.err
