use Rattle.std.proofs.Common.{◌∙◌, ap}
use Rattle.chunked_map.specs.ChunkedMaps.{in_leaves}
use Rattle.chunked_map.proofs.KeyedLists.{on_err}
use Rattle.chunked_map.proofs.NodeLaws.{node_sorted, node_found, node_kept, node_put, nodes_with_put}
use Rattle.chunked_map.proofs.level.Level.insert_in_node.Goals as goal

pub insert-requires-clause-sorted : goal.insert-requires-clause-sorted
insert-requires-clause-sorted g c = node_sorted g.P.Node.routes c.args.self.now.nodes.items _ _ c.index_mut.ensures.value c.requires.index.in_range c.requires.nodes.sorted

pub returns-in_err-before-clause-err : goal.returns-in_err-before-clause-err
returns-in_err-before-clause-err g c =
    on_err c.from_residual.result (ap in_leaves (node_kept g.P.Node.routes c.args.self.now.nodes.items _ _ c.index_mut.ensures.value c.insert.new.self c.in_err-before.ensures.err))

pub returns-in_err-before-clause-nodes : goal.returns-in_err-before-clause-nodes
returns-in_err-before-clause-nodes g c =
    rw (node_kept g.P.Node.routes c.args.self.now.nodes.items c.args.index _ c.index_mut.ensures.value c.insert.new.self c.in_err-before.ensures.err) c.requires.nodes

pub returns-clause-before : goal.returns-clause-before
returns-clause-before g c = c.in_ok-before.ensures.before ∙ node_found g.P.Node.routes c.args.self.now.nodes.items _ _ c.index_mut.ensures.value _ c.requires.index

pub returns-clause-ok : goal.returns-clause-ok
returns-clause-ok g c = node_put g.P.Node.routes c.args.self.now.nodes.items _ _ c.index_mut.ensures.value _ c.requires.index c.insert.new.self _ c.in_ok-before.ensures.ok

pub returns-clause-nodes : goal.returns-clause-nodes
returns-clause-nodes g c =
    rw (c.lower_first_key.ensures c.args.key.now) (nodes_with_put g.P.Node.routes c.args.self.now.nodes.items _ _ c.index_mut.ensures.value _ c.requires.index
    c.insert.new.self _ c.in_ok-before.ensures.ok c.args.self.now.firsts.items c.requires.nodes c.requires.known)
