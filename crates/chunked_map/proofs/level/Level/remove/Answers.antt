use Rattle.std.proofs.Common.{◌∙◌, sym}
use Rattle.chunked_map.proofs.NodeLaws.{node_sorted, node_found, node_without, node_gone, nodes_left}
use Rattle.chunked_map.proofs.level.Level.remove.Goals as goal

pub remove-before-requires : goal.remove-before-requires
remove-before-requires g c = node_sorted g.P.Node.routes c.args.self.now.nodes.items _ _ c.index_mut.ensures.value c.index_of_key-index.ensures.in_range c.requires.sorted

pub returns-then-is_empty-2 : goal.returns-then-is_empty-2
returns-then-is_empty-2 g c =
    let gone = node_gone g.P.Node.routes c.args.self.now.nodes.items _ _ c.index_mut.ensures.value _ c.index_of_key-index.ensures
    c.remove-before.new.self c.remove-before.ensures.removed _ c.index.result.now c.requires c.index.ensures (sym c.is_empty-2.ensures ∙ c.if-is_empty-2.true) in
    record {
      before = c.remove-before.ensures.before ∙ node_found g.P.Node.routes c.args.self.now.nodes.items _ _ c.index_mut.ensures.value _ c.index_of_key-index.ensures;
      removed = rw c.remove.ensures.items gone.0;
      nodes = rw (c.remove-then-is_empty-2.ensures.items, c.remove.ensures.items) gone.1;
    }

pub returns-else-is_empty-2 : goal.returns-else-is_empty-2
returns-else-is_empty-2 g c = record {
  before = c.remove-before.ensures.before ∙ node_found g.P.Node.routes c.args.self.now.nodes.items _ _ c.index_mut.ensures.value _ c.index_of_key-index.ensures;
  removed = node_without g.P.Node.routes c.args.self.now.nodes.items _ _ c.index_mut.ensures.value _ c.index_of_key-index.ensures c.remove-before.new.self c.remove-before.ensures.removed;
  nodes = nodes_left g.P.Node.routes c.args.self.now.nodes.items _ _ c.index_mut.ensures.value _ c.index_of_key-index.ensures c.remove-before.new.self c.remove-before.ensures.removed
      _ c.index.result.now c.index-else-is_empty-2.result.now _ c.requires c.index.ensures (sym c.is_empty-2.ensures ∙ c.if-is_empty-2.false) c.index-else-is_empty-2.ensures c.first-first.ensures;
}
