use Rattle.std.proofs.Common.{◌∙◌}
use Rattle.chunked_map.proofs.NodeLaws.{node_sorted, node_found}
use Rattle.chunked_map.proofs.level.Level.get.Goals as goal

pub get-requires : goal.get-requires
get-requires g c = node_sorted g.P.Node.routes c.args.self.now.nodes.items _ _ c.index.ensures c.index_of_key.ensures.in_range c.requires.sorted

pub returns : goal.returns
returns g c = c.get.ensures ∙ node_found g.P.Node.routes c.args.self.now.nodes.items _ _ c.index.ensures _ c.index_of_key.ensures
