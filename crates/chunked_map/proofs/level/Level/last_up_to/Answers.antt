use Rattle.chunked_map.proofs.LastPrefixes.{last_in}
use Rattle.chunked_map.proofs.NodeLaws.{node_is, node_sorted}
use Rattle.chunked_map.proofs.level.Level.last_up_to.Goals as goal

pub last_up_to-requires : goal.last_up_to-requires
last_up_to-requires g c = node_sorted g.P.Node.routes c.args.self.now.nodes.items _ _ c.index.ensures c.index_of_prefix.ensures.in_range c.requires.sorted

pub returns : goal.returns
returns g c =
    last_in _ _ _ _ _ _ c.requires c.index_of_prefix.ensures (node_is g.P.Node.routes c.args.self.now.nodes.items _ _ c.index.ensures c.index_of_prefix.ensures.in_range) c.last_up_to.ensures
