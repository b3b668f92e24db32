use Rattle.std.proofs.Common.{◌∙◌, map, arith}
use Rattle.chunked_map.proofs.KeyedLists.{empty_nodes}
use Rattle.chunked_map.proofs.ChunkedMapLaws.{empty_in}
use Rattle.chunked_map.proofs.level.Level.is_empty.Goals as goal

pub returns : goal.returns
returns g c =
    let nodes = c.args.self.now.nodes in
    c.is_empty.ensures ∙ empty_nodes g.P.Node.routes nodes.items nodes.len (omega arith) ∙ empty_in (map g.P.Node.routes nodes.items) c.requires.held
