use Rattle.std.proofs.Common.{map, arith}
use Rattle.std.proofs.lemmas.List.{length-map}
use Rattle.chunked_map.proofs.ChunkedMapLaws.{index_of_key}
use Rattle.chunked_map.proofs.level.Level.index_of_key.Goals as goal

pub returns : goal.returns
returns g c =
    let ps = c.args.self.now.nodes.items in
    rw c.saturating_sub.ensures (index_of_key _ (map g.P.Node.routes ps) c.args.key.now _ _ c.requires.nodes (omega (arith, c.requires.some, length-map ps g.P.Node.routes)) c.loop-low.invariant c.loop-low-test.false)
