use Rattle.std.proofs.Common.{[], ◌∷◌}
use Rattle.std.proofs.lemmas.List.{append-nil}
use Rattle.chunked_map.proofs.ChunkedMapLaws.{nodes_one}
use Rattle.chunked_map.proofs.level.Level.single.Goals as goal

pub returns-clause-routes : goal.returns-clause-routes
returns-clause-routes g c =
    let k = c.args.key.now in
    rw (c.put-2.ensures, c.in_ok-nodes.ensures.items, c.in_ok-node.ensures) (append-nil ((k, c.args.value) ∷ []))

pub returns-clause-nodes : goal.returns-clause-nodes
returns-clause-nodes g c =
    rw (c.put.ensures, c.put-2.ensures, c.in_ok-firsts.ensures.items, c.in_ok-nodes.ensures.items, c.in_ok-node.ensures) (nodes_one c.args.key.now c.args.value c.requires.known)
