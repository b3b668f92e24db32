use Rattle.chunked_map.proofs.ChunkedMapLaws.{first_is}
use Rattle.chunked_map.proofs.leaf.LeafNode.first.Goals as goal

pub returns : goal.returns
returns g c =
    first_is c.args.self.now c.key_at.result c.requires c.key_at.ensures
