use Rattle.std.proofs.Common.{arith}
use Rattle.std.proofs.lemmas.List.{length-map}
use Rattle.chunked_map.proofs.NodeLaws.{node_sorted, node_last}
use Rattle.chunked_map.proofs.level.Level.is_full_before.Goals as goal

pub is_full_before-requires : goal.is_full_before-requires
is_full_before-requires g c =
    node_sorted g.P.Node.routes c.args.self.now.nodes.items _ _ c.index.ensures
    (omega (arith, c.len-len.ensures, c.if-len-ge-FULL_LEN.true, length-map c.args.self.now.nodes.items g.P.Node.routes)) c.requires.sorted

pub returns-then-len-ge-FULL_LEN : goal.returns-then-len-ge-FULL_LEN
returns-then-len-ge-FULL_LEN g c =
    λ yes. node_last g.P.Node.routes c.args.self.now.nodes.items _ _ c.index.ensures _ _ c.requires (omega (arith, c.len-len.ensures, c.if-len-ge-FULL_LEN.true)) (c.is_full_before.ensures yes)
