use Rattle.std.proofs.Common.{◌≡◌, ◌<◌, sym, arith, length}
use Rattle.chunked_map.proofs.LastPrefixes.{ends_in}
use Rattle.chunked_map.proofs.leaf.LeafNode.is_full_before.Goals as goal

pub returns-in-Less : goal.returns-in-Less
returns-in-Less g c =
    let es = c.args.self.now in
    let n : c.len-len.result ≡ length es = c.len-len.ensures in
    let some : 0 < length es = omega (arith, n, c.if-len-lt-FULL_LEN.false) in
    λ yes. ends_in es c.args.key.now c.key_at.result c.requires some (rw n at c.key_at.ensures) (sym c.in-Less.ensures)
