use Rattle.std.proofs.Common.{◌≡◌, ◌<◌, ap, take, drop, arith, length}
use Rattle.std.proofs.lemmas.List.{length-drop, length-take, take-append-drop}
use Rattle.chunked_map.proofs.leaf.LeafNode.split.Goals as goal

pub returns-in-Ok-clause-cut : goal.returns-in-Ok-clause-cut
returns-in-Ok-clause-cut g c =
    let es = c.args.self.now in
    let low : c.cut.new.self ≡ take 64 es = c.in-Ok.ensures.low in
    let high : c.in-Ok.high ≡ drop 64 es = c.in-Ok.ensures.high in
    let long : 64 < length es = omega (arith, c.len.ensures, c.if-len-le-HALF_LEN.false) in
    record {
      whole = rw (low, high) (take-append-drop 64 es);
      low_held = omega (arith, ap length low, length-take 64 es, long);
      high_held = omega (arith, ap length high, length-drop 64 es, long);
    }
