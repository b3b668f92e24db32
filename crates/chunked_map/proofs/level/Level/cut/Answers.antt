use Rattle.std.proofs.Common.{arith}
use Rattle.chunked_map.proofs.NodeLaws.{nodes_halved}
use Rattle.chunked_map.proofs.level.Level.cut.Goals as goal

pub returns : goal.returns
returns g c =
    let halves = nodes_halved g.P.Node.routes c.args.self.now.nodes.items _ c.requires.nodes 64 (omega arith) c.requires.long in
    record {
      cut = rw (c.shrink_to-2.ensures.items, c.in_ok-nodes.ensures.items, c.in_ok-nodes.ensures.tail) halves.cut;
      low = rw (c.shrink_to.ensures.items, c.truncate.ensures.items, c.shrink_to-2.ensures.items, c.in_ok-nodes.ensures.items) halves.low;
      high = rw (c.in_ok-firsts.ensures, c.in_ok-nodes.ensures.tail) halves.high;
      err = tt;
    }
