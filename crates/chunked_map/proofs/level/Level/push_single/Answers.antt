use Rattle.std.proofs.Common.{◌≡◌, ap, arith, length}
use Rattle.chunked_map.proofs.NodeLaws.{node_added}
use Rattle.chunked_map.proofs.level.Level.push_single.Goals as goal

pub returns : goal.returns
returns g c =
    let at : c.len-len-2.result ≡ length c.args.self.now.nodes.items = omega (arith, c.len-len-2.ensures, ap length c.make_room-2.ensures.items) in
    let at_key : c.len-len.result ≡ length c.args.self.now.firsts.items = omega (arith, c.len-len.ensures, ap length c.make_room.ensures.items) in
    let added = node_added g.P.Node.routes c.args.self.now.nodes.items _ c.requires.nodes c.args.key.now c.args.value _ _ _ c.in_ok-node.ensures at at_key c.requires.last c.requires.known in
    record {
      ok = rw (c.put-2.ensures, c.make_room-2.ensures.items) added.0;
      err = tt;
      nodes = rw (c.put.ensures, c.make_room.ensures.items, c.put-2.ensures, c.make_room-2.ensures.items) added.1;
    }
