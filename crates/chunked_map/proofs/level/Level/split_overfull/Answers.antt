use Rattle.std.proofs.Common.{ap}
use Rattle.chunked_map.specs.ChunkedMaps.{in_leaves}
use Rattle.chunked_map.proofs.NodeLaws.{node_kept, node_split}
use Rattle.chunked_map.proofs.level.Level.split_overfull.Goals as goal

pub first-first-requires : goal.first-first-requires
first-first-requires g c = c.in-Some.ensures.cut.high_held

pub returns-in_default : goal.returns-in_default
returns-in_default g c =
    let read = rw c.make_room-2.ensures.items at c.index_mut.ensures.value in
    let kept = node_kept g.P.Node.routes c.args.self.now.nodes.items c.args.index _ read c.split.new.self c.in_default.ensures.same in
    record {
      same = rw c.make_room-2.ensures.items (ap in_leaves kept);
      nodes = rw (c.make_room.ensures.items, c.make_room-2.ensures.items, kept) c.requires.nodes;
    }

pub returns : goal.returns
returns g c =
    let read = rw c.make_room-2.ensures.items at c.index_mut.ensures.value in
    let two = node_split g.P.Node.routes c.args.self.now.nodes.items c.args.index _ read c.args.self.now.firsts.items c.split.new.self c.in-Some.high c.requires.nodes c.requires.within c.in-Some.ensures.cut in
    record {
      same = rw (c.put-2.ensures, c.make_room-2.ensures.items) two.0;
      nodes = rw (c.put.ensures, c.make_room.ensures.items, c.first-first.ensures, c.put-2.ensures, c.make_room-2.ensures.items) two.1;
    }
