use Rattle.std.proofs.Common.{◌≡◌, ◌+◌, ◌++◌, ◌<◌, ◌∙◌, ap, sym, take, map, arith, length}
use Rattle.std.proofs.lemmas.List.{length-append, append_assoc}
use Rattle.bgp_prefix.specs.Keys.{entries_now}
use Rattle.chunked_map.specs.ChunkedMaps.{in_leaves}
use Rattle.chunked_map.proofs.ChunkedMapLaws.{node_fits, node_listed}
use Rattle.chunked_map.proofs.level.Level.list.Goals as goal

pub list-requires : goal.list-requires
list-requires g c =
    let fits = node_fits g.P.Node.routes c.args.self.now.nodes.items c.loop-at.at c.index.result.now (omega (arith, c.loop-at-test.true, c.len.ensures)) c.index.ensures in
    omega (arith, c.requires, c.loop-at.invariant.len, c.loop-at.invariant.capacity, fits)

pub loop-at-preserved : goal.loop-at-preserved
loop-at-preserved g c =
    let f = g.P.Node.routes in
    let l = c.loop-at in
    let x = c.index.result.now in
    let before = entries_now c.args.all.now.items in
    let done = in_leaves (take l.at (map f c.args.self.now.nodes.items)) in
    let lt : l.at < length c.args.self.now.nodes.items = omega (arith, c.loop-at-test.true, c.len.ensures) in
    let so_far : entries_now l.all.items ≡ before ++ done = l.invariant.listed in
    let more : in_leaves (take (l.at + 1) (map f c.args.self.now.nodes.items)) ≡ done ++ f x = node_listed f c.args.self.now.nodes.items l.at x lt c.index.ensures in
    let count : length (in_leaves (take (l.at + 1) (map f c.args.self.now.nodes.items))) ≡ length done + length (f x) = ap length more ∙ length-append done (f x) in
    record {
      inside = omega (arith, lt);
      listed = rw (c.list.ensures.entries, so_far, append_assoc before done (f x)) (ap (λ t. before ++ t) (sym more));
      len = omega (arith, c.list.ensures.len, l.invariant.len, count);
      capacity = c.list.ensures.capacity ∙ l.invariant.capacity;
    }
