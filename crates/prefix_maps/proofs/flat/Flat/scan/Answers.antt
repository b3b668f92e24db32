use Rattle.std.proofs.Common.{◌<◌, sym, arith, ap, length}
use Rattle.bgp_prefix.proofs.SortedMaps.{scanned_at, scanned_past, scanned_more}
use Rattle.prefix_maps.proofs.flat.Flat.scan.Goals as goal

pub loop-at-preserved : goal.loop-at-preserved
loop-at-preserved g c =
    let es = c.args.self.now in
    let read = rw c.self.view_is at c.index.ensures in
    let in_range : c.loop-at.at < length es = omega (arith, c.loop-at-test.true, c.len.ensures, ap length c.self.view_is) in
    record { inside = omega (arith, in_range); below = scanned_more es c.args.key.now c.loop-at.at c.index.result.now in_range c.loop-at.invariant.below read (sym c.in-Less.ensures) }

pub returns-in-Equal-clause-found : goal.returns-in-Equal-clause-found
returns-in-Equal-clause-found g c =
    let es = c.args.self.now in
    let read = rw c.self.view_is at c.index.ensures in
    let in_range : c.loop-at.at < length es = omega (arith, c.loop-at-test.true, c.len.ensures, ap length c.self.view_is) in
    scanned_at es c.args.key.now c.loop-at.at c.index.result.now in_range read (sym c.in-Equal.ensures)

pub returns-in-Greater-clause-absent : goal.returns-in-Greater-clause-absent
returns-in-Greater-clause-absent g c =
    let es = c.args.self.now in
    let read = rw c.self.view_is at c.index.ensures in
    let in_range : c.loop-at.at < length es = omega (arith, c.loop-at-test.true, c.len.ensures, ap length c.self.view_is) in
    scanned_past es c.args.key.now c.loop-at.at c.index.result.now (rw c.self.view_is at c.self.invariant.sorted) in_range c.loop-at.invariant.below read (sym c.in-Greater.ensures)
