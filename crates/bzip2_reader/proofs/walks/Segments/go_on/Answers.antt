use Rattle.std.proofs.Common.{arith}
use Rattle.bzip2_reader.proofs.WalkLaws.{segment_written}
use Rattle.bzip2_reader.proofs.walks.Segments.go_on.Goals as goal

pub overflow_add-bytes : goal.overflow_add-bytes
overflow_add-bytes c =
    let is = c.in-Some.ensures.walked c.args.links.now c.requires.segments in
    omega (arith, is.fits, c.args.self.now.bytes.ok.0, c.args.self.now.bytes.small)

pub slice_bounds-bytes-end : goal.slice_bounds-bytes-end
slice_bounds-bytes-end c =
    let is = c.in-Some.ensures.walked c.args.links.now c.requires.segments in
    omega (arith, is.fits, c.as_slice.ensures.len, c.args.self.now.bytes.ok.0)

pub returns-clause-front : goal.returns-clause-front
returns-clause-front c = λ first front.
    segment_written c.args.links.now first c.args.text.now c.args.self.now.bytes.items c.as_slice.result.now c.copy_from_slice.new.self c.args.at c.in-Some.segment _ _ front
    (c.in-Some.ensures.walked c.args.links.now c.requires.segments) c.in-Some.ensures.row c.as_slice.ensures.value (omega arith) c.copy_from_slice.ensures.after
