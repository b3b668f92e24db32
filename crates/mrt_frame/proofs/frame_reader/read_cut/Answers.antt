use Rattle.std.proofs.Common.{◌<◌, sym, ◌∙◌, arith, length-take-le, vec_len}
use Rattle.std.proofs.lemmas.Result.{err_from_is_err_and}
use Rattle.mrt_frame.specs.Frames.{ReadsPart}
use Rattle.mrt_frame.proofs.Buffers.{reads-some, reads-more, Consumes-full, Consumes-nothing}
use Rattle.mrt_frame.proofs.FirstCut.{first-end, first-short_header, first-too_long_by, first-short_body_by, first-record_by, limits-body, part_of_header, part_of_body}
use Rattle.mrt_frame.specs.Given.{ReadsPartOf}
use Rattle.mrt_frame.proofs.FirstRead.{read-end, read-short_header, read-too_long, read-short_body, read-record, read-part_of_header, read-part_of_body}
use Rattle.mrt_frame.proofs.GivenLaws.{reads-nothing}
use Rattle.mrt_frame.proofs.frame_reader.read_cut.Goals as goal

pub returns-then-count-eq0-clause-first : goal.returns-then-count-eq0-clause-first
returns-then-count-eq0-clause-first g c =
    first-end _ _ _ (Consumes-nothing c.in-Ok.count _ _ c.read_full.new.buf c.in-Ok.ensures.bytes c.if-count-eq0.true) (c.in-Ok.ensures.end (omega arith))

pub returns-then-count-lt12-clause-first : goal.returns-then-count-lt12-clause-first
returns-then-count-lt12-clause-first g c =
    let size = length-take-le c.in-Ok.count c.read_full.new.buf c.in-Ok.ensures.bound in
    first-short_header _ _ _ _ c.in-Ok.ensures.bytes (c.in-Ok.ensures.end (omega arith)) (omega (arith, size)) (omega (arith, size))

pub returns-then-not-is_within_limits-clause-first :
    goal.returns-then-not-is_within_limits-clause-first
returns-then-not-is_within_limits-clause-first g c =
    let header = Consumes-full c.in-Ok.count _ _ c.read_full.new.buf c.in-Ok.ensures.bytes (omega arith) in
    first-too_long_by c.args.offset c.parse-header.result.length _ _ c.read_full.new.buf header (omega arith) c.parse-header.ensures.length (sym c.is_within_limits.ensures ∙ c.if-not-is_within_limits.true)

pub returns-in_default-clause-part : goal.returns-in_default-clause-part
returns-in_default-clause-part g c = part_of_header c.args.offset _ _ _ c.args.file (omega arith) c.in_default.ensures.part

pub returns-in_err-bytes-clause-part : goal.returns-in_err-bytes-clause-part
returns-in_err-bytes-clause-part g c =
    let header = Consumes-full c.in-Ok.count _ _ c.read_full.new.buf c.in-Ok.ensures.bytes (omega arith) in
    let part : ReadsPart c.args.offset (g.R.Source.remaining c.args.reader.now) (g.R.Source.remaining c.read_body.new.reader) c.in_err-bytes.field-0.0 =
    part_of_body c.args.offset c.parse-header.result.length _ _ _ c.read_full.new.buf c.in_err-bytes.field-0.0 header (omega arith) c.parse-header.ensures.length (sym c.is_within_limits.ensures ∙ c.if-not-is_within_limits.false) c.in_err-bytes.ensures.part in
    let p = err_from_is_err_and c.from_residual.result c.from_residual.ensures.1 in
    rw (p.1, p.2) part

pub returns-in_err-bytes-clause-reads : goal.returns-in_err-bytes-clause-reads
returns-in_err-bytes-clause-reads g c =
    let header = Consumes-full c.in-Ok.count _ _ c.read_full.new.buf c.in-Ok.ensures.bytes (omega arith) in
    let small = limits-body c.args.offset c.parse-header.result.length (sym c.is_within_limits.ensures ∙ c.if-not-is_within_limits.false) in
    reads-more 12 c.parse-header.result.length _ _ _ _ _ header (omega arith) c.in_err-bytes.ensures.err (omega (arith, small))

pub returns-then-len-header-clause-first : goal.returns-then-len-header-clause-first
returns-then-len-header-clause-first g c =
    let header = Consumes-full c.in-Ok.count _ _ c.read_full.new.buf c.in-Ok.ensures.bytes (omega arith) in
    let few : vec_len c.in_ok-bytes.bytes < c.parse-header.result.length = omega arith in
    let long = c.in_ok-bytes.bytes.ok.0 in
    first-short_body_by c.args.offset c.parse-header.result.length _ _ _ c.read_full.new.buf c.in_ok-bytes.bytes.items header (omega arith) c.parse-header.ensures.length
    (sym c.is_within_limits.ensures ∙ c.if-not-is_within_limits.false) c.in_ok-bytes.ensures.bytes (c.in_ok-bytes.ensures.end few) (omega (arith, few, long))

pub returns-then-len-header-clause-reads : goal.returns-then-len-header-clause-reads
returns-then-len-header-clause-reads g c =
    let header = Consumes-full c.in-Ok.count _ _ c.read_full.new.buf c.in-Ok.ensures.bytes (omega arith) in
    let small = limits-body c.args.offset c.parse-header.result.length (sym c.is_within_limits.ensures ∙ c.if-not-is_within_limits.false) in
    let long = c.in_ok-bytes.bytes.ok.0 in
    let bound = c.in_ok-bytes.ensures.bound in
    reads-more 12 c.parse-header.result.length _ _ _ _ _ header (omega arith) (reads-some _ _ _ _ c.in_ok-bytes.ensures.bytes (omega (arith, long, bound))) (omega (arith, small))

pub returns-clause-first : goal.returns-clause-first
returns-clause-first g c =
    let header = Consumes-full c.in-Ok.count _ _ c.read_full.new.buf c.in-Ok.ensures.bytes (omega arith) in
    let long = c.in_ok-bytes.bytes.ok.0 in
    let bound = c.in_ok-bytes.ensures.bound in
    rw c.from_vec.ensures
    (first-record_by c.args.offset c.parse-header.result.seconds c.parse-header.result.kind c.parse-header.result.subtype c.parse-header.result.length _ _ _ c.read_full.new.buf c.in_ok-bytes.bytes.items
    header (omega arith) c.parse-header.ensures.seconds c.parse-header.ensures.kind c.parse-header.ensures.subtype c.parse-header.ensures.length
    (sym c.is_within_limits.ensures ∙ c.if-not-is_within_limits.false) c.in_ok-bytes.ensures.bytes (omega (arith, long, bound)))

pub returns-clause-reads : goal.returns-clause-reads
returns-clause-reads g c =
    let header = Consumes-full c.in-Ok.count _ _ c.read_full.new.buf c.in-Ok.ensures.bytes (omega arith) in
    let small = limits-body c.args.offset c.parse-header.result.length (sym c.is_within_limits.ensures ∙ c.if-not-is_within_limits.false) in
    let long = c.in_ok-bytes.bytes.ok.0 in
    let bound = c.in_ok-bytes.ensures.bound in
    reads-more 12 c.parse-header.result.length _ _ _ _ _ header (omega arith) (reads-some _ _ _ _ c.in_ok-bytes.ensures.bytes (omega (arith, long, bound))) (omega (arith, small))

-- ---- the same, by what the reads returned

pub returns-in_default-clause-stopped : goal.returns-in_default-clause-stopped
returns-in_default-clause-stopped g c =
    read-part_of_header g.R.Source.reads g.met.R.Source.reads_more c.args.offset _ _ _ c.args.file (omega arith) c.in_default.ensures.stopped

pub returns-then-count-eq0-clause-read : goal.returns-then-count-eq0-clause-read
returns-then-count-eq0-clause-read g c =
    read-end g.R.Source.reads g.met.R.Source.reads_more c.args.offset _ _
    (reads-nothing g.R.Source.reads c.in-Ok.count _ _ c.read_full.new.buf (c.in-Ok.ensures.short (omega arith)) c.if-count-eq0.true)

pub returns-then-count-lt12-clause-read : goal.returns-then-count-lt12-clause-read
returns-then-count-lt12-clause-read g c =
    let size = length-take-le c.in-Ok.count c.read_full.new.buf c.in-Ok.ensures.bound in
    read-short_header g.R.Source.reads g.met.R.Source.reads_more c.args.offset _ _ _ (c.in-Ok.ensures.short (omega arith)) (omega (arith, size)) (omega (arith, size))

pub returns-then-not-is_within_limits-clause-read :
    goal.returns-then-not-is_within_limits-clause-read
returns-then-not-is_within_limits-clause-read g c =
    read-too_long g.R.Source.reads g.met.R.Source.reads_more c.args.offset c.parse-header.result.length _ _ c.read_full.new.buf (c.in-Ok.ensures.full (omega arith)) (omega arith) c.parse-header.ensures.length
    (sym c.is_within_limits.ensures ∙ c.if-not-is_within_limits.true)

pub returns-in_err-bytes-clause-stopped : goal.returns-in_err-bytes-clause-stopped
returns-in_err-bytes-clause-stopped g c =
    let part : ReadsPartOf g.R.Source.reads c.args.offset c.args.reader.now c.read_body.new.reader c.in_err-bytes.field-0.0 =
    read-part_of_body g.R.Source.reads g.met.R.Source.reads_more c.args.offset c.parse-header.result.length _ _ _ c.read_full.new.buf c.in_err-bytes.field-0.0 (c.in-Ok.ensures.full (omega arith)) (omega arith)
    c.parse-header.ensures.length (sym c.is_within_limits.ensures ∙ c.if-not-is_within_limits.false) c.in_err-bytes.ensures.stopped in
    let p = err_from_is_err_and c.from_residual.result c.from_residual.ensures.1 in
    rw (p.1, p.2) part

pub returns-then-len-header-clause-read : goal.returns-then-len-header-clause-read
returns-then-len-header-clause-read g c =
    let few : vec_len c.in_ok-bytes.bytes < c.parse-header.result.length = omega arith in
    let long = c.in_ok-bytes.bytes.ok.0 in
    read-short_body g.R.Source.reads g.met.R.Source.reads_more c.args.offset c.parse-header.result.length _ _ _ c.read_full.new.buf c.in_ok-bytes.bytes.items (c.in-Ok.ensures.full (omega arith)) (omega arith)
    c.parse-header.ensures.length (sym c.is_within_limits.ensures ∙ c.if-not-is_within_limits.false) (c.in_ok-bytes.ensures.short few) (omega (arith, few, long))

pub returns-clause-read : goal.returns-clause-read
returns-clause-read g c =
    let long = c.in_ok-bytes.bytes.ok.0 in
    let bound = c.in_ok-bytes.ensures.bound in
    rw c.from_vec.ensures
    (read-record g.R.Source.reads g.met.R.Source.reads_more c.args.offset c.parse-header.result.seconds c.parse-header.result.kind c.parse-header.result.subtype c.parse-header.result.length _ _ _ c.read_full.new.buf c.in_ok-bytes.bytes.items
    (c.in-Ok.ensures.full (omega arith)) (omega arith) c.parse-header.ensures.seconds c.parse-header.ensures.kind c.parse-header.ensures.subtype c.parse-header.ensures.length
    (sym c.is_within_limits.ensures ∙ c.if-not-is_within_limits.false) (c.in_ok-bytes.ensures.full (omega arith)) (omega (arith, long, bound)))
