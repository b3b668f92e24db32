use Rattle.std.proofs.Common.{◌+◌, drop, take, sym, subst}
use Rattle.std.specs.Io.KnownBytes.{Consumes, prepend_known}
use Rattle.packed_io.specs.Ahead.{not_given, unless_ended}
use Rattle.packed_io.specs.Pieces.{pieces_remaining}
use Rattle.packed_io.proofs.HeadLaws.{gave, split_front}
use Rattle.packed_io.proofs.packed_reader.PackedReader.give.Goals as goal

pub returns-clause-bytes : goal.returns-clause-bytes
returns-clause-bytes g c =
    let r = c.args.self.now in
    let count = c.copy_front-count.result in
    let given = take count c.copy_front-count.new.buf in
    let now = drop (r.given + count) r.bytes.items in
    let known = pieces_remaining g.D.Read.remaining r.pieces in
    let split = split_front r.bytes.items c.rest.result.now given r.given count c.rest.ensures c.copy_front-count.ensures.bytes in
    subst (λ ending. Consumes (unless_ended ending (prepend_known (not_given r) known)) (unless_ended ending (prepend_known now known)) given) (sym c.requires.goes) (gave known (not_given r) given now split)
