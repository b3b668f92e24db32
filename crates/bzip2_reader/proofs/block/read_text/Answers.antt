use Rattle.std.proofs.Common.{◌≡◌, ◌<◌, ◌*◌, Ok, length, length-take-le, take, drop, drop_of_length-le, sym, ◌∙◌, ap, arith}
use Rattle.std.proofs.lemmas.Result.{err_from_is_err_and}
use Rattle.bzip2_reader.specs.Blocks.{block_head_at}
use Rattle.bzip2_reader.specs.Cursors.{bits_left}
use Rattle.bzip2_reader.specs.Fields.{bits_of}
use Rattle.bzip2_reader.specs.Heads.{head_of}
use Rattle.bzip2_reader.specs.Transform.{row_after, text_from}
use Rattle.bzip2_reader.proofs.BlockLaws.{block_none, block_read, column_fault, head_fault, row_fault}
use Rattle.bzip2_reader.proofs.RowLaws.{walked_text}
use Rattle.bzip2_reader.proofs.WordLaws.{bits_length}
use Rattle.bzip2_reader.proofs.block.read_text.Goals as goal

pub returns-in_default-clause-fault : goal.returns-in_default-clause-fault
returns-in_default-clause-fault c =
    let past : 8 * length c.args.bytes.now < c.args.at = c.in_default.ensures.none c.requires.short in
    block_none (drop c.args.at (bits_of c.args.bytes.now)) (drop_of_length-le (bits_of c.args.bytes.now) (omega (arith, bits_length c.args.bytes.now, past)))

pub returns-in_err-head-clause-fault : goal.returns-in_err-head-clause-fault
returns-in_err-head-clause-fault c =
    let p = err_from_is_err_and c.from_residual.result c.from_residual.ensures.1 in
    let bits = drop c.args.at (bits_of c.args.bytes.now) in
    let left : bits_left c.in-Some.cursor ≡ bits = ap (λ n. drop n (bits_of c.in-Some.cursor.bytes.now)) c.in-Some.ensures.some.1 ∙ ap (λ l. drop c.args.at (bits_of l)) c.in-Some.ensures.some.0 in
    rw (p.1, p.2) (head_fault bits c.in_err-head.field-0.0 (ap block_head_at (sym left) ∙ c.in_err-head.ensures.takes))

pub returns-in_err-size-clause-fault : goal.returns-in_err-size-clause-fault
returns-in_err-size-clause-fault c =
    let p = err_from_is_err_and c.from_residual-in_err-size.result c.from_residual-in_err-size.ensures.1 in
    let bits = drop c.args.at (bits_of c.args.bytes.now) in
    let left : bits_left c.in-Some.cursor ≡ bits = ap (λ n. drop n (bits_of c.in-Some.cursor.bytes.now)) c.in-Some.ensures.some.1 ∙ ap (λ l. drop c.args.at (bits_of l)) c.in-Some.ensures.some.0 in
    let head : block_head_at bits ≡ Ok (head_of c.in_ok-head.head, bits_left c.read_head.new.cursor) = ap block_head_at (sym left) ∙ c.in_ok-head.ensures.takes in
    rw (p.1, p.2) (column_fault bits (bits_left c.read_head.new.cursor) (head_of c.in_ok-head.head) c.in_err-size.field-0.0 head c.in_err-size.ensures.takes)

pub returns-then-head-size-clause-fault : goal.returns-then-head-size-clause-fault
returns-then-head-size-clause-fault c =
    let bits = drop c.args.at (bits_of c.args.bytes.now) in
    let left : bits_left c.in-Some.cursor ≡ bits = ap (λ n. drop n (bits_of c.in-Some.cursor.bytes.now)) c.in-Some.ensures.some.1 ∙ ap (λ l. drop c.args.at (bits_of l)) c.in-Some.ensures.some.0 in
    let head : block_head_at bits ≡ Ok (head_of c.in_ok-head.head, bits_left c.read_head.new.cursor) = ap block_head_at (sym left) ∙ c.in_ok-head.ensures.takes in
    row_fault bits (bits_left c.read_head.new.cursor) (take c.in_ok-size.size c.read_symbols.new.column) (bits_left c.read_symbols.new.cursor) (head_of c.in_ok-head.head) head c.in_ok-size.ensures.takes (omega (arith, c.if-head-size.true, length-take-le c.in_ok-size.size c.read_symbols.new.column c.in_ok-size.ensures.within))

pub returns-clause-block : goal.returns-clause-block
returns-clause-block c = λ raw size walk.
    (let bits = drop c.args.at (bits_of c.args.bytes.now) in
    let left : bits_left c.in-Some.cursor ≡ bits = ap (λ n. drop n (bits_of c.in-Some.cursor.bytes.now)) c.in-Some.ensures.some.1 ∙ ap (λ l. drop c.args.at (bits_of l)) c.in-Some.ensures.some.0 in
    let head : block_head_at bits ≡ Ok (head_of c.in_ok-head.head, bits_left c.read_head.new.cursor) = ap block_head_at (sym left) ∙ c.in_ok-head.ensures.takes in
    let column = take c.in_ok-size.size c.read_symbols.new.column in
    let long : length column ≡ c.in_ok-size.size = length-take-le c.in_ok-size.size c.read_symbols.new.column c.in_ok-size.ensures.within in
    let row = c.in_ok-head.head.origin in
    let inside : row < length column = omega (arith, long, c.if-head-size.false) in
    let text = walked_text column c.link.new.links raw row c.in_ok-size.ensures.small c.link.ensures inside walk in
    let bytes : c.read_symbols.new.cursor.bytes.now ≡ c.args.bytes.now = c.in_ok-size.ensures.bytes ∙ c.in_ok-head.ensures.bytes ∙ c.in-Some.ensures.some.0 in
    block_read bits (bits_left c.read_head.new.cursor) column (bits_left c.read_symbols.new.cursor) (head_of c.in_ok-head.head) head c.in_ok-size.ensures.takes inside
    ∙ ap (λ t. Ok (record { checksum = c.in_ok-head.head.checksum; text = t }, bits_left c.read_symbols.new.cursor)) (ap (text_from column (row_after column) row) (long ∙ sym size) ∙ sym text)
    ∙ ap (λ l. Ok (record { checksum = c.in_ok-head.head.checksum; text = raw }, drop c.read_symbols.new.cursor.at (bits_of l))) bytes)
