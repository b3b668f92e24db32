use Rattle.std.proofs.Common.{◌≡◌, ◌+◌, ◌*◌, ◌∙◌, ap, arith, Ok}
use Rattle.std.proofs.lemmas.Result.{err_from_is_err_and}
use Rattle.bzip2_reader.specs.Cursors.{bits_left}
use Rattle.bzip2_reader.proofs.FieldLaws.{number_fault, number_two, number_two_fault}
use Rattle.bzip2_reader.proofs.block.read_magic.Goals as goal

pub returns-in_err-high-clause-takes : goal.returns-in_err-high-clause-takes
returns-in_err-high-clause-takes c =
    let p = err_from_is_err_and c.from_residual.result c.from_residual.ensures.1 in
    rw (p.1, p.2) (number_fault 0 24 24 (bits_left c.args.cursor.now) c.in_err-high.field-0.0 c.in_err-high.ensures.takes)

pub returns-in_err-low-clause-takes : goal.returns-in_err-low-clause-takes
returns-in_err-low-clause-takes c =
    let p = err_from_is_err_and c.from_residual-in_err-low.result c.from_residual-in_err-low.ensures.1 in
    rw (p.1, p.2) (number_two_fault c.in_ok-high.high 24 24 (bits_left c.args.cursor.now) (bits_left c.take.new.self) c.in_err-low.field-0.0 c.in_ok-high.ensures.takes c.in_err-low.ensures.takes)

pub returns-clause-takes : goal.returns-clause-takes
returns-clause-takes c =
    let value : c.in_ok-high.high * 16777216 + c.in_ok-low.low ≡ c.from.result * 16777216 + c.from-2.result = omega (arith, c.from.ensures, c.from-2.ensures) in
    number_two c.in_ok-high.high c.in_ok-low.low 24 24 (bits_left c.args.cursor.now) (bits_left c.take.new.self) (bits_left c.take-2.new.self) c.in_ok-high.ensures.takes c.in_ok-low.ensures.takes
    ∙ ap (λ v. Ok (v, bits_left c.take-2.new.self)) value
