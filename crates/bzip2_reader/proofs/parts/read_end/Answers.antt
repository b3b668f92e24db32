use Rattle.std.proofs.Common.{◌∙◌, ℕ, List, [], Ok, ap, drop, sym}
use Rattle.std.proofs.lemmas.Result.{err_from_is_err_and}
use Rattle.bzip2_reader.specs.Cursors.{bits_left}
use Rattle.bzip2_reader.specs.Fields.{bits_of}
use Rattle.bzip2_reader.specs.Files.{Between, Part}
use Rattle.bzip2_reader.proofs.StepLaws.{end_fault, end_named, end_other}
use Rattle.bzip2_reader.proofs.parts.read_end.Goals as goal

pub returns-in_err-take_field-clause-end : goal.returns-in_err-take_field-clause-end
returns-in_err-take_field-clause-end c =
    let p = err_from_is_err_and c.from_residual.result c.from_residual.ensures.1 in
    rw (p.1, p.2) (end_fault c.args.sum (bits_left c.args.cursor.now) c.in_err-take_field.field-0.0 c.in_err-take_field.ensures.wrong)

pub returns-then-branch-sum-clause-end : goal.returns-then-branch-sum-clause-end
returns-then-branch-sum-clause-end c = end_other c.args.sum c.in_ok-take_field.field-0 (bits_left c.args.cursor.now) _ c.in_ok-take_field.ensures.taken c.if-branch-sum.true

abbrev ended : List ℕ → Part
ended rest = record { given = []; next = Between; rest = rest }

pub returns-clause-end : goal.returns-clause-end
returns-clause-end c =
    let cursor = c.take_field.new.cursor in
    end_named c.args.sum c.in_ok-take_field.field-0 (bits_left c.args.cursor.now) cursor.bytes.now cursor.at c.div_ceil.result cursor.within c.div_ceil.ensures c.in_ok-take_field.ensures.taken c.if-branch-sum.false
    ∙ ap (λ n. Ok (ended (drop n (bits_of cursor.bytes.now)))) (sym c.move_to.ensures.at) ∙ ap (λ l. Ok (ended (drop c.move_to.new.self.at (bits_of l)))) (sym c.move_to.ensures.bytes)
