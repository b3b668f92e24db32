use Rattle.std.proofs.Common.{◌≡◌, ◌==◌, ◌++◌, ◌∙◌, take, drop, sym, ap, subst, arith, take-append-drop}
use Rattle.std.proofs.lemmas.Grind.{common_steps}
use Rattle.std.specs.Io.Buffered.{reader_buffer, reader_capacity, reader_remaining}
use Rattle.std.specs.Io.KnownBytes.{Consumes}
use Rattle.run_io.specs.Readers.{slot_remaining, stage_remaining}
use Rattle.run_io.proofs.ReaderLaws.{gives_held}
use Rattle.run_io.proofs.blocks.Blocks.take_held.Goals as goal

pub returns-clause-bytes : goal.returns-clause-bytes
returns-clause-bytes g c =
    let known = slot_remaining g.D.Read.remaining in
    let reader = c.in-Reading.reader in
    let count = c.min-count.result in
    let given = take count (c.copy_from_slice.new.self ++ drop count c.args.buf.now) in
    let taken : given ≡ take count (reader_buffer reader) = grind (arith, common_steps, c.copy_from_slice.ensures.after, c.copy_from_slice.ensures.len, c.buffer-held.ensures, c.min-count.ensures) in
    let split : reader_buffer reader ≡ given ++ reader_buffer c.consume.new.self = sym (take-append-drop count (reader_buffer reader)) ∙ ap (λ l. l ++ drop count (reader_buffer reader)) (sym taken) ∙ ap (λ l. given ++ l) (sym c.consume.ensures.buffer) in
    let gives = gives_held (reader_capacity reader == 0) (known reader.inner) _ _ _ split in
    let here : Consumes (reader_remaining known reader) (reader_remaining known c.consume.new.self) given = rw (c.consume.ensures.capacity, c.consume.ensures.inner) gives in
    subst (λ stage. Consumes (stage_remaining g.D.Read.remaining stage) (reader_remaining known c.consume.new.self) given) (sym c.in-Reading.is) here
