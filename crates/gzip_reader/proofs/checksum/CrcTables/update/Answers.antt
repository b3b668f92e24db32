use Rattle.std.proofs.Common.{◌≡◌, refl, sym, ap, ◌∙◌, [], ◌++◌, take, drop, take-append-drop, arith}
use Rattle.std.proofs.lemmas.Grind.{common_steps}
use Rattle.gzip_reader.specs.Crc.{crc}
use Rattle.gzip_reader.proofs.CrcLaws.{crc_front, crc_one}
use Rattle.gzip_reader.proofs.checksum.CrcTables.update.Goals as goal

pub loop-words-init : goal.loop-words-init
loop-words-init c = refl

pub loop-words-preserved : goal.loop-words-preserved
loop-words-preserved c =
    let split = c.in-Some.ensures.cases in
    crc_front c.loop-words.value _ c.in-Some.words.now c.in-Some.more.now c.loop-words.rest.now
    (ap (λ l. l ++ c.in-Some.more.now) split.1 ∙ ap (λ l. take 16 c.loop-words.rest.now ++ l) split.2 ∙ take-append-drop 16 c.loop-words.rest.now)
    c.sixteen-value.ensures
    ∙ c.loop-words.invariant

pub loop-byte-preserved : goal.loop-byte-preserved
loop-byte-preserved c = crc_one c.loop-byte.value _ c.loop-byte.byte-index c.loop-words.rest.now c.loop-byte-test.true c.step-value.ensures ∙ c.loop-byte.invariant

pub returns : goal.returns
unfolding crc
returns c =
    let none : drop c.loop-byte.byte-index c.loop-words.rest.now ≡ [] = grind (arith, common_steps) in
    ap (crc c.loop-byte.value) (sym none) ∙ c.loop-byte.invariant
