use Rattle.std.proofs.Common.{◌≤◌, ◌/◌, ap, arith, drop, length, length-drop, drop_of_length-le, sym, ◌∙◌}
use Rattle.std.proofs.lemmas.Bool.{leb-false, leb-true}
use Rattle.bzip2_reader.specs.Fields.{bits_of}
use Rattle.bzip2_reader.specs.StreamViews.{place_of}
use Rattle.bzip2_reader.specs.Windows.{window_bytes}
use Rattle.bzip2_reader.proofs.StepLaws.{more_there, no_more}
use Rattle.bzip2_reader.proofs.WordLaws.{bits_length}
use Rattle.bzip2_reader.proofs.streams.Streams.is_at_end.Goals as goal

pub returns-clause-yes : goal.returns-clause-yes
returns-clause-yes g c = λ yes.
    (let s = c.args.self.now in
    let bits = bits_of (window_bytes s.window) in
    let past : length c.bytes.result.now ≤ s.at / 8 = leb-true _ _ yes in
    let size = ap length c.bytes.ensures in (
      ap place_of c.in-Between.is,
      no_more s.window.rest (sym c.is_last.ensures ∙ c.if-not-is_last.false) (sym c.has_failed.ensures ∙ c.if-has_failed.false),
      drop_of_length-le bits (omega (arith, bits_length (window_bytes s.window), past, size)),
    ))

pub returns-clause-no : goal.returns-clause-no
returns-clause-no g c = λ no _.
    (let s = c.args.self.now in
    let bits = bits_of (window_bytes s.window) in
    let size = ap length c.bytes.ensures in
    let before = leb-false _ _ no in
    more_there (place_of s.stage) (drop s.at bits) (omega (arith, length-drop s.at bits, bits_length (window_bytes s.window), before, size)))
