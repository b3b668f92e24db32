use Rattle.std.proofs.Common.{◌≡◌, ℕ, ◌+◌, ◌-◌, ◌*◌, ◌≤◌, List, ◌++◌}
use Rattle.gzip_reader.specs.Bits.{bits_left, held}
use Rattle.gzip_reader.specs.Files.{skip_bytes}
use Rattle.gzip_reader.specs.Places.{ReadsHeader}
use Rattle.gzip_reader.proofs.decoder.Decoder.skip_bytes.Given as goal

abbrev pub invariant-loop-taken : goal.invariant-loop-taken
invariant-loop-taken l = record {
  field : (more : List ℕ) → skip_bytes l.count l.initial.self.header_register (held l.initial.self.input ++ more) ≡ skip_bytes (l.count - l.taken) l.self.header_register (held l.self.input ++ more);
  left : bits_left l.initial.self.input ≤ bits_left l.self.input + 8 * l.taken;
  same : ReadsHeader l.initial.self l.self;
}
