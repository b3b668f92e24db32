use Rattle.std.specs.Int.Bits.{bit_xor}
use Rattle.gzip_reader.proofs.CrcLaws.{step_look_up}
use Rattle.gzip_reader.proofs.checksum.CrcTables.step.Goals as goal

pub returns : goal.returns
returns c = step_look_up c.as_slice-table.result.now c.args.self.now.table.items (bit_xor c.args.register c.args.byte) c.as_slice-table.ensures.value c.args.self.now.rows
