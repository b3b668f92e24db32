use Rattle.std.proofs.Common.{arith}
use Rattle.gzip_reader.specs.Crc.{IsTable}
use Rattle.gzip_reader.proofs.CrcLaws.{eight_look_ups}
use Rattle.gzip_reader.proofs.checksum.CrcTables.eight.Goals as goal

pub returns : goal.returns
returns c more start =
    let table : IsTable 4096 c.as_slice-table.result.now = rw c.as_slice-table.ensures.value c.args.self.now.rows in
    eight_look_ups c.as_slice-table.result.now c.args.from more c.args.word table start c.requires (omega arith)
