use Rattle.bzip2_reader.proofs.ChecksumLaws.{look_up}
use Rattle.bzip2_reader.proofs.checksum.after_byte.Goals as goal

pub returns : goal.returns
returns c = look_up c.args.tables.now c.args.register c.ranges.register.fits c.requires.rows
