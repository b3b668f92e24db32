use Rattle.bzip2_reader.proofs.ChecksumLaws.{four_look_ups}
use Rattle.bzip2_reader.proofs.checksum.Checksums.four.Goals as goal

pub returns : goal.returns
returns c = four_look_ups c.args.self.now.tables c.args.word c.args.more c.args.self.now.rows c.ranges.word.fits c.requires
