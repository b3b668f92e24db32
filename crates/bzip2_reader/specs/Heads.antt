-- The head of a block.
use Rattle.bzip2_reader.specs.Blocks.{Head}
use Rattle.bzip2_reader.specs.declared.block.Head.{Head as ReadHead}

abbrev pub head_of : ReadHead → Head
head_of head = record { checksum = head.checksum; row = head.origin }
