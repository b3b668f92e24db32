use Rattle.std.proofs.Common.{sym}
use Rattle.bzip2_reader.proofs.WindowLaws.{read_more}
use Rattle.bzip2_reader.proofs.window.Window.read_more.Goals as goal

pub returns-in-Ok-clause-bytes : goal.returns-in-Ok-clause-bytes
returns-in-Ok-clause-bytes g c =
    let s = c.args.self.now in
    read_more s.rest s.block.items c.as_mut_slice.result.now c.read_behind.new.block _ s.filled c.in-Ok.count _ _ c.requires.more c.as_mut_slice.ensures.value c.read_behind.auto.block (sym s.block.ok.0) c.in-Ok.ensures.front c.in-Ok.ensures.bytes.0
