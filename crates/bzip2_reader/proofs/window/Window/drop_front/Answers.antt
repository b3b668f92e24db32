use Rattle.std.proofs.Common.{◌-◌, take, arith, ap, ◌∙◌}
use Rattle.bzip2_reader.proofs.WindowLaws.{moved_front}
use Rattle.bzip2_reader.proofs.window.Window.drop_front.Goals as goal

pub returns-clause-left : goal.returns-clause-left
returns-clause-left c =
    let s = c.args.self.now in
    ap (take (s.filled - c.args.used)) c.copy_within.ensures.items ∙ moved_front s.block.items c.args.used s.filled c.requires (omega (arith, s.within, s.block.ok.0))
