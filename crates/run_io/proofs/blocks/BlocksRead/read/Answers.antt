use Rattle.std.proofs.Common.{refl, arith}
use Rattle.run_io.proofs.ReaderLaws.{at_end, nothing_left}
use Rattle.run_io.proofs.blocks.BlocksRead.read.Goals as goal

pub returns-in_default : goal.returns-in_default
returns-in_default g c =
    let left = nothing_left _ _ c.begin.ensures.kept (at_end g.D.Read.remaining c.begin.new.self.stage c.in_ok-begin.ensures.begun c.in_default.not-Reading) in
    record { bound = (omega arith, refl); bytes = (left.0, λ _ _. left.1) }
