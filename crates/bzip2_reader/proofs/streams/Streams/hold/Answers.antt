use Rattle.std.proofs.Common.{◌/◌, arith}
use Rattle.bzip2_reader.specs.StreamViews.{place_of}
use Rattle.bzip2_reader.specs.Left.{left_of}
use Rattle.bzip2_reader.proofs.StepLaws.{kept_comes}
use Rattle.bzip2_reader.proofs.WindowLaws.{refilled}
use Rattle.bzip2_reader.proofs.streams.Streams.hold.Goals as goal

pub returns-in-Ok-clause-comes : goal.returns-in-Ok-clause-comes
returns-in-Ok-clause-comes g c =
    let s = c.args.self.now in
    kept_comes (left_of s.block) (place_of s.stage) s.at _ _ _ (refilled s.at (s.at / 8) _ _ (omega arith) c.in-Ok.ensures.bytes)

pub returns-in-Err-clause-comes : goal.returns-in-Err-clause-comes
returns-in-Err-clause-comes g c =
    let s = c.args.self.now in
    kept_comes (left_of s.block) (place_of s.stage) s.at _ _ _ (refilled s.at (s.at / 8) _ _ (omega arith) c.in-Err.ensures.bytes)
