use Rattle.std.proofs.Common.{arith, take}
use Rattle.std.proofs.lemmas.Grind.{common_steps}
use Rattle.packed_io.specs.Devices.{head_bytes, place_remaining}
use Rattle.packed_io.proofs.HeadLaws.{gave, split_front}
use Rattle.packed_io.proofs.head.HeadFirstRead.read.Goals as goal

pub returns-clause-bytes : goal.returns-clause-bytes
returns-clause-bytes g c =
    let count = c.copy_front-count.result in
    let split = split_front (head_bytes c.args.self.now.head) c.from-rest.result.now (take count c.copy_front-count.new.buf) c.args.self.now.given count c.from-rest.ensures c.copy_front-count.ensures.bytes in
    (gave (place_remaining g.D.Read.remaining c.args.self.now.place) _ _ _ split, λ none room. absurd (grind (arith, common_steps, c.copy_front-count.ensures.count)))
