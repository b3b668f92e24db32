use Rattle.std.proofs.Common.{◌≡◌, ◌<◌, Bool, true, length, ap, ◌∙◌, sym, arith, None, cond}
use Rattle.bgp_update.specs.Paths.{PathSegment, last_of, is_sequence}
use Rattle.bgp_update.proofs.PackedPaths.{last_read, length_numbers_in}
use Rattle.bgp_update.proofs.packed_path.PackedSegment.origin.Goals as goal

pub returns-else-self-eq0 : goal.returns-else-self-eq0
returns-else-self-eq0 c =
    let len : c.self.inside.count ≡ length c.args.self.now.numbers = sym (length_numbers_in 4 c.self.inside.count c.self.inside.octets.now) ∙ ap (λ (t : PathSegment). length t.numbers) c.self.view_is in
    let pos : 0 < c.self.inside.count = omega arith in
    let last = last_read c.args.self.now.numbers c.self.inside.count c.number.result len pos c.number.ensures in
    let kind : is_sequence c.args.self.now.kind ≡ true = ap (λ (t : PathSegment). is_sequence t.kind) (sym c.self.view_is) ∙ ap is_sequence c.in-AsSequence.is in
    last ∙ ap (λ (b : Bool). cond b (last_of c.args.self.now.numbers) None) (sym kind)
