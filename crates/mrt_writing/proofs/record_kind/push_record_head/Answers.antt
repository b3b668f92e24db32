use Rattle.std.proofs.Common.{◌++◌, ℕ, List, ap, ◌∙◌}
use Rattle.byteorder.specs.Endian.{big_bytes}
use Rattle.mrt_writing.specs.Kinds.{mrt_type, mrt_subtype}
use Rattle.mrt_writing.proofs.Joinings.{joined4}
use Rattle.mrt_writing.proofs.record_kind.push_record_head.Goals as goal

pub returns : goal.returns
returns g c =
    let old : List ℕ = c.args.out.now.items in
    let first : List ℕ = c.extend_from_slice.new.self.items in
    let second : List ℕ = c.extend_from_slice-2.new.self.items in
    let third : List ℕ = c.extend_from_slice-3.new.self.items in
    joined4 old (big_bytes 4 c.args.seconds) (big_bytes 2 (mrt_type c.args.kind)) (big_bytes 2 (mrt_subtype g.F.Unicast.family c.args.kind)) (big_bytes 4 c.args.len) first second third c.extend_from_slice-4.new.self.items
    (c.in_ok-extend_from_slice.ensures.items ∙ ap (λ (l : List ℕ). old ++ l) c.to_be_bytes.ensures)
    (c.in_ok-extend_from_slice-2.ensures.items ∙ ap (λ (l : List ℕ). first ++ l) (c.to_be_bytes-2.ensures ∙ ap (big_bytes 2) c.mrt_type.ensures))
    (c.in_ok-extend_from_slice-3.ensures.items ∙ ap (λ (l : List ℕ). second ++ l) (c.to_be_bytes-3.ensures ∙ ap (big_bytes 2) c.mrt_subtype.ensures))
    (c.in_ok-extend_from_slice-4.ensures.items ∙ ap (λ (l : List ℕ). third ++ l) c.to_be_bytes-4.ensures)
