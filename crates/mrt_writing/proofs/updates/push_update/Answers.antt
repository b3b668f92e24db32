use Rattle.std.proofs.Common.{◌≡◌, ◌+◌, ◌++◌, ◌∷◌, [], ℕ, List, length, ap, ◌∙◌, arith}
use Rattle.byteorder.specs.Endian.{big_bytes}
use Rattle.bgp_update.specs.declared.width.Width.TheVariants.{Four}
use Rattle.peer_units.specs.Events.{marker}
use Rattle.mrt_body.specs.Bgp4mp.{session_bytes}
use Rattle.mrt_writing.specs.Heads.{written_session}
use Rattle.mrt_writing.proofs.Joinings.{joined3, joined4}
use Rattle.mrt_writing.proofs.updates.push_update.Goals as goal

pub returns : goal.returns
returns c =
    let old : List ℕ = c.args.out.now.items in
    let attributes : List ℕ = c.args.attributes.now in
    let session : List ℕ = session_bytes Four (written_session c.args.peer.now) in
    let first : List ℕ = c.extend_from_slice.new.self.items in
    let third : List ℕ = c.extend_from_slice-3.new.self.items in
    let size : 23 + length attributes ≡ 19 + length (big_bytes 2 0 ++ (big_bytes 2 (length attributes) ++ attributes)) = omega arith in
    joined3 old session marker (big_bytes 2 (19 + length (big_bytes 2 0 ++ (big_bytes 2 (length attributes) ++ attributes))) ++ ((2 ∷ 0 ∷ 0 ∷ []) ++ (big_bytes 2 (length attributes) ++ attributes))) c.push_session.new.out.items first c.extend_from_slice-5.new.self.items
    c.in_ok-push_session.ensures
    c.in_ok-extend_from_slice.ensures.items
    (joined4 first (big_bytes 2 (19 + length (big_bytes 2 0 ++ (big_bytes 2 (length attributes) ++ attributes)))) (2 ∷ 0 ∷ 0 ∷ []) (big_bytes 2 (length attributes)) attributes c.extend_from_slice-2.new.self.items third c.extend_from_slice-4.new.self.items c.extend_from_slice-5.new.self.items
    (c.in_ok-extend_from_slice-2.ensures.items ∙ ap (λ (l : List ℕ). first ++ l) (c.to_be_bytes.ensures ∙ ap (big_bytes 2) size))
    c.in_ok-extend_from_slice-3.ensures.items
    (c.in_ok-extend_from_slice-4.ensures.items ∙ ap (λ (l : List ℕ). third ++ l) c.to_be_bytes-2.ensures)
    c.in_ok-extend_from_slice-5.ensures.items)
