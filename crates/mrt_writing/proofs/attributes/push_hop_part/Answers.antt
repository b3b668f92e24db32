use Rattle.std.proofs.Common.{◌++◌, ◌∷◌, [], ℕ, List, sym, ap, ◌∙◌}
use Rattle.byteorder.specs.Endian.{big_bytes}
use Rattle.bgp_update.specs.declared.next_hop.NextHop.{NextHop}
use Rattle.bgp_update.specs.Multiprotocol.{hop_part}
use Rattle.mrt_writing.proofs.Joinings.{joined3}
use Rattle.mrt_writing.proofs.attributes.push_hop_part.Goals as goal

pub returns-in_ok-extend_from_slice-in-V6Pair-2 : goal.returns-in_ok-extend_from_slice-in-V6Pair-2
returns-in_ok-extend_from_slice-in-V6Pair-2 c =
    let old : List ℕ = c.args.out.now.items in
    let first : List ℕ = c.push-in-V6Pair.new.self.items in
    let second : List ℕ = c.extend_from_slice-in-V6Pair.new.self.items in
    joined3 old (32 ∷ []) (big_bytes 16 c.in-V6Pair.a) (big_bytes 16 c.in-V6Pair.link) first second c.extend_from_slice-in-V6Pair-2.new.self.items
    c.in_ok-push-in-V6Pair.ensures.items
    (c.in_ok-extend_from_slice-in-V6Pair.ensures.items ∙ ap (λ (l : List ℕ). first ++ l) c.to_be_bytes-in-V6Pair.ensures)
    (c.in_ok-extend_from_slice-in-V6Pair-2.ensures.items ∙ ap (λ (l : List ℕ). second ++ l) c.to_be_bytes-in-V6Pair-2.ensures)
    ∙ ap (λ (hop : NextHop). old ++ hop_part hop) (sym c.in-V6Pair.is)
