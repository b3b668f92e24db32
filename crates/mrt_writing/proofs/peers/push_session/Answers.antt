use Rattle.std.proofs.Common.{◌++◌, ◌∷◌, [], ℕ, List, replicate, sym, ap, ◌∙◌}
use Rattle.byteorder.specs.Endian.{big_bytes}
use Rattle.bgp_update.specs.declared.width.Width.TheVariants.{Four}
use Rattle.peer_units.specs.declared.unit.PeerAddr.{PeerAddr}
use Rattle.mrt_body.specs.Bgp4mp.{session_bytes}
use Rattle.mrt_writing.specs.Heads.{written_session}
use Rattle.mrt_writing.proofs.Joinings.{joined4}
use Rattle.mrt_writing.proofs.peers.push_session.Goals as goal

-- what stands between the peer's AS number and its address
abbrev head : ℕ → List ℕ
head family = 0 ∷ 0 ∷ 0 ∷ 0 ∷ 0 ∷ 0 ∷ 0 ∷ family ∷ []

pub returns-in_ok-extend_from_slice-in-V4-3 : goal.returns-in_ok-extend_from_slice-in-V4-3
returns-in_ok-extend_from_slice-in-V4-3 c =
    let old : List ℕ = c.args.out.now.items in
    let asn : ℕ = c.args.peer.now.asn in
    let second : List ℕ = c.extend_from_slice-in-V4.new.self.items in
    joined4 old (big_bytes 4 asn) (head 1) (big_bytes 4 c.in-V4.addr) (replicate 4 0) c.extend_from_slice.new.self.items second c.extend_from_slice-in-V4-2.new.self.items c.extend_from_slice-in-V4-3.new.self.items
    (c.in_ok-extend_from_slice.ensures.items ∙ ap (λ (l : List ℕ). old ++ l) c.to_be_bytes.ensures)
    c.in_ok-extend_from_slice-in-V4.ensures.items
    (c.in_ok-extend_from_slice-in-V4-2.ensures.items ∙ ap (λ (l : List ℕ). second ++ l) c.to_be_bytes-in-V4.ensures)
    c.in_ok-extend_from_slice-in-V4-3.ensures.items
    ∙ ap (λ (addr : PeerAddr). old ++ session_bytes Four (written_session (record { asn = asn; addr = addr }))) (sym c.in-V4.is)

pub returns-in_ok-extend_from_slice-in-V6-3 : goal.returns-in_ok-extend_from_slice-in-V6-3
returns-in_ok-extend_from_slice-in-V6-3 c =
    let old : List ℕ = c.args.out.now.items in
    let asn : ℕ = c.args.peer.now.asn in
    let second : List ℕ = c.extend_from_slice-in-V6.new.self.items in
    joined4 old (big_bytes 4 asn) (head 2) (big_bytes 16 c.in-V6.addr) (replicate 16 0) c.extend_from_slice.new.self.items second c.extend_from_slice-in-V6-2.new.self.items c.extend_from_slice-in-V6-3.new.self.items
    (c.in_ok-extend_from_slice.ensures.items ∙ ap (λ (l : List ℕ). old ++ l) c.to_be_bytes.ensures)
    c.in_ok-extend_from_slice-in-V6.ensures.items
    (c.in_ok-extend_from_slice-in-V6-2.ensures.items ∙ ap (λ (l : List ℕ). second ++ l) c.to_be_bytes-in-V6.ensures)
    c.in_ok-extend_from_slice-in-V6-3.ensures.items
    ∙ ap (λ (addr : PeerAddr). old ++ session_bytes Four (written_session (record { asn = asn; addr = addr }))) (sym c.in-V6.is)
