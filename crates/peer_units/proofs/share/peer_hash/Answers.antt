use Rattle.std.proofs.Common.{ℕ, ◌+◌, ◌*◌, ap, ◌∙◌}
use Rattle.std.specs.Prelude.{◌/◌, ◌%◌}
use Rattle.std.proofs.Math.Nat.{add-mod-mod}
use Rattle.std.proofs.lemmas.Nat.{mul-mod_first}
use Rattle.peer_units.specs.Choices.{addr_number, peer_hash}
use Rattle.peer_units.proofs.share.peer_hash.Goals as goal

-- the sum matters modulo 2^32 alone
pub returns : goal.returns
unfolding peer_hash
returns c =
    let m : ℕ = 4294967296 in
    let factor : ℕ = 2654435761 in
    let q = c.args.peer.now in
    let n = addr_number q.addr in
    let sum = ap (λ (low : ℕ). (q.asn + low) % m) c.low_bits.ensures ∙ add-mod-mod q.asn n m in
    ap (λ (s : ℕ). s * factor % m / 65536) sum ∙ ap (λ (s : ℕ). s / 65536) (mul-mod_first (q.asn + n) factor m)
