use Rattle.std.proofs.Common.{◌≡◌, ◌++◌, ◌∷◌, [], ℕ, List, take, ap, ◌∙◌}
use Rattle.std.specs.Int.{div_ceil}
use Rattle.byteorder.specs.Endian.{big_bytes}
use Rattle.mrt_writing.specs.Prefixes.{prefix_octets}
use Rattle.mrt_writing.proofs.Joinings.{joined2}
use Rattle.mrt_writing.proofs.keys.push_prefix.Goals as goal

pub returns : goal.returns
unfolding prefix_octets
returns g c =
    let old : List ℕ = c.args.out.now.items in
    let len : ℕ = c.args.prefix.now.len in
    let count : c.div_ceil.result ≡ div_ceil len 8 = c.div_ceil.ensures ∙ ap (λ (n : ℕ). div_ceil n 8) c.len-2.ensures.len in
    let octets : c.to_be_bytes-octets.result ≡ big_bytes 16 c.args.prefix.now.addr = c.to_be_bytes-octets.ensures ∙ ap (big_bytes 16) (c.wide.ensures ∙ c.addr.ensures.addr) in
    joined2 old (len ∷ []) (take (div_ceil len 8) (big_bytes 16 c.args.prefix.now.addr)) c.push.new.self.items c.extend_from_slice.new.self.items
    (c.in_ok-push.ensures.items ∙ ap (λ (n : ℕ). old ++ (n ∷ [])) c.len.ensures.len)
    (c.in_ok-extend_from_slice.ensures.items ∙ (λ i. c.push.new.self.items ++ take (count i) (octets i)))
