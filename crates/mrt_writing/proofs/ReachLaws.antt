-- MP_REACH_NLRI of one key is as short as a value of an attribute.
use Rattle.std.proofs.Common.{ℕ, ◌≤◌, ◌∷◌, Bool, true, false, List, [], ◌++◌, length, arith, length-append}
use Rattle.std.specs.Int.{div_ceil}
use Rattle.std.proofs.lemmas.List.{length-take}
use Rattle.byteorder.specs.Endian.{big_bytes}
use Rattle.byteorder.specs.Numbers.{length-bytes_high_first}
use Rattle.bgp_prefix.specs.Prefixes.{IpPrefix}
use Rattle.bgp_prefix.specs.Keys.{RouteKey}
use Rattle.bgp_update.specs.declared.next_hop.NextHop.{NextHop}
use Rattle.bgp_update.specs.declared.next_hop.NextHop.TheVariants.{V4, V6, V6Pair}
use Rattle.bgp_update.specs.Families.{FamilyOf}
use Rattle.bgp_update.specs.KeptBytes.{IsShort}
use Rattle.bgp_update.specs.Multiprotocol.{hop_part}
use Rattle.mrt_writing.specs.Prefixes.{prefix_octets, written_identifier}
use Rattle.mrt_writing.specs.Updates.{reach_value}

hop-short : (hop : NextHop) → length (hop_part hop) ≤ 33
hop-short (V4 addr) = omega (arith, length-bytes_high_first 4 addr)
hop-short (V6 addr) = omega (arith, length-bytes_high_first 16 addr)
hop-short (V6Pair addr link) = omega (arith, length-append (big_bytes 16 addr) (big_bytes 16 link), length-bytes_high_first 16 addr, length-bytes_high_first 16 link)

octets-short : (p : IpPrefix) → length (prefix_octets p) ≤ 16
unfolding prefix_octets
octets-short p = omega (arith, length-take (div_ceil p.len 8) (big_bytes 16 p.addr), length-bytes_high_first 16 p.addr)

identifier-short : (add_path : Bool) (id : ℕ) → length (written_identifier add_path id) ≤ 4
identifier-short true id = omega (arith, length-bytes_high_first 4 id)
identifier-short false id = omega arith

pub reach_short : (family : FamilyOf) (add_path : Bool) (key : RouteKey) (hop : NextHop) → IsShort (reach_value family add_path key hop)
reach_short family add_path key hop =
    let id = written_identifier add_path key.id in
    let octets = prefix_octets key.prefix in
    let keys : List ℕ = (id ++ (key.prefix.len ∷ octets)) ++ [] in
    omega (arith, hop-short hop, identifier-short add_path key.id, octets-short key.prefix, length-append id (key.prefix.len ∷ octets), length-append (id ++ (key.prefix.len ∷ octets)) [], length-append (hop_part hop) (0 ∷ keys), length-append (big_bytes 2 family.afi) (1 ∷ []))
