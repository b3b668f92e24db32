-- How prefixes and keys are written (RFC 4271, 4.3; RFC 7911, section 3).
use Rattle.std.specs.Prelude.{ℕ, Bool, true, false, List, [], take}
use Rattle.std.specs.Int.{div_ceil}
use Rattle.byteorder.specs.Endian.{big_bytes}
use Rattle.bgp_prefix.specs.Prefixes.{IpPrefix}
use Rattle.bgp_prefix.specs.Keys.{RouteKey}
use Rattle.bgp_update.specs.Keys.{WrittenKey}

-- as many leading bytes of the address as hold the prefix's bits
unfoldable pub prefix_octets : IpPrefix → List ℕ
prefix_octets p = take (div_ceil p.len 8) (big_bytes 16 p.addr)

-- an identifier has four bytes, in messages with ADD-PATH alone
abbrev pub written_identifier : Bool → ℕ → List ℕ
written_identifier true id = big_bytes 4 id
written_identifier false id = []

abbrev pub written_key : Bool → RouteKey → WrittenKey
written_key add_path key = record {
  identifier = written_identifier add_path key.id;
  len = key.prefix.len;
  octets = prefix_octets key.prefix;
}
