-- Where a prefix belongs in a fork, and where a search for it goes on.
use Rattle.std.specs.Prelude.{◌≡◌, ◌+◌, ◌*◌, ◌<◌}
use Rattle.bgp_prefix.specs.Prefixes.{IpPrefix, leading_bits, Starts}
use Rattle.prefix_maps.specs.declared.radix.direction.Direction.{Direction}
use Rattle.prefix_maps.specs.declared.radix.direction.Direction.TheVariants.{Here, Low, High, Outside}

-- where p belongs in a fork at a prefix: at the prefix itself, in the branch of its next bit, or outside the fork
abbrev pub IsDirection : IpPrefix → IpPrefix → Direction → Type 0
IsDirection at p Here = p ≡ at
IsDirection at p Low = Starts (at.len + 1) (2 * leading_bits at.len at.addr) p
IsDirection at p High = Starts (at.len + 1) (2 * leading_bits at.len at.addr + 1) p
IsDirection at p Outside = Starts at.len (leading_bits at.len at.addr) p → ⊥

-- where a search for p goes on: in the branch of p's next bit, whatever bits come before it
abbrev pub IsSearchDirection : IpPrefix → IpPrefix → Direction → Type 0
IsSearchDirection at p Here = p ≡ at
IsSearchDirection at p Low = (at.len < p.len) × (leading_bits (at.len + 1) p.addr ≡ 2 * leading_bits at.len p.addr)
IsSearchDirection at p High = (at.len < p.len) × (leading_bits (at.len + 1) p.addr ≡ 2 * leading_bits at.len p.addr + 1)
IsSearchDirection at p Outside = Starts at.len (leading_bits at.len at.addr) p → ⊥
