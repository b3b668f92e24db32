-- Lists of routes in parts.
use Rattle.std.specs.Prelude.{◌≡◌, ℕ, ◌+◌, ◌-◌, ◌*◌, ◌^◌, ◌<◌, ◌||◌, ◌&&◌, not, true, T, List, ◌++◌, ◌⊎◌}
use Rattle.std.specs.List.{All, Any}
use Rattle.bgp_prefix.specs.Prefixes.{IpPrefix, IsIpPrefix, leading_bits, covers, Starts}
use Rattle.bgp_prefix.specs.Keys.{is_nil, RouteKey}

-- a list of routes around a prefix: those of the prefix itself, and those of the longer ones by their next bit
pub record IsSplit {V : Type 0} (old : List (RouteKey × V)) (at : IpPrefix)
    (here low high : List (RouteKey × V)) : Type 0 where
  pub known : IsIpPrefix at
  pub short : at.len < 128
  pub all : here ++ (low ++ high) ≡ old
  pub own : All (λ e. e.0.prefix ≡ at) here
  pub lower : All (λ e. Starts (at.len + 1) (2 * leading_bits at.len at.addr) e.0.prefix) low
  pub higher : All (λ e. Starts (at.len + 1) (2 * leading_bits at.len at.addr + 1) e.0.prefix) high
  pub held : T (not (is_nil here) || (not (is_nil low) && not (is_nil high)))
  pub under : (len bits : ℕ) → All (λ e. Starts len bits e.0.prefix) old → Starts len bits at

-- all of one prefix
abbrev pub IsOfOnePrefix : {V : Type 0} → List (RouteKey × V) → Type 0
IsOfOnePrefix old = (p : IpPrefix) × All (λ e. e.0.prefix ≡ p) old

-- the longest prefix that covers those of all entries: that of one of them, or one whose next bit parts them
pub record IsCover {V : Type 0} (old : List (RouteKey × V)) (at : IpPrefix) : Type 0 where
  pub known : IsIpPrefix at
  pub short : at.len < 128
  pub covered : All (λ e. covers at e.0.prefix ≡ true) old
  pub under : (len bits : ℕ) → All (λ e. Starts len bits e.0.prefix) old → Starts len bits at
  pub parted : Any (λ e. e.0.prefix ≡ at) old ⊎
      (Any (λ e. Starts (at.len + 1) (2 * leading_bits at.len at.addr) e.0.prefix) old ×
      Any (λ e. Starts (at.len + 1) (2 * leading_bits at.len at.addr + 1) e.0.prefix) old)

-- the first address whose bit after those of the prefix is 1
abbrev pub upper_half : IpPrefix → ℕ
upper_half at = at.addr + 2 ^ (127 - at.len)
