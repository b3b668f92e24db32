-- Finite maps from keys, and the longest match in them (RFC 4271, 9.1.4; RFC 1812, 5.2.4.3).
use Rattle.std.specs.Prelude.{◌≢◌, ℕ, ◌<◌, IsTrue, List, map}
use Rattle.std.specs.List.{filter}
use Rattle.std.specs.FinMap as finite
use Rattle.bgp_prefix.specs.Prefixes.{IpPrefix, contains, prefix_eq}
use Rattle.bgp_prefix.specs.Keys.{key_cmp, RouteKey}

-- p is the prefix of a held key and contains the address, and every other held key's prefix that contains it is shorter
pub record IsLongestMatch {V : Type 0} (held : finite.FinMap key_cmp V) (addr : ℕ) (p : IpPrefix) : Type 0 where
  pub held_by : (id : ℕ) × IsTrue (finite.contains_key held (record { prefix = p; id = id }))
  pub matches : IsTrue (contains p addr)
  pub longest : (k : RouteKey) → IsTrue (finite.contains_key held k) → IsTrue (contains k.prefix addr) → k.prefix ≢ p →
      k.prefix.len < p.len

-- no held key's prefix contains the address
abbrev pub HasNoMatch : {V : Type 0} → finite.FinMap key_cmp V → ℕ → Type 0
HasNoMatch {V} held addr = (k : RouteKey) → IsTrue (finite.contains_key held k) → IsTrue (contains k.prefix addr) → ⊥

-- the identifiers and values of the keys with a prefix, in the order of the entries
abbrev pub paths_of : {V : Type 0} → IpPrefix → List (RouteKey × V) → List (ℕ × V)
paths_of p entries = map (λ e. (e.0.id, e.1)) (filter (λ e. prefix_eq p e.0.prefix) entries)
