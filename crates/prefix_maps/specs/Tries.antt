-- What a branch of the trie stands for, and what holds of it.
use Rattle.std.specs.Prelude.{◌≡◌, ℕ, ◌+◌, ◌*◌, ◌<◌, Bool, if◌then◌else◌, true, false, ◌||◌, ◌&&◌, not, T, List, [], ◌∷◌, ◌++◌, Some, None}
use Rattle.std.specs.List.{All}
use Rattle.std.specs.FinMap.{is_sorted}
use Rattle.bgp_prefix.specs.Prefixes.{IpPrefix, IsIpPrefix, leading_bits, Starts}
use Rattle.bgp_prefix.specs.Keys.{key_cmp, is_nil, Changes, RouteKey}
use Rattle.prefix_maps.specs.declared.radix.node.Branch.{Branch}
use Rattle.prefix_maps.specs.declared.radix.node.Branch.TheVariants.{Empty, Leaf, Fork'}
use Rattle.prefix_maps.specs.declared.radix.node.Fork.{Fork}
use Rattle.prefix_maps.specs.Splits.{IsSplit}

-- its routes, in the order of their keys
abbrev pub routes : {F V : Type 0} → Branch F V → List (RouteKey × V)
routes Empty = []
routes (Leaf l) = l
routes (Fork' p prefix low high here) = here ++ (routes low ++ routes high)

-- its prefixes have at least len bits, the first len of which are bits
abbrev pub IsUnder : {F V : Type 0} → ℕ → ℕ → Branch F V → Type 0
IsUnder len bits Empty = Unit {0}
IsUnder len bits (Leaf l) = All (λ e. Starts len bits e.0.prefix) l
IsUnder len bits (Fork' p prefix low high here) = Starts len bits prefix

-- the branch has neither routes nor forks
abbrev pub is_empty : {F V : Type 0} → Branch F V → Bool
is_empty Empty = true
is_empty (Leaf l) = false
is_empty (Fork' p prefix low high here) = false

-- routes in the order of their keys
pub record IsRoutes {V : Type 0} (es : List (RouteKey × V)) : Type 0 where
  pub sorted : T (is_sorted key_cmp es)
  pub known : All (λ e. IsIpPrefix e.0.prefix) es

-- routes of one prefix in the order of their keys
pub record IsRoutesOf {V : Type 0} (p : IpPrefix) (es : List (RouteKey × V)) : Type 0 where
  pub sorted : T (is_sorted key_cmp es)
  pub own : All (λ e. e.0.prefix ≡ p) es

-- each prefix lies in the branch of its next bit, and each leaf has routes, and each fork has some or forks
abbrev pub IsTrie : {F V : Type 0} → Branch F V → Type 0
IsTrie Empty = Unit {0}
IsTrie (Leaf l) = IsRoutes l × T (not (is_nil l))
IsTrie (Fork' p prefix low high here) =
    IsIpPrefix prefix × (prefix.len < 128) × IsRoutesOf prefix here ×
    IsUnder (prefix.len + 1) (2 * leading_bits prefix.len prefix.addr) low ×
    IsUnder (prefix.len + 1) (2 * leading_bits prefix.len prefix.addr + 1) high × IsTrie low × IsTrie high ×
    T (not (is_nil here) || (not (is_empty low) && not (is_empty high)))

-- the branch is a fork, and this is its prefix
abbrev pub IsRoot : {F V : Type 0} → IpPrefix → Branch F V → Type 0
IsRoot at Empty = ⊥
IsRoot at (Leaf l) = ⊥
IsRoot at (Fork' p prefix low high here) = prefix ≡ at

abbrev pub IsLeaf : {F V : Type 0} → Branch F V → Type 0
IsLeaf Empty = ⊥
IsLeaf (Leaf l) = Unit {0}
IsLeaf (Fork' p prefix low high here) = ⊥

-- a branch of these routes, with no fork
abbrev pub branch_of : {F V : Type 0} → List (RouteKey × V) → Branch F V
branch_of [] = Empty
branch_of (e ∷ es) = Leaf (e ∷ es)

-- a fork of these routes, with no fork below
pub record IsForkOf {F V : Type 0} (es : List (RouteKey × V)) (f : Fork F V) : Type 0 where
  pub low : List (RouteKey × V)
  pub high : List (RouteKey × V)
  pub split : IsSplit es f.prefix f.here low high
  pub low_is : f.low ≡ branch_of low
  pub high_is : f.high ≡ branch_of high

-- new is old with the value at the key, and lies where old did if the key does
pub record IsInserted {F V : Type 0} (old new : Branch F V) (key : RouteKey) (value : V) : Type 0 where
  pub trie : IsTrie new
  pub changes : Changes (routes old) (routes new) key (Some value)
  pub under : (len bits : ℕ) → IsUnder len bits old → Starts len bits key.prefix → IsUnder len bits new
  pub held : is_empty new ≡ false

-- a trie, but that its root may be redundant
abbrev pub IsUnpruned : {F V : Type 0} → Branch F V → Type 0
IsUnpruned Empty = Unit {0}
IsUnpruned (Leaf l) = IsRoutes l
IsUnpruned (Fork' p prefix low high here) =
    IsIpPrefix prefix × (prefix.len < 128) × IsRoutesOf prefix here ×
    IsUnder (prefix.len + 1) (2 * leading_bits prefix.len prefix.addr) low ×
    IsUnder (prefix.len + 1) (2 * leading_bits prefix.len prefix.addr + 1) high × IsTrie low × IsTrie high

-- new is old without the key, and lies where old did
pub record IsRemoved {F V : Type 0} (old new : Branch F V) (key : RouteKey) : Type 0 where
  pub trie : IsTrie new
  pub changes : Changes (routes old) (routes new) key None
  pub under : (len bits : ℕ) → IsUnder len bits old → IsUnder len bits new

-- the root is redundant: it neither holds routes nor forks
abbrev pub is_redundant : {F V : Type 0} → Branch F V → Bool
is_redundant Empty = false
is_redundant (Leaf l) = is_nil l
is_redundant (Fork' p prefix low high here) = is_nil here && (is_empty low || is_empty high)

-- what replaces a redundant root: the child of a fork, if there is one
abbrev pub only_child : {F V : Type 0} → Branch F V → Branch F V
only_child Empty = Empty
only_child (Leaf l) = Empty
only_child (Fork' p prefix low high here) = if is_empty low then high else low
