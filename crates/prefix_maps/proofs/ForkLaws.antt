-- What is found in a branch that is a fork, and what is left of it.
use Rattle.std.proofs.Common.{◌≡◌, ◌+◌, ◌*◌, ◌<◌, false, List, None, subst}
use Rattle.std.specs.declared.alloc.Global.{Global}
use Rattle.std.proofs.Common.{Box}
use Rattle.std.specs.FinMap.{find}
use Rattle.bgp_prefix.specs.Prefixes.{IpPrefix, leading_bits, Starts}
use Rattle.bgp_prefix.specs.Keys.{key_cmp, RouteKey, is_nil}
use Rattle.prefix_maps.specs.Tries.{routes, IsTrie, IsRemoved, is_empty}
use Rattle.prefix_maps.specs.declared.radix.node.Branch.{Branch}
use Rattle.prefix_maps.specs.declared.radix.node.Branch.TheVariants.{Fork}
use Rattle.prefix_maps.specs.declared.radix.node.Fork.{Fork as ForkOf}
use Rattle.prefix_maps.proofs.TrieLaws.{IsFork, outside_of_fork, find_here, find_in_low_half, find_in_high_half}
use Rattle.prefix_maps.proofs.RemoveLaws.{without, kept_here, kept_low, kept_high}

-- the prefix is longer than the fork's, and its next bit is 0, or 1
abbrev pub IsLow : IpPrefix → IpPrefix → Type 0
IsLow at p = (at.len < p.len) × (leading_bits (at.len + 1) p.addr ≡ 2 * leading_bits at.len p.addr)

abbrev pub IsHigh : IpPrefix → IpPrefix → Type 0
IsHigh at p = (at.len < p.len) × (leading_bits (at.len + 1) p.addr ≡ 2 * leading_bits at.len p.addr + 1)

module _ {F V : Type 0} (b : Branch F V) (fork : Box (ForkOf F V) Global) (is : b ≡ Fork fork) (ok : IsTrie b) (key : RouteKey) where
  abbrev f : ForkOf F V
  f = fork.value

  trie : IsFork fork.value
  trie = subst IsTrie is ok

  pub found_here : key.prefix ≡ f.prefix → find key_cmp key (routes b) ≡ find key_cmp key f.here
  found_here same = rw is (find_here f trie key same)

  pub found_low : IsLow f.prefix key.prefix → find key_cmp key (routes b) ≡ find key_cmp key (routes f.low)
  found_low to = rw is (find_in_low_half f trie key to.0 to.1)

  pub found_high : IsHigh f.prefix key.prefix → find key_cmp key (routes b) ≡ find key_cmp key (routes f.high)
  found_high to = rw is (find_in_high_half f trie key to.0 to.1)

  pub found_outside : (Starts f.prefix.len (leading_bits f.prefix.len f.prefix.addr) key.prefix → ⊥) → find key_cmp key (routes b) ≡ None
  found_outside out = rw is (outside_of_fork f trie key out)

  -- what is left of it is no redundant fork
  pub left_here : (box : Box (ForkOf F V) Global) (here : List (RouteKey × V)) → key.prefix ≡ f.prefix → box.value ≡ record f { here = here } → here ≡ without key f.here → is_nil here ≡ false → IsRemoved b (Fork box) key
  left_here box here same at left some = rw is (kept_here key fork box here trie same at left some)

  pub left_low : (box : Box (ForkOf F V) Global) (low : Branch F V) → IsLow f.prefix key.prefix → box.value ≡ record f { low = low } → IsRemoved f.low low key → is_empty low ≡ false → IsRemoved b (Fork box) key
  left_low box low to at done some = rw is (kept_low key fork box low trie to at done some)

  pub left_high : (box : Box (ForkOf F V) Global) (high : Branch F V) → IsHigh f.prefix key.prefix → box.value ≡ record f { high = high } → IsRemoved f.high high key → is_empty high ≡ false → IsRemoved b (Fork box) key
  left_high box high to at done some = rw is (kept_high key fork box high trie to at done some)
