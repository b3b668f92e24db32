-- Lookups in a branch of the trie.
use Rattle.std.proofs.Common.{◌≡◌, ℕ, ◌+◌, ◌*◌, ◌/◌, ◌<◌, ◌≤◌, not, ◌||◌, ◌&&◌, List, ◌++◌, Option, Some, None, refl, sym, ap, add-zero, ◌∙◌, T, arith, subst}
use Rattle.std.specs.List.{All}
use Rattle.std.specs.Option.{option_or, is_some}
use Rattle.std.specs.FinMap.{find}
use Rattle.bgp_prefix.specs.Prefixes.{IpPrefix, IsIpPrefix, leading_bits, Starts}
use Rattle.bgp_prefix.specs.Keys.{key_cmp, Changes, is_nil, RouteKey}
use Rattle.prefix_maps.specs.Tries.{routes, IsTrie, IsUnder, IsRoutesOf, is_empty}
use Rattle.prefix_maps.specs.declared.radix.node.Branch.{Branch}
use Rattle.prefix_maps.specs.declared.radix.node.Branch.TheVariants.{Empty, Leaf, Fork'}
use Rattle.prefix_maps.specs.declared.radix.node.Fork.{Fork}
use Rattle.bgp_prefix.proofs.Bits.{share_fewer, half}
use Rattle.bgp_prefix.proofs.KeyLaws.{find-parts, Changes-front, Changes-back, or_none}
use Rattle.bgp_prefix.proofs.SortedMaps.{of_found}

half_of : (t r x : ℕ) → x ≡ 2 * t + r → r < 2 → x / 2 ≡ t
half_of t r x e h = omega (arith, e)

-- what starts as a child of p does starts as p does
pub starts_as_parent : (len bits : ℕ) (p q : IpPrefix) (r : ℕ) → p.len < 128 → Starts len bits p → r < 2 → Starts (p.len + 1) (2 * leading_bits p.len p.addr + r) q → Starts len bits q
starts_as_parent len bits p q r short sp h sq =
    let same : leading_bits p.len q.addr ≡ leading_bits p.len p.addr = sym (half q.addr p.len short) ∙ half_of _ r _ sq.shared h in
    record {
      long = omega (arith, sp.long, sq.long);
      shared = share_fewer len p.len q.addr p.addr sp.long (omega arith) same ∙ sp.shared;
    }

-- a prefix starts as it does itself
pub starts_itself : (p : IpPrefix) → Starts p.len (leading_bits p.len p.addr) p
starts_itself p = record { long = omega arith; shared = refl }

-- a key of which something doesn't hold is in no list of keys of which it holds
pub find_absent : {V : Type 0} (P : RouteKey → Type 0) (es : List (RouteKey × V)) (q : RouteKey) → All (λ e. P e.0) es → (P q → ⊥) → find key_cmp q es ≡ None
find_absent P es q all out = elim (find key_cmp q es) as (λ o. find key_cmp q es ≡ o → o ≡ None) [ None ↦ λ e. refl | Some v ↦ λ e. absurd (out (of_found P es q all (ap is_some e))) ] refl

module _ {V : Type 0} where
  -- a key that does not start as the branch does is not in it
  pub find_outside : {F : Type 0} → (b : Branch F V) → IsTrie b → (len bits : ℕ) → IsUnder len bits b → (q : RouteKey) → (Starts len bits q.prefix → ⊥) → find key_cmp q (routes b) ≡ None
  find_outside Empty ok len bits under q out = refl
  find_outside (Leaf l) ok len bits under q out = find_absent (λ k. Starts len bits k.prefix) l q under out
  find_outside (Fork' p prefix low high here) ok len bits under q out =
      find-parts q here (routes low ++ routes high)
      ∙ ap (λ o. option_or o (find key_cmp q (routes low ++ routes high))) (find_absent (λ k. k.prefix ≡ prefix) here q ok.2.own (λ same. out (rw same under)))
      ∙ find-parts q (routes low) (routes high)
      ∙ ap (λ o. option_or o (find key_cmp q (routes high))) (find_outside low ok.5 (prefix.len + 1) (2 * leading_bits prefix.len prefix.addr) ok.3 q (λ s. out (starts_as_parent len bits prefix q.prefix 0 ok.1 under (omega arith) (record { long = s.long; shared = s.shared ∙ sym (add-zero _) }))))
      ∙ find_outside high ok.6 (prefix.len + 1) (2 * leading_bits prefix.len prefix.addr + 1) ok.4 q (λ s. out (starts_as_parent len bits prefix q.prefix 1 ok.1 under (omega arith) s))

  -- what holds of a fork
  abbrev pub IsFork : {F : Type 0} → Fork F V → Type 0
  IsFork f = IsIpPrefix f.prefix × (f.prefix.len < 128) × IsRoutesOf f.prefix f.here × IsUnder (f.prefix.len + 1) (2 * leading_bits f.prefix.len f.prefix.addr) f.low × IsUnder (f.prefix.len + 1) (2 * leading_bits f.prefix.len f.prefix.addr + 1) f.high × IsTrie f.low × IsTrie f.high × T (not (is_nil f.here) || (not (is_empty f.low) && not (is_empty f.high)))

  abbrev pub fork_routes : {F : Type 0} → Fork F V → List (RouteKey × V)
  fork_routes f = f.here ++ (routes f.low ++ routes f.high)

  module _ {F : Type 0} (f : Fork F V) (ok : IsFork f) (q : RouteKey) where
    not_low : (Starts (f.prefix.len + 1) (2 * leading_bits f.prefix.len f.prefix.addr) q.prefix → ⊥) → find key_cmp q (routes f.low) ≡ None
    not_low = find_outside f.low ok.5 _ _ ok.3 q

    not_high : (Starts (f.prefix.len + 1) (2 * leading_bits f.prefix.len f.prefix.addr + 1) q.prefix → ⊥) → find key_cmp q (routes f.high) ≡ None
    not_high = find_outside f.high ok.6 _ _ ok.4 q

    shorter_than_children : (bits : ℕ) → q.prefix ≡ f.prefix → Starts (f.prefix.len + 1) bits q.prefix → ⊥
    shorter_than_children bits same s = let long : f.prefix.len + 1 ≤ f.prefix.len = subst (λ (p : IpPrefix). f.prefix.len + 1 ≤ p.len) same s.long in omega (arith, long)

    other_prefix : (q.prefix ≡ f.prefix → ⊥) → find key_cmp q f.here ≡ None
    other_prefix other = find_absent (λ k. k.prefix ≡ f.prefix) f.here q ok.2.own other

    not_here : (bits : ℕ) → Starts (f.prefix.len + 1) bits q.prefix → find key_cmp q f.here ≡ None
    not_here bits s = other_prefix (λ same. shorter_than_children bits same s)

    two_halves : (bits : ℕ) → Starts (f.prefix.len + 1) bits q.prefix → Starts (f.prefix.len + 1) (bits + 1) q.prefix → ⊥
    two_halves bits s u = omega (arith, s.shared, u.shared)

    in_parts : find key_cmp q (fork_routes f) ≡ option_or (find key_cmp q f.here) (option_or (find key_cmp q (routes f.low)) (find key_cmp q (routes f.high)))
    in_parts = find-parts q _ _ ∙ ap (option_or (find key_cmp q f.here)) (find-parts q _ _)

    pub outside_of_fork : (Starts f.prefix.len (leading_bits f.prefix.len f.prefix.addr) q.prefix → ⊥) → find key_cmp q (fork_routes f) ≡ None
    outside_of_fork out =
        let low : Starts (f.prefix.len + 1) (2 * leading_bits f.prefix.len f.prefix.addr) q.prefix → ⊥ = λ s. out (starts_as_parent _ _ f.prefix q.prefix 0 ok.1 (starts_itself f.prefix) (omega arith) (record { long = s.long; shared = s.shared ∙ sym (add-zero _) })) in
        let high : Starts (f.prefix.len + 1) (2 * leading_bits f.prefix.len f.prefix.addr + 1) q.prefix → ⊥ = λ s. out (starts_as_parent _ _ f.prefix q.prefix 1 ok.1 (starts_itself f.prefix) (omega arith) s) in
        in_parts ∙ rw (other_prefix (λ same. out (rw same (starts_itself f.prefix))), not_low low) (not_high high)

    -- where a key is found in a fork, and what a change there changes
    pub find_here : q.prefix ≡ f.prefix → find key_cmp q (fork_routes f) ≡ find key_cmp q f.here
    find_here same = in_parts ∙ rw (not_low (shorter_than_children _ same), not_high (shorter_than_children _ same)) (or_none _)

    pub find_in_low : Starts (f.prefix.len + 1) (2 * leading_bits f.prefix.len f.prefix.addr) q.prefix → find key_cmp q (fork_routes f) ≡ find key_cmp q (routes f.low)
    find_in_low s = in_parts ∙ rw (not_here _ s, not_high (two_halves _ s)) (or_none _)

    pub find_in_high : Starts (f.prefix.len + 1) (2 * leading_bits f.prefix.len f.prefix.addr + 1) q.prefix → find key_cmp q (fork_routes f) ≡ find key_cmp q (routes f.high)
    find_in_high s = in_parts ∙ rw (not_here _ s, not_low (λ u. two_halves _ u s)) refl

    longer_other : f.prefix.len < q.prefix.len → q.prefix ≡ f.prefix → ⊥
    longer_other longer same = let long : f.prefix.len < f.prefix.len = subst (λ (p : IpPrefix). f.prefix.len < p.len) same longer in omega (arith, long)

    -- a key longer than the fork's prefix is in no branch but that of its next bit
    pub find_in_low_half : f.prefix.len < q.prefix.len → leading_bits (f.prefix.len + 1) q.prefix.addr ≡ 2 * leading_bits f.prefix.len q.prefix.addr → find key_cmp q (fork_routes f) ≡ find key_cmp q (routes f.low)
    find_in_low_half longer bit = in_parts ∙ rw (other_prefix (longer_other longer), not_high (λ s. omega (arith, s.shared, bit))) (or_none _)

    pub find_in_high_half : f.prefix.len < q.prefix.len → leading_bits (f.prefix.len + 1) q.prefix.addr ≡ 2 * leading_bits f.prefix.len q.prefix.addr + 1 → find key_cmp q (fork_routes f) ≡ find key_cmp q (routes f.high)
    find_in_high_half longer bit = in_parts ∙ rw (other_prefix (longer_other longer), not_low (λ s. omega (arith, s.shared, bit))) refl

    pub Changes_low_half : (low : Branch F V) (v : Option V) → f.prefix.len < q.prefix.len → leading_bits (f.prefix.len + 1) q.prefix.addr ≡ 2 * leading_bits f.prefix.len q.prefix.addr → Changes (routes f.low) (routes low) q v → Changes (fork_routes f) (f.here ++ (routes low ++ routes f.high)) q v
    Changes_low_half low v longer bit h = Changes-back f.here _ _ q v (other_prefix (longer_other longer)) (Changes-front _ _ (routes f.high) q v (not_high (λ s. omega (arith, s.shared, bit))) h)

    pub Changes_high_half : (high : Branch F V) (v : Option V) → f.prefix.len < q.prefix.len → leading_bits (f.prefix.len + 1) q.prefix.addr ≡ 2 * leading_bits f.prefix.len q.prefix.addr + 1 → Changes (routes f.high) (routes high) q v → Changes (fork_routes f) (f.here ++ (routes f.low ++ routes high)) q v
    Changes_high_half high v longer bit h = Changes-back f.here _ _ q v (other_prefix (longer_other longer)) (Changes-back (routes f.low) _ _ q v (not_low (λ s. omega (arith, s.shared, bit))) h)

    pub Changes_here : (here : List (RouteKey × V)) (v : Option V) → q.prefix ≡ f.prefix → Changes f.here here q v → Changes (fork_routes f) (here ++ (routes f.low ++ routes f.high)) q v
    Changes_here here v same h =
        let none : find key_cmp q (routes f.low ++ routes f.high) ≡ None = find-parts q _ _ ∙ ap (λ o. option_or o (find key_cmp q (routes f.high))) (not_low (shorter_than_children _ same)) ∙ not_high (shorter_than_children _ same) in
        Changes-front _ _ (routes f.low ++ routes f.high) q v none h

    pub Changes_low : (low : Branch F V) (v : Option V) → Starts (f.prefix.len + 1) (2 * leading_bits f.prefix.len f.prefix.addr) q.prefix → Changes (routes f.low) (routes low) q v → Changes (fork_routes f) (f.here ++ (routes low ++ routes f.high)) q v
    Changes_low low v s h = Changes-back f.here _ _ q v (not_here _ s) (Changes-front _ _ (routes f.high) q v (not_high (two_halves _ s)) h)

    pub Changes_high : (high : Branch F V) (v : Option V) → Starts (f.prefix.len + 1) (2 * leading_bits f.prefix.len f.prefix.addr + 1) q.prefix → Changes (routes f.high) (routes high) q v → Changes (fork_routes f) (f.here ++ (routes f.low ++ routes high)) q v
    Changes_high high v s h = Changes-back f.here _ _ q v (not_here _ s) (Changes-back (routes f.low) _ _ q v (not_low (λ u. two_halves _ u s)) h)
