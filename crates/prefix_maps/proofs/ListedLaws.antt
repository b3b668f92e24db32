-- The routes of one prefix in a branch of the trie.
use Rattle.std.proofs.Common.{◌≡◌, ℕ, ◌+◌, ◌*◌, ◌≤◌, true, false, cond, List, [], ◌∷◌, ◌++◌, map, refl, ap, ◌∙◌, subst, arith, Bor}
use Rattle.std.specs.List.{filter}
use Rattle.std.proofs.lemmas.List.{append-nil, map-append}
use Rattle.std.proofs.lemmas.List.Elements.{filter-append}
use Rattle.bgp_prefix.specs.Prefixes.{IpPrefix, leading_bits, prefix_eq, Starts}
use Rattle.bgp_prefix.specs.Keys.{entries_now, RouteKey}
use Rattle.bgp_prefix.specs.Maps.{paths_of}
use Rattle.prefix_maps.specs.Tries.{routes, IsTrie, IsUnder, IsRoutesOf}
use Rattle.prefix_maps.specs.declared.radix.node.Branch.{Branch}
use Rattle.prefix_maps.specs.declared.radix.node.Fork.{Fork}
use Rattle.bgp_prefix.proofs.KeyLaws.{same_prefix}
use Rattle.prefix_maps.proofs.TrieLaws.{IsFork, fork_routes}
use Rattle.prefix_maps.proofs.OrderLaws.{AllKeys, AllKeys-weaker, own_keys, keys_start}

-- an entry with the value behind its reference, of any keys
pub entries_now-map : {V : Type 0} (es : List (RouteKey × Bor V)) → entries_now es ≡ map (λ e. (e.0, e.1.now)) es
entries_now-map [] = refl
entries_now-map (e ∷ es) = ap (λ t. (e.0, e.1.now) ∷ t) (entries_now-map es)

untied : (p q : IpPrefix) → (p ≡ q → ⊥) → prefix_eq p q ≡ false
untied p q other = elim (prefix_eq p q) as (λ b. prefix_eq p q ≡ b → b ≡ false) [ true ↦ λ e. absurd (other (same_prefix p q e)) | false ↦ λ e. refl ] refl

module _ {V : Type 0} (p : IpPrefix) where
  pub paths_of-append : (es fs : List (RouteKey × V)) → paths_of p (es ++ fs) ≡ paths_of p es ++ paths_of p fs
  paths_of-append es fs = ap (map (λ e. (e.0.id, e.1))) (filter-append (λ e. prefix_eq p e.0.prefix) es fs) ∙ map-append _ _ _

  paths_of-none : (es : List (RouteKey × V)) → AllKeys (λ k. prefix_eq p k.prefix ≡ false) es → paths_of p es ≡ []
  paths_of-none [] h = refl
  paths_of-none (e ∷ es) h = ap (λ b. map (λ e. (e.0.id, e.1)) (cond b (e ∷ filter (λ e. prefix_eq p e.0.prefix) es) (filter (λ e. prefix_eq p e.0.prefix) es))) h.0 ∙ paths_of-none es h.1

  paths_of_other : (q : IpPrefix) (es : List (RouteKey × V)) → IsRoutesOf q es → (p ≡ q → ⊥) → paths_of p es ≡ []
  paths_of_other q es own other = paths_of-none es (AllKeys-weaker (λ k. k.prefix ≡ q) (λ k. prefix_eq p k.prefix ≡ false) es (λ k same. untied p k.prefix (λ e. other (e ∙ same))) (own_keys q es own))

  -- a prefix that does not start as the branch does has no routes in it
  pub paths_outside : {F : Type 0} → (b : Branch F V) → IsTrie b → (len bits : ℕ) → IsUnder len bits b → (Starts len bits p → ⊥) → paths_of p (routes b) ≡ []
  paths_outside b ok len bits under out =
      paths_of-none (routes b) (AllKeys-weaker (λ k. Starts len bits k.prefix) (λ k. prefix_eq p k.prefix ≡ false) (routes b) (λ k s. untied p k.prefix (λ e. out (rw e s))) (keys_start b ok len bits under))

  module _ {F : Type 0} (f : Fork F V) (ok : IsFork f) where
    in_parts : paths_of p (fork_routes f) ≡ paths_of p f.here ++ (paths_of p (routes f.low) ++ paths_of p (routes f.high))
    in_parts = paths_of-append f.here (routes f.low ++ routes f.high) ∙ ap (λ t. paths_of p f.here ++ t) (paths_of-append (routes f.low) (routes f.high))

    not_low : (Starts (f.prefix.len + 1) (2 * leading_bits f.prefix.len f.prefix.addr) p → ⊥) → paths_of p (routes f.low) ≡ []
    not_low = paths_outside f.low ok.5 _ _ ok.3

    not_high : (Starts (f.prefix.len + 1) (2 * leading_bits f.prefix.len f.prefix.addr + 1) p → ⊥) → paths_of p (routes f.high) ≡ []
    not_high = paths_outside f.high ok.6 _ _ ok.4

    longer : (bits : ℕ) → p ≡ f.prefix → Starts (f.prefix.len + 1) bits p → ⊥
    longer bits same s = let long : f.prefix.len + 1 ≤ f.prefix.len = subst (λ (q : IpPrefix). f.prefix.len + 1 ≤ q.len) same s.long in omega (arith, long)

    pub paths_here : p ≡ f.prefix → paths_of p (fork_routes f) ≡ paths_of p f.here
    paths_here same = in_parts ∙ rw (not_low (longer _ same), not_high (longer _ same)) (append-nil _)

    pub paths_in_low : Starts (f.prefix.len + 1) (2 * leading_bits f.prefix.len f.prefix.addr) p → paths_of p (fork_routes f) ≡ paths_of p (routes f.low)
    paths_in_low s = in_parts ∙ rw (paths_of_other f.prefix f.here ok.2 (λ same. longer _ same s), not_high (λ u. omega (arith, s.shared, u.shared))) (append-nil _)

    pub paths_in_high : Starts (f.prefix.len + 1) (2 * leading_bits f.prefix.len f.prefix.addr + 1) p → paths_of p (fork_routes f) ≡ paths_of p (routes f.high)
    paths_in_high s = in_parts ∙ rw (paths_of_other f.prefix f.here ok.2 (λ same. longer _ same s), not_low (λ u. omega (arith, s.shared, u.shared))) refl
