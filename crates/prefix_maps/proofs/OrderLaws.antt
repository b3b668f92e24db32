-- The routes of a branch stand in the order of their keys.
use Rattle.std.proofs.Common.{◌≡◌, ℕ, ◌+◌, ◌*◌, ◌-◌, ◌<◌, ◌≤◌, List, [], ◌∷◌, ◌++◌, refl, sym, ap, ◌∙◌, subst, T, arith, add-zero, inl, inr}
use Rattle.std.specs.declared.cmp.Ordering.TheVariants.{Less, Equal}
use Rattle.std.specs.Ordering.{nat_cmp, is_lt, ordering_then}
use Rattle.std.specs.FinMap.{is_sorted}
use Rattle.std.specs.List.{All}
use Rattle.std.specs.FinMap.Entries.{below_all}
use Rattle.std.proofs.lemmas.Bool.{cases_lt, lt-ltb}
use Rattle.std.proofs.lemmas.Cmp.{tied_itself, nat_cmp_total}
use Rattle.std.proofs.lemmas.List.Elements.{All-nil, All-cons, All-head, All-tail}
use Rattle.std.proofs.lemmas.Nat.{le-div, pow_pos}
use Rattle.std.proofs.Math.Nat.{div-mul-le_self}
use Rattle.bgp_prefix.specs.Prefixes.{IpPrefix, IsIpPrefix, leading_bits, block_size, Starts}
use Rattle.bgp_prefix.specs.Keys.{key_cmp, RouteKey}
use Rattle.prefix_maps.specs.Tries.{routes, IsTrie, IsUnder, IsRoutesOf}
use Rattle.prefix_maps.specs.declared.radix.node.Branch.{Branch}
use Rattle.prefix_maps.specs.declared.radix.node.Branch.TheVariants.{Empty, Leaf, Fork'}
use Rattle.bgp_prefix.proofs.Bits.{network_below}
use Rattle.prefix_maps.proofs.TrieLaws.{starts_as_parent}
use Rattle.bgp_prefix.proofs.SearchLaws.{both, first, second}

-- what holds of each key of a list
abbrev pub AllKeys : {V : Type 0} → (RouteKey → Type 0) → List (RouteKey × V) → Type 0
AllKeys P [] = Unit {0}
AllKeys P (e ∷ es) = P e.0 × AllKeys P es

module _ {V : Type 0} (P : RouteKey → Type 0) where
  pub AllKeys-append : (es fs : List (RouteKey × V)) → AllKeys P es → AllKeys P fs → AllKeys P (es ++ fs)
  AllKeys-append [] fs a b = b
  AllKeys-append (e ∷ es) fs a b = (a.0, AllKeys-append es fs a.1 b)

  pub AllKeys-from_all : (es : List (RouteKey × V)) → All (λ e. P e.0) es → AllKeys P es
  AllKeys-from_all [] h = tt
  AllKeys-from_all (e ∷ es) h = (All-head (λ (d : RouteKey × V). P d.0) e es h, AllKeys-from_all es (All-tail (λ (d : RouteKey × V). P d.0) e es h))

  pub AllKeys-weaker : (Q : RouteKey → Type 0) (es : List (RouteKey × V)) → ((k : RouteKey) → P k → Q k) → AllKeys P es → AllKeys Q es
  AllKeys-weaker Q [] f h = tt
  AllKeys-weaker Q (e ∷ es) f h = (f e.0 h.0, AllKeys-weaker Q es f h.1)

-- what follows from two facts that hold of each key
pub AllKeys-both : {V : Type 0} (P Q R : RouteKey → Type 0) (es : List (RouteKey × V)) → ((k : RouteKey) → P k → Q k → R k) → AllKeys P es → AllKeys Q es → AllKeys R es
AllKeys-both P Q R [] f a b = tt
AllKeys-both P Q R (e ∷ es) f a b = (f e.0 a.0 b.0, AllKeys-both P Q R es f a.1 b.1)

pub All-parts : {X : Type 0} (P : X → Type 0) (xs ys : List X) → All P (xs ++ ys) → All P xs × All P ys
All-parts P [] ys h = (All-nil P, h)
All-parts P (x ∷ xs) ys h = let rest = All-parts P xs ys (All-tail P x (xs ++ ys) h) in (All-cons P x xs (All-head P x (xs ++ ys) h) rest.0, rest.1)

-- of two addresses the one with the lower leading bits is lower
addr_rises : (n a b : ℕ) → leading_bits n a < leading_bits n b → a < b
addr_rises n a b h = elim (cases_lt a b) [
  | inl lt ↦ lt
  | inr ge ↦
      let some : 0 < block_size n = pow_pos (128 - n) in
      let low : leading_bits n b * block_size n ≤ a = omega (arith, div-mul-le_self b (block_size n), ge) in
      let le : leading_bits n b ≤ leading_bits n a = le-div (leading_bits n b) a (block_size n) some low in
      absurd (omega (arith, h, le))
]

number_less : (a b : ℕ) → a < b → nat_cmp a b ≡ Less
number_less a b h = rw (lt-ltb a b h) refl

less_by_addr : (j k : RouteKey) → j.prefix.addr < k.prefix.addr → key_cmp j k ≡ Less
less_by_addr j k h = ap (λ r. ordering_then (ordering_then r (nat_cmp j.prefix.len k.prefix.len)) (nat_cmp j.id k.id)) (number_less _ _ h)

pub less_by_len : (j k : RouteKey) → j.prefix.addr ≤ k.prefix.addr → j.prefix.len < k.prefix.len → key_cmp j k ≡ Less
less_by_len j k le h = elim (cases_lt j.prefix.addr k.prefix.addr) [
  | inl lt ↦ less_by_addr j k lt
  | inr ge ↦
      let same : j.prefix.addr ≡ k.prefix.addr = omega (arith, le, ge) in
      let tied : nat_cmp j.prefix.addr k.prefix.addr ≡ Equal = ap (nat_cmp j.prefix.addr) (sym same) ∙ tied_itself nat_cmp_total j.prefix.addr in
      ap (λ r. ordering_then (ordering_then r (nat_cmp j.prefix.len k.prefix.len)) (nat_cmp j.id k.id)) tied
      ∙ ap (λ r. ordering_then r (nat_cmp j.id k.id)) (number_less _ _ h)
]

module _ {V : Type 0} where
  pub own_keys : (p : IpPrefix) (es : List (RouteKey × V)) → IsRoutesOf p es → AllKeys (λ k. k.prefix ≡ p) es
  own_keys p es ok = AllKeys-from_all (λ k. k.prefix ≡ p) es ok.own

  below_append : (k : RouteKey) (es fs : List (RouteKey × V)) → T (below_all key_cmp k es) → AllKeys (λ j. key_cmp k j ≡ Less) fs → T (below_all key_cmp k (es ++ fs))
  below_append k [] [] a b = tt
  below_append k [] (f ∷ fs) a b = both _ _ (subst (λ r. T (is_lt r)) (sym b.0) tt) (below_append k [] fs tt b.1)
  below_append k (e ∷ es) fs a b = both _ _ (first _ _ a) (below_append k es fs (second _ _ a) b)

  -- two lists in order, each key of the first below each of the second
  sorted_append : (es fs : List (RouteKey × V)) → T (is_sorted key_cmp es) → T (is_sorted key_cmp fs) → AllKeys (λ k. AllKeys (λ j. key_cmp k j ≡ Less) fs) es → T (is_sorted key_cmp (es ++ fs))
  sorted_append [] fs a b c = b
  sorted_append (e ∷ es) fs a b c = both _ _ (below_append e.0 es fs (first _ _ a) c.0) (sorted_append es fs (second _ _ a) b c.1)

  below_parts : (k : RouteKey) (es fs : List (RouteKey × V)) → T (below_all key_cmp k (es ++ fs)) → T (below_all key_cmp k es)
  below_parts k [] fs h = tt
  below_parts k (e ∷ es) fs h = both _ _ (first _ _ h) (below_parts k es fs (second _ _ h))

  pub sorted_parts : (es fs : List (RouteKey × V)) → T (is_sorted key_cmp (es ++ fs)) → T (is_sorted key_cmp es) × T (is_sorted key_cmp fs)
  sorted_parts [] fs h = (tt, h)
  sorted_parts (e ∷ es) fs h = let rest = sorted_parts es fs (second _ _ h) in (both _ _ (below_parts e.0 es fs (first _ _ h)) rest.0, rest.1)

  pub keys_start : {F : Type 0} → (b : Branch F V) → IsTrie b → (len bits : ℕ) → IsUnder len bits b → AllKeys (λ k. Starts len bits k.prefix) (routes b)
  keys_start Empty ok len bits under = tt
  keys_start (Leaf l) ok len bits under = AllKeys-from_all (λ k. Starts len bits k.prefix) l under
  keys_start (Fork' p prefix low high here) ok len bits under =
      let P = λ (k : RouteKey). Starts len bits k.prefix in
      let a = keys_start low ok.5 (prefix.len + 1) (2 * leading_bits prefix.len prefix.addr) ok.3 in
      let b = keys_start high ok.6 (prefix.len + 1) (2 * leading_bits prefix.len prefix.addr + 1) ok.4 in
      AllKeys-append P here (routes low ++ routes high)
      (AllKeys-weaker (λ k. k.prefix ≡ prefix) P here (λ k same. rw same under) (own_keys prefix here ok.2))
      (AllKeys-append P (routes low) (routes high)
      (AllKeys-weaker (λ k. Starts (prefix.len + 1) (2 * leading_bits prefix.len prefix.addr) k.prefix) P (routes low) (λ k s. starts_as_parent len bits prefix k.prefix 0 ok.1 under (omega arith) (record { long = s.long; shared = s.shared ∙ sym (add-zero _) })) a)
      (AllKeys-weaker (λ k. Starts (prefix.len + 1) (2 * leading_bits prefix.len prefix.addr + 1) k.prefix) P (routes high) (λ k s. starts_as_parent len bits prefix k.prefix 1 ok.1 under (omega arith) s) b))

  pub keys_known : {F : Type 0} → (b : Branch F V) → IsTrie b → AllKeys (λ k. IsIpPrefix k.prefix) (routes b)
  keys_known Empty ok = tt
  keys_known (Leaf l) ok = AllKeys-from_all (λ k. IsIpPrefix k.prefix) l ok.0.known
  keys_known (Fork' p prefix low high here) ok =
      let P = λ (k : RouteKey). IsIpPrefix k.prefix in
      AllKeys-append P here (routes low ++ routes high) (AllKeys-weaker (λ k. k.prefix ≡ prefix) P here (λ k same. rw same ok.0) (own_keys prefix here ok.2)) (AllKeys-append P (routes low) (routes high) (keys_known low ok.5) (keys_known high ok.6))

  -- a fork's own keys are below those of a branch of it
  own_below : {F : Type 0} → (p : IpPrefix) (r : ℕ) (k : RouteKey) (b : Branch F V) → IsIpPrefix p → p.len < 128 → r < 2 → k.prefix ≡ p → IsTrie b → IsUnder (p.len + 1) (2 * leading_bits p.len p.addr + r) b → AllKeys (λ j. key_cmp k j ≡ Less) (routes b)
  own_below p r k b known short h same ok under =
      AllKeys-weaker (λ j. Starts (p.len + 1) (2 * leading_bits p.len p.addr + r) j.prefix) (λ j. key_cmp k j ≡ Less) (routes b)
      (λ j s.
      let up : Starts p.len (leading_bits p.len p.addr) j.prefix = starts_as_parent p.len (leading_bits p.len p.addr) p j.prefix r short (record { long = omega arith; shared = refl }) h s in
      let le : p.addr ≤ j.prefix.addr = network_below p j.prefix.addr known up.shared in
      let lt : p.len < j.prefix.len = omega (arith, s.long) in
      less_by_len k j (rw same le) (rw same lt))
      (keys_start b ok (p.len + 1) (2 * leading_bits p.len p.addr + r) under)

  low_below : {F : Type 0} → (n t : ℕ) (low high : Branch F V) → IsTrie low → IsTrie high → IsUnder n t low → IsUnder n (t + 1) high → AllKeys (λ k. AllKeys (λ j. key_cmp k j ≡ Less) (routes high)) (routes low)
  low_below n t low high a b u v =
      AllKeys-weaker (λ k. Starts n t k.prefix) (λ k. AllKeys (λ j. key_cmp k j ≡ Less) (routes high)) (routes low)
      (λ k s. AllKeys-weaker (λ j. Starts n (t + 1) j.prefix) (λ j. key_cmp k j ≡ Less) (routes high) (λ j w. less_by_addr k j (addr_rises n k.prefix.addr j.prefix.addr (omega (arith, s.shared, w.shared)))) (keys_start high b n (t + 1) v))
      (keys_start low a n t u)

  -- the keys of a branch rise
  pub routes_sorted : {F : Type 0} → (b : Branch F V) → IsTrie b → T (is_sorted key_cmp (routes b))
  routes_sorted Empty ok = tt
  routes_sorted (Leaf l) ok = ok.0.sorted
  routes_sorted (Fork' p prefix low high here) ok =
      let below : T (is_sorted key_cmp (routes low ++ routes high)) = sorted_append (routes low) (routes high) (routes_sorted low ok.5) (routes_sorted high ok.6) (low_below (prefix.len + 1) (2 * leading_bits prefix.len prefix.addr) low high ok.5 ok.6 ok.3 ok.4) in
      let in_low : IsUnder (prefix.len + 1) (2 * leading_bits prefix.len prefix.addr + 0) low = subst (λ (t : ℕ). IsUnder (prefix.len + 1) t low) (sym (add-zero _)) ok.3 in
      sorted_append here (routes low ++ routes high) ok.2.sorted below
      (AllKeys-weaker (λ k. k.prefix ≡ prefix) (λ k. AllKeys (λ j. key_cmp k j ≡ Less) (routes low ++ routes high)) here
      (λ k same. AllKeys-append (λ j. key_cmp k j ≡ Less) (routes low) (routes high)
      (own_below prefix 0 k low ok.0 ok.1 (omega arith) same ok.5 in_low)
      (own_below prefix 1 k high ok.0 ok.1 (omega arith) same ok.6 ok.4))
      (own_keys prefix here ok.2))
