-- The networks of an address, and the longest match among them.
use Rattle.std.proofs.Common.{◌≡◌, ◌≢◌, ℕ, get_or, ◌*◌, ◌<◌, ◌≤◌, Bool, true, false, List, refl, sym, ap, subst, ◌∙◌, arith, inl, inr}
use Rattle.std.proofs.lemmas.Bool.{cases_lt, eqb-true, eq-eqb}
use Rattle.std.proofs.lemmas.List.Folds.{list_any_at}
use Rattle.std.specs.List.{All, list_any}
use Rattle.std.specs.Option.{is_some}
use Rattle.std.specs.FinMap as finite
use Rattle.std.specs.FinMap.{find}
use Rattle.bgp_prefix.specs.Prefixes.{IpPrefix, IsIpPrefix, network_of, leading_bits, block_size, contains, prefix_eq}
use Rattle.bgp_prefix.specs.Keys.{key_cmp, RouteKey}
use Rattle.bgp_prefix.specs.Maps.{IsLongestMatch, HasNoMatch}
use Rattle.bgp_prefix.proofs.Bits.{network_bits}
use Rattle.prefix_maps.proofs.MapLaws.{found}
use Rattle.bgp_prefix.proofs.SortedMaps.{of_found, found_of_any}

-- the prefix of this length that contains the address
abbrev pub network : ℕ → ℕ → IpPrefix
network addr n = record { addr = network_of addr n; len = n }

pub contains_network : (addr n : ℕ) → contains (network addr n) addr ≡ true
contains_network addr n = eq-eqb _ _ (sym (network_bits addr n))

-- it is the only one
pub network_is : (addr : ℕ) (p : IpPrefix) → IsIpPrefix p → contains p addr ≡ true → p ≡ network addr p.len
network_is addr p is within =
    let bits : leading_bits p.len addr ≡ leading_bits p.len p.addr = eqb-true _ _ within in
    let same : p.addr ≡ network_of addr p.len = sym is.cleared ∙ ap (λ (t : ℕ). t * block_size p.len) (sym bits) in
    ap (λ (a : ℕ). record { addr = a; len = p.len }) same

-- so another prefix that contains the address and is no longer is shorter
pub shorter_than_network : (addr n : ℕ) (p : IpPrefix) → IsIpPrefix p → contains p addr ≡ true → p ≢ network addr n → p.len ≤ n → p.len < n
shorter_than_network addr n p is within other le = elim (cases_lt p.len n) [
  | inl lt ↦ lt
  | inr ge ↦ let same : p.len ≡ n = omega (arith, le, ge) in absurd (other (network_is addr p is within ∙ ap (network addr) same))
]

pub same_itself : (p : IpPrefix) → prefix_eq p p ≡ true
same_itself p = rw (eq-eqb p.addr p.addr refl, eq-eqb p.len p.len refl)

module _ {V : Type 0} (es : List (RouteKey × V)) (addr : ℕ) where
  abbrev has : ℕ → Bool
  has n = list_any (λ e. prefix_eq (network addr n) e.0.prefix) es

  holds : (k : RouteKey) → finite.contains_key (finite.from_entries {R = key_cmp} es) k ≡ is_some (find key_cmp k es)
  holds k = ap is_some (found es k)

  -- a key that contains the address has the network of its length
  has_network : (k : RouteKey) → All (λ e. IsIpPrefix e.0.prefix) es → is_some (find key_cmp k es) ≡ true → contains k.prefix addr ≡ true → (k.prefix.len ≤ 128) × (has k.prefix.len ≡ true)
  has_network k known some within =
      let is = of_found (λ q. IsIpPrefix q.prefix) es k known some in
      let listed : list_any (λ (e : RouteKey × V). prefix_eq k.prefix e.0.prefix) es ≡ true = of_found (λ q. list_any (λ (e : RouteKey × V). prefix_eq q.prefix e.0.prefix) es ≡ true) es k (λ i d lt. list_any_at (λ (e : RouteKey × V). prefix_eq (get_or es i d).0.prefix e.0.prefix) es i d lt (same_itself (get_or es i d).0.prefix)) some in
      (is.short, subst (λ (p : IpPrefix). list_any (λ (e : RouteKey × V). prefix_eq p e.0.prefix) es ≡ true) (network_is addr k.prefix is within) listed)

  pub longest_of : (n : ℕ) → All (λ e. IsIpPrefix e.0.prefix) es → has n ≡ true → ((m : ℕ) → n < m → m ≤ 128 → has m ≡ false) → IsLongestMatch (finite.from_entries {R = key_cmp} es) addr (network addr n)
  longest_of n known here none =
      let key = found_of_any (network addr n) es here in
      record {
        held_by = (key.0, holds _ ∙ key.1);
        matches = contains_network addr n;
        longest = λ k held within other.
            let some = sym (holds k) ∙ held in
            let has_it = has_network k known some within in
            elim (cases_lt n k.prefix.len) as (λ _. k.prefix.len < n) [
              | inl longer ↦ let no = none k.prefix.len longer has_it.0 in let yes = has_it.1 in cc
              | inr le ↦ shorter_than_network addr n k.prefix (of_found (λ q. IsIpPrefix q.prefix) es k known some) within other le
            ];
      }

  pub none_of : All (λ e. IsIpPrefix e.0.prefix) es → ((m : ℕ) → m ≤ 128 → has m ≡ false) → HasNoMatch (finite.from_entries {R = key_cmp} es) addr
  none_of known none k held within =
      let has_it = has_network k known (sym (holds k) ∙ held) within in
      let no = none k.prefix.len has_it.0 in
      let yes = has_it.1 in
      cc
