-- The longest match by searches: each misses by fewer bits than the one before.
use Rattle.std.proofs.Common.{◌≡◌, ◌≢◌, ℕ, ◌+◌, ◌-◌, ◌*◌, ◌<◌, ◌≤◌, true, false, List, length, get_or, Some, T, refl, sym, ap, subst, ◌∙◌, arith, inl, inr}
use Rattle.std.proofs.lemmas.Bool.{cases_lt, cases_Bool, eqb-true, eq-eqb}
use Rattle.std.proofs.lemmas.List.{get_or_default}
use Rattle.std.proofs.lemmas.List.Folds.{list_any_at, list_any_none}
use Rattle.std.proofs.Math.Nat.{div-mul-le_self}
use Rattle.std.specs.List.{All, list_any}
use Rattle.std.specs.List.Sorted.{IsPartitionPoint, IsPartitionedBy}
use Rattle.std.specs.Cmp.{ranked}
use Rattle.std.specs.Ordering.{nat_cmp, is_le, ordering_then, partial_ordering_then, is_some_and}
use Rattle.std.specs.declared.cmp.Ordering.{Ordering}
use Rattle.std.specs.declared.cmp.Ordering.TheVariants.{Less, Equal, Greater}
use Rattle.std.specs.FinMap as finite
use Rattle.std.specs.FinMap.{is_sorted}
use Rattle.bgp_prefix.specs.Prefixes.{IpPrefix, IsIpPrefix, leading_bits, network_of, block_size, contains, prefix_cmp, prefix_eq}
use Rattle.bgp_prefix.specs.Keys.{key_cmp, RouteKey}
use Rattle.bgp_prefix.specs.Maps.{IsLongestMatch, HasNoMatch}
use Rattle.bgp_prefix.proofs.Bits.{share_fewer, network_bits}
use Rattle.bgp_prefix.proofs.KeyLaws.{same_prefix}
use Rattle.prefix_maps.proofs.NetworkLaws.{network, network_is, contains_network, longest_of, none_of, same_itself}
use Rattle.prefix_maps.proofs.SplitLaws.{IsUpTo, rise, below_network, share_between, up_to_of}

-- the order of prefixes
pub le_is : (a b : Ordering) → is_le (ordering_then a b) ≡ is_some_and is_le (partial_ordering_then (Some a) (Some b))
le_is Less b = refl
le_is Equal b = refl
le_is Greater b = refl

le_of : (p q : IpPrefix) → IsUpTo p q → is_le (prefix_cmp p q) ≡ true
le_of p q up = elim (nat_cmp p.addr q.addr) as (λ r. nat_cmp p.addr q.addr ≡ r → is_le (ordering_then r (nat_cmp p.len q.len)) ≡ true) [
  | Less ↦ λ e. refl
  | Equal ↦ λ e.
      let same : p.addr ≡ q.addr = ranked p.addr q.addr Equal (sym e) in
      elim (nat_cmp p.len q.len) as (λ r. nat_cmp p.len q.len ≡ r → is_le r ≡ true) [
        | Less ↦ λ f. refl
        | Equal ↦ λ f. refl
        | Greater ↦ λ f. let gt : q.len < p.len = ranked p.len q.len Greater (sym f) in absurd (omega (arith, gt, up.short same))
      ] refl
  | Greater ↦ λ e. let gt : q.addr < p.addr = ranked p.addr q.addr Greater (sym e) in absurd (omega (arith, gt, up.low))
] refl

up_to_both : (p q r : IpPrefix) → IsUpTo p q → IsUpTo q r → IsUpTo p r
up_to_both p q r a b = record {
  low = omega (arith, a.low, b.low);
  short = λ same.
      let first : p.addr ≡ q.addr = omega (arith, a.low, b.low, same) in
      let second : q.addr ≡ r.addr = omega (arith, a.low, b.low, same) in
      omega (arith, a.short first, b.short second);
}

pub first_up_to : {V : Type 0} (es : List (RouteKey × V)) (last : IpPrefix) → T (is_sorted key_cmp es) → IsPartitionedBy (λ e. is_le (prefix_cmp e.0.prefix last)) es
first_up_to es last sorted i j d le lt up =
    let p = (get_or es i d).0.prefix in
    let q = (get_or es j d).0.prefix in
    le_of p last (up_to_both p q last (rise es i j d sorted le lt) (up_to_of q last up))

-- of two prefixes in order that contain an address the second is no shorter
pub no_longer : (addr : ℕ) (q p : IpPrefix) → IsIpPrefix q → IsIpPrefix p → contains q addr ≡ true → contains p addr ≡ true → IsUpTo q p → q.len ≤ p.len
no_longer addr q p known_q known_p in_q in_p up = elim (cases_lt p.len q.len) [
  | inl longer ↦
      let bits : leading_bits p.len p.addr ≡ leading_bits p.len q.addr = sym (eqb-true _ _ in_p) ∙ share_fewer p.len q.len addr q.addr (omega (arith, longer)) known_q.short (eqb-true _ _ in_q) in
      let le : p.addr ≤ q.addr = below_network p p.len q.addr known_p (omega arith) known_p.short bits in
      let same : q.addr ≡ p.addr = omega (arith, le, up.low) in
      up.short same
  | inr le ↦ le
]

-- a prefix that contains an address has no more bits than one after it shares, which is no higher
pub no_longer_than_shared : (addr shared : ℕ) (q p : IpPrefix) → IsIpPrefix q → contains q addr ≡ true → IsUpTo q p → p.addr ≤ addr → leading_bits (shared + 1) p.addr ≢ leading_bits (shared + 1) addr → q.len ≤ shared
no_longer_than_shared addr shared q p known_q in_q up low parted = elim (cases_lt shared q.len) [
  | inl longer ↦
      let ends : leading_bits q.len q.addr ≡ leading_bits q.len addr = sym (eqb-true _ _ in_q) in
      let between : leading_bits q.len p.addr ≡ leading_bits q.len q.addr = share_between q.len q.addr p.addr addr up.low low ends in
      absurd (parted (share_fewer (shared + 1) q.len p.addr addr (omega (arith, longer)) known_q.short (between ∙ ends)))
  | inr le ↦ le
]

-- no prefix that contains the address has more bits than the limit
pub record IsLimit {V : Type 0} (w : ℕ) (es : List (RouteKey × V)) (addr limit : ℕ) : Type 0 where
  pub sorted : T (is_sorted key_cmp es)
  pub known : All (λ e. IsIpPrefix e.0.prefix) es
  pub short : limit ≤ w
  pub narrow : w ≤ 128
  pub bound : All (λ e. contains e.0.prefix addr ≡ true → e.0.prefix.len ≤ limit) es

pub IsLimit-start : {V : Type 0} (w : ℕ) (es : List (RouteKey × V)) (addr : ℕ) → w ≤ 128 → T (is_sorted key_cmp es) → All (λ e. IsIpPrefix e.0.prefix) es → All (λ e. e.0.prefix.len ≤ w) es → IsLimit w es addr w
IsLimit-start w es addr narrow sorted known short = record { sorted = sorted; known = known; short = omega arith; narrow = narrow; bound = λ k d lt in_k. short k d lt }

-- what a search for the network of that many bits ends at
module _ {V : Type 0} {w : ℕ} (es : List (RouteKey × V)) (addr limit count : ℕ) (is : IsLimit w es addr limit) (inside : count ≤ length es) (end : IsPartitionPoint (λ e. is_le (prefix_cmp e.0.prefix (network addr limit)) ≡ true) (λ e. is_le (prefix_cmp e.0.prefix (network addr limit)) ≡ false) es count) where
  match_before : (k : ℕ) (d : RouteKey × V) → k < length es → contains (get_or es k d).0.prefix addr ≡ true → k < count
  match_before k d lt in_k = elim (cases_lt k count) [
    | inl less ↦ less
    | inr past ↦
        let p = (get_or es k d).0.prefix in
        let known = is.known k d lt in
        let len : p.len ≤ limit = is.bound k d lt in_k in
        let bits : leading_bits p.len p.addr ≡ leading_bits p.len (network_of addr limit) = sym (eqb-true _ _ in_k) ∙ share_fewer p.len limit addr (network_of addr limit) len (omega (arith, is.short, is.narrow)) (sym (network_bits addr limit)) in
        let up : IsUpTo p (network addr limit) = record { low = below_network p p.len (network_of addr limit) known (omega arith) known.short bits; short = λ same. len } in
        let yes = le_of p (network addr limit) up in
        let no = end.1 k d past lt in
        let clash : true ≡ false = sym yes ∙ no in
        cc
  ]

  has_none : (m : ℕ) → ((k : ℕ) (d : RouteKey × V) → k < length es → contains (get_or es k d).0.prefix addr ≡ true → (get_or es k d).0.prefix.len ≢ m) → list_any (λ e. prefix_eq (network addr m) e.0.prefix) es ≡ false
  has_none m other = list_any_none (λ (e : RouteKey × V). prefix_eq (network addr m) e.0.prefix) es (λ k d lt. elim (cases_Bool (prefix_eq (network addr m) (get_or es k d).0.prefix)) [
    | inl t ↦
        let same : network addr m ≡ (get_or es k d).0.prefix = same_prefix (network addr m) (get_or es k d).0.prefix t in
        absurd (other k d lt (subst (λ (q : IpPrefix). contains q addr ≡ true) same (contains_network addr m)) (ap (λ (q : IpPrefix). q.len) (sym same)))
    | inr f ↦ f
  ])

  pub none_found : count ≡ 0 → HasNoMatch (finite.from_entries {R = key_cmp} es) addr
  none_found none = none_of es addr is.known (λ m short. has_none m (λ k d lt in_k len. absurd (omega (arith, none, match_before k d lt in_k))))

  module _ (x : RouteKey × V) (some : 0 < count) (read : x ≡ get_or es (count - 1) x) where
    abbrev p : IpPrefix
    p = x.0.prefix

    last : count - 1 < length es
    last = omega (arith, some, inside)

    read_at : (d : RouteKey × V) → (get_or es (count - 1) d).0.prefix ≡ p
    read_at d = ap (λ (e : RouteKey × V). e.0.prefix) (get_or_default es (count - 1) d x last ∙ sym read)

    known_p : IsIpPrefix p
    known_p = subst IsIpPrefix (read_at x) (is.known (count - 1) x last)

    up_to_p : (k : ℕ) (d : RouteKey × V) → k < length es → contains (get_or es k d).0.prefix addr ≡ true → IsUpTo (get_or es k d).0.prefix p
    up_to_p k d lt in_k = subst (IsUpTo (get_or es k d).0.prefix) (read_at d) (rise es k (count - 1) d is.sorted (omega (arith, some, match_before k d lt in_k)) last)

    pub match_found : contains p addr ≡ true → IsLongestMatch (finite.from_entries {R = key_cmp} es) addr p
    match_found in_p =
        let whole : p ≡ network addr p.len = network_is addr p known_p in_p in
        let here : list_any (λ (e : RouteKey × V). prefix_eq (network addr p.len) e.0.prefix) es ≡ true = list_any_at (λ (e : RouteKey × V). prefix_eq (network addr p.len) e.0.prefix) es (count - 1) x last (ap (λ (q : IpPrefix). prefix_eq q (get_or es (count - 1) x).0.prefix) (sym (read_at x ∙ whole)) ∙ same_itself (get_or es (count - 1) x).0.prefix) in
        let none : (m : ℕ) → p.len < m → m ≤ 128 → list_any (λ (e : RouteKey × V). prefix_eq (network addr m) e.0.prefix) es ≡ false = λ m longer short. has_none m (λ k d lt in_k len. absurd (omega (arith, longer, len, no_longer addr (get_or es k d).0.prefix p (is.known k d lt) known_p in_k in_p (up_to_p k d lt in_k)))) in
        subst (IsLongestMatch (finite.from_entries {R = key_cmp} es) addr) (sym whole) (longest_of es addr p.len is.known here none)

    -- where that is no match, it shares fewer bits
    module _ (shared : ℕ) (out : contains p addr ≡ false) (in_p : shared ≤ p.len) (same : leading_bits shared p.addr ≡ leading_bits shared addr) (parted : shared < p.len → leading_bits (shared + 1) p.addr ≢ leading_bits (shared + 1) addr) where
      under : IsUpTo p (network addr limit)
      under = subst (λ (q : IpPrefix). IsUpTo q (network addr limit)) (read_at x) (up_to_of (get_or es (count - 1) x).0.prefix (network addr limit) (end.0 (count - 1) x (omega arith) (omega (arith, some))))

      fewer_than : (n : ℕ) → leading_bits n p.addr ≡ leading_bits n addr → n ≤ 128 → n < p.len
      fewer_than n bits short = elim (cases_lt n p.len) [
        | inl less ↦ less
        | inr ge ↦
            let yes = eq-eqb _ _ (sym (share_fewer p.len n p.addr addr ge short bits)) in
            let clash : true ≡ false = sym yes ∙ out in
            cc
      ]

      pub falls : shared < limit
      falls = elim (cases_lt shared limit) [
        | inl less ↦ less
        | inr ge ↦
            let bits : leading_bits limit p.addr ≡ leading_bits limit addr = share_fewer limit shared p.addr addr ge (omega (arith, in_p, known_p.short)) same in
            let at : network_of addr limit ≡ leading_bits limit p.addr * block_size limit = ap (λ (t : ℕ). t * block_size limit) (sym bits) in
            let le : network_of addr limit ≤ p.addr = omega (arith, at, div-mul-le_self p.addr (block_size limit)) in
            let whole : p.addr ≡ network_of addr limit = omega (arith, le, under.low) in
            absurd (omega (arith, under.short whole, fewer_than limit bits (omega (arith, is.short, is.narrow))))
      ]

      pub IsLimit-miss : IsLimit w es addr shared
      IsLimit-miss = record {
        sorted = is.sorted;
        known = is.known;
        short = omega (arith, falls, is.short);
        narrow = is.narrow;
        bound = λ k d lt in_k. no_longer_than_shared addr shared (get_or es k d).0.prefix p (is.known k d lt) in_k (up_to_p k d lt in_k) (omega (arith, under.low, div-mul-le_self addr (block_size limit))) (parted (fewer_than shared same (omega (arith, in_p, known_p.short))));
      }
