-- The longest prefix that covers those of a list in order, and the list in parts around it.
use Rattle.std.proofs.Common.{◌≡◌, ◌≢◌, ℕ, ◌+◌, ◌-◌, ◌*◌, ◌/◌, ◌^◌, ◌<◌, ◌≤◌, Bool, true, false, if◌then◌else◌, ◌&&◌, eqb, ltb, List, [], ◌∷◌, ◌++◌, length, get_or, take, drop, T, refl, sym, ap, subst, ◌∙◌, arith, ◌⊎◌, inl, inr, get_or-take, get_or-drop, length-drop, length-take, pow-suc, append_assoc, not, ◌||◌}
use Rattle.std.proofs.lemmas.Bool.{cases_lt, cases_order, eqb-true, eq-eqb, le-leb, le-ltb, lt-ltb, ne_eqb, leb-true, and_parts, and_from, ltb-true, ltb-false}
use Rattle.std.proofs.lemmas.List.{get_or_default, take-append-drop, take-take}
use Rattle.std.proofs.lemmas.Nat.{le-div, div_below, pow_pos}
use Rattle.std.proofs.Math.Nat.{div-mul-le_self}
use Rattle.std.specs.List.{All, Any}
use Rattle.std.specs.List.Sorted.{IsPartitionPoint, IsPartitionedBy}
use Rattle.std.proofs.lemmas.List.Sorted.{IsPartitionedBy-ltb}
use Rattle.std.specs.Ordering.{nat_cmp, ordering_then, is_le}
use Rattle.std.specs.declared.cmp.Ordering.TheVariants.{Less, Equal, Greater}
use Rattle.std.specs.Cmp.{ranked}
use Rattle.std.specs.FinMap.{is_sorted}
use Rattle.std.specs.declared.cmp.Ordering.{Ordering}
use Rattle.bgp_prefix.specs.Prefixes.{IpPrefix, IsIpPrefix, leading_bits, network_of, block_size, covers, prefix_eq, Starts, prefix_cmp}
use Rattle.bgp_prefix.specs.Keys.{key_cmp, is_nil, RouteKey}
use Rattle.prefix_maps.specs.Splits.{upper_half, IsCover, IsSplit, IsOfOnePrefix}
use Rattle.bgp_prefix.proofs.Bits.{share_fewer, network_bits, IsIpPrefix-network, half, network_below}
use Rattle.bgp_prefix.proofs.KeyLaws.{key_cmp_total, same_prefix, other_prefix}
use Rattle.prefix_maps.proofs.NetworkLaws.{network, network_is, same_itself}
use Rattle.bgp_prefix.proofs.SearchLaws.{sorted_at}
use Rattle.prefix_maps.proofs.OrderLaws.{sorted_parts}

-- p comes before q in the order of prefixes, or is q
pub record IsUpTo (p q : IpPrefix) : Type 0 where
  pub low : p.addr ≤ q.addr
  pub short : p.addr ≡ q.addr → p.len ≤ q.len

up_to_itself : (p : IpPrefix) → IsUpTo p p
up_to_itself p = record { low = omega arith; short = λ same. omega arith }

pub up_to_of : (p q : IpPrefix) → is_le (prefix_cmp p q) ≡ true → IsUpTo p q
up_to_of p q le = elim (nat_cmp p.addr q.addr) as (λ r. nat_cmp p.addr q.addr ≡ r → is_le (ordering_then r (nat_cmp p.len q.len)) ≡ true → IsUpTo p q) [
  | Less ↦ λ e h. let lt : p.addr < q.addr = ranked p.addr q.addr Less (sym e) in record { low = omega arith; short = λ same. absurd (omega arith) }
  | Equal ↦ λ e h.
      let same : p.addr ≡ q.addr = ranked p.addr q.addr Equal (sym e) in
      elim (nat_cmp p.len q.len) as (λ r. nat_cmp p.len q.len ≡ r → is_le r ≡ true → IsUpTo p q) [
        | Less ↦ λ f k. let lt : p.len < q.len = ranked p.len q.len Less (sym f) in record { low = omega arith; short = λ _. omega arith }
        | Equal ↦ λ f k. let eq : p.len ≡ q.len = ranked p.len q.len Equal (sym f) in record { low = omega arith; short = λ _. omega arith }
        | Greater ↦ λ f k. cc
      ] refl h
  | Greater ↦ λ e h. cc
] refl le

le_then : (r o : Ordering) → ordering_then r o ≡ Less → is_le r ≡ true
le_then Less o e = refl
le_then Equal o e = refl
le_then Greater o e = cc

up_to_less : (j k : RouteKey) → key_cmp j k ≡ Less → IsUpTo j.prefix k.prefix
up_to_less j k less = up_to_of j.prefix k.prefix (le_then (prefix_cmp j.prefix k.prefix) (nat_cmp j.id k.id) less)

-- the prefixes of a list in order
pub rise : {V : Type 0} (es : List (RouteKey × V)) (i j : ℕ) (d : RouteKey × V) → T (is_sorted key_cmp es) → i ≤ j → j < length es → IsUpTo (get_or es i d).0.prefix (get_or es j d).0.prefix
rise es i j d sorted le in_range = elim (cases_order i j) [
  | inl same ↦ rw same (up_to_itself (get_or es j d).0.prefix)
  | inr (inl lt) ↦ up_to_less (get_or es i d).0 (get_or es j d).0 (sorted_at key_cmp key_cmp_total es i j d sorted lt in_range)
  | inr (inr gt) ↦ absurd (omega (arith, le, gt))
]

pub bits_rise : (n a b : ℕ) → a ≤ b → leading_bits n a ≤ leading_bits n b
bits_rise n a b le = le-div (leading_bits n a) b (block_size n) (pow_pos (128 - n)) (omega (arith, le, div-mul-le_self a (block_size n)))

-- an address between two that share bits shares them
pub share_between : (n a b c : ℕ) → a ≤ b → b ≤ c → leading_bits n a ≡ leading_bits n c → leading_bits n b ≡ leading_bits n a
share_between n a b c low high same = omega (arith, same, bits_rise n a b low, bits_rise n b c high)

-- the next bit is one of two
pub next_of : (n a : ℕ) → n < 128 → (leading_bits (n + 1) a ≡ 2 * leading_bits n a) ⊎ (leading_bits (n + 1) a ≡ 2 * leading_bits n a + 1)
next_of n a short =
    let up = half a n short in
    elim (cases_lt (leading_bits (n + 1) a) (2 * leading_bits n a + 1)) [ inl lt ↦ inl (omega (arith, lt, up)) | inr ge ↦ inr (omega (arith, ge, up)) ]

-- the prefix of an address of its own
own_network : (p : IpPrefix) → IsIpPrefix p → p ≡ network p.addr p.len
own_network p known = network_is p.addr p known (eq-eqb (leading_bits p.len p.addr) (leading_bits p.len p.addr) refl)

-- a prefix whose bits another address has is no higher
pub below_network : (p : IpPrefix) (n a : ℕ) → IsIpPrefix p → p.len ≤ n → n ≤ 128 → leading_bits n p.addr ≡ leading_bits n a → p.addr ≤ a
below_network p n a known shorter short same = network_below p a known (sym (share_fewer p.len n p.addr a shorter short same))

-- the first and the last prefix of a list in order, which share n bits and no more
module _ (f l : IpPrefix) (n : ℕ) (known_f : IsIpPrefix f) (known_l : IsIpPrefix l) (in_f : n ≤ f.len) (in_l : n ≤ l.len) (shared : leading_bits n f.addr ≡ leading_bits n l.addr) (longest : n < f.len → n < l.len → leading_bits (n + 1) f.addr ≢ leading_bits (n + 1) l.addr) (order : IsUpTo f l) (apart : f ≢ l) where
  abbrev cover : IpPrefix
  cover = network f.addr n

  longer_last : n < l.len
  longer_last = elim (cases_lt n l.len) [
    | inl lt ↦ lt
    | inr ge ↦
        let le : l.addr ≤ f.addr = below_network l n f.addr known_l ge (omega (arith, known_f.short, in_f)) (sym shared) in
        let addr : f.addr ≡ l.addr = omega (arith, le, order.low) in
        let len : f.len ≡ l.len = omega (arith, order.short addr, ge, in_f) in
        absurd (apart (λ i. record { addr = addr i; len = len i }))
  ]

  IsIpPrefix-cover : IsIpPrefix cover
  IsIpPrefix-cover = IsIpPrefix-network f.addr n known_f.fits (omega (arith, known_f.short, in_f))

  own_bits : leading_bits n cover.addr ≡ leading_bits n f.addr
  own_bits = network_bits f.addr n

  -- it covers each prefix between the two
  covers_between : (p : IpPrefix) → IsIpPrefix p → IsUpTo f p → IsUpTo p l → covers cover p ≡ true
  covers_between p known low high =
      let same : leading_bits n p.addr ≡ leading_bits n f.addr = share_between n f.addr p.addr l.addr low.low high.low shared in
      let long : n ≤ p.len = elim (cases_lt p.len n) [
        | inl lt ↦
            let le : p.addr ≤ f.addr = below_network p n f.addr known (omega (arith, lt)) (omega (arith, known_f.short, in_f)) same in
            let addr : f.addr ≡ p.addr = omega (arith, le, low.low) in
            absurd (omega (arith, low.short addr, lt, in_f))
        | inr ge ↦ ge
      ] in
      and_from _ _ (le-leb n p.len long) (eq-eqb _ _ (same ∙ sym own_bits))

  starts_cover : (len bits : ℕ) → Starts len bits f → Starts len bits l → Starts len bits cover
  starts_cover len bits of_f of_l = elim (cases_lt n len) [
    | inl lt ↦ absurd (longest (omega (arith, lt, of_f.long)) (omega (arith, lt, of_l.long)) (share_fewer (n + 1) len f.addr l.addr (omega (arith, lt)) (omega (arith, of_f.long, known_f.short)) (of_f.shared ∙ sym of_l.shared)))
    | inr le ↦ record { long = le; shared = share_fewer len n cover.addr f.addr le (omega (arith, known_f.short, in_f)) own_bits ∙ of_f.shared }
  ]

  -- it is the first, or its next bit parts the two
  parts_ends : (f ≡ cover) ⊎ (Starts (n + 1) (2 * leading_bits n cover.addr) f × Starts (n + 1) (2 * leading_bits n cover.addr + 1) l)
  parts_ends = elim (cases_lt n f.len) [
    | inl lt ↦
        let short : n < 128 = omega (arith, lt, known_f.short) in
        let rises = bits_rise (n + 1) f.addr l.addr order.low in
        let other = longest lt longer_last in
        elim (next_of n f.addr short) [
          | inl low ↦ elim (next_of n l.addr short) [
            | inl same ↦ absurd (other (low ∙ ap (λ (t : ℕ). 2 * t) shared ∙ sym same))
            | inr high ↦ inr (record { long = omega (arith, lt); shared = rw own_bits low }, record { long = omega (arith, longer_last); shared = rw (own_bits, shared) high })
          ]
          | inr high ↦ elim (next_of n l.addr short) [
            | inl low ↦ absurd (omega (arith, rises, high, low, shared))
            | inr same ↦ absurd (other (high ∙ ap (λ (t : ℕ). 2 * t + 1) shared ∙ sym same))
          ]
        ]
    | inr ge ↦ let same : f.len ≡ n = omega (arith, ge, in_f) in inl (own_network f known_f ∙ ap (network f.addr) same)
  ]

module _ {V : Type 0} (es : List (RouteKey × V)) (sorted : T (is_sorted key_cmp es)) (x y : RouteKey × V) (some : 0 < length es) (first : x ≡ get_or es 0 x) (last : y ≡ get_or es (length es - 1) y) where
  from_first : (k : ℕ) (d : RouteKey × V) → k < length es → IsUpTo x.0.prefix (get_or es k d).0.prefix
  from_first k d lt = subst (λ (e : RouteKey × V). IsUpTo e.0.prefix (get_or es k d).0.prefix) (get_or_default es 0 d x some ∙ sym first) (rise es 0 k d sorted (omega arith) lt)

  to_last : (k : ℕ) (d : RouteKey × V) → k < length es → IsUpTo (get_or es k d).0.prefix y.0.prefix
  to_last k d lt = subst (λ (e : RouteKey × V). IsUpTo (get_or es k d).0.prefix e.0.prefix) (get_or_default es (length es - 1) d y (omega (arith, some)) ∙ sym last) (rise es k (length es - 1) d sorted (omega (arith, lt)) (omega (arith, some)))

  pub one_of : prefix_eq x.0.prefix y.0.prefix ≡ true → IsOfOnePrefix es
  one_of e = (
    x.0.prefix,
    λ k d lt.
        let p = (get_or es k d).0.prefix in
        let same : x.0.prefix ≡ y.0.prefix = same_prefix x.0.prefix y.0.prefix e in
        let low : IsUpTo x.0.prefix p = from_first k d lt in
        let high : IsUpTo p x.0.prefix = subst (IsUpTo p) (sym same) (to_last k d lt) in
        let addr : p.addr ≡ x.0.prefix.addr = omega (arith, low.low, high.low) in
        let len : p.len ≡ x.0.prefix.len = omega (arith, low.short (sym addr), high.short addr) in
        λ i. record { addr = addr i; len = len i },
  )

  pub cover_of : (n : ℕ) → All (λ e. IsIpPrefix e.0.prefix) es → prefix_eq x.0.prefix y.0.prefix ≡ false → n ≤ x.0.prefix.len → n ≤ y.0.prefix.len → leading_bits n x.0.prefix.addr ≡ leading_bits n y.0.prefix.addr → (n < x.0.prefix.len → n < y.0.prefix.len → leading_bits (n + 1) x.0.prefix.addr ≢ leading_bits (n + 1) y.0.prefix.addr) → IsCover es (network x.0.prefix.addr n)
  cover_of n known other in_x in_y shared longest =
      let f = x.0.prefix in
      let l = y.0.prefix in
      let known_f : IsIpPrefix f = subst (λ (e : RouteKey × V). IsIpPrefix e.0.prefix) (sym first) (known 0 x some) in
      let known_l : IsIpPrefix l = subst (λ (e : RouteKey × V). IsIpPrefix e.0.prefix) (sym last) (known (length es - 1) y (omega (arith, some))) in
      let order : IsUpTo f l = subst (λ (e : RouteKey × V). IsUpTo f e.0.prefix) (sym last) (from_first (length es - 1) y (omega (arith, some))) in
      let apart : f ≢ l = λ same. other_prefix f l other (sym same) in
      let longer = longer_last f l n known_f known_l in_x in_y shared longest order apart in
      record {
        known = IsIpPrefix-cover f l n known_f known_l in_x in_y shared longest order apart;
        short = omega (arith, longer, known_l.short);
        covered = λ k d lt. covers_between f l n known_f known_l in_x in_y shared longest order apart (get_or es k d).0.prefix (known k d lt) (from_first k d lt) (to_last k d lt);
        under = λ len bits all. starts_cover f l n known_f known_l in_x in_y shared longest order apart len bits (subst (λ (e : RouteKey × V). Starts len bits e.0.prefix) (sym first) (all 0 x some)) (subst (λ (e : RouteKey × V). Starts len bits e.0.prefix) (sym last) (all (length es - 1) y (omega (arith, some))));
        parted = elim (parts_ends f l n known_f known_l in_x in_y shared longest order apart) [
          | inl own ↦ inl (0, x, some, sym first, own)
          | inr ends ↦ inr ((0, x, some, sym first, ends.0), (length es - 1, y, omega (arith, some), sym last, ends.1))
        ];
      }

-- twice as many addresses with a bit less
twice_block : (n : ℕ) → n < 128 → 2 ^ (128 - n) ≡ 2 * 2 ^ (127 - n)
twice_block n short = ap (λ (k : ℕ). 2 ^ k) (omega (arith, short)) ∙ pow-suc 2 (127 - n) ∙ omega arith

module _ (at p : IpPrefix) (known_at : IsIpPrefix at) (short : at.len < 128) (known : IsIpPrefix p) (covered : covers at p ≡ true) where
  not_shorter : at.len ≤ p.len
  not_shorter = leb-true at.len p.len (and_parts _ _ covered).0

  same_bits : leading_bits at.len p.addr ≡ leading_bits at.len at.addr
  same_bits = eqb-true _ _ (and_parts _ _ covered).1

  pub no_lower : at.addr ≤ p.addr
  no_lower = below_network at at.len p.addr known_at (omega arith) (omega (arith, short)) (sym same_bits)

  pub of_own_length : p.len ≤ at.len → p ≡ at
  of_own_length le =
      let len : p.len ≡ at.len = omega (arith, le, not_shorter) in
      let addr : p.addr ≡ at.addr = sym known.cleared ∙ ap (network_of p.addr) len ∙ ap (λ (t : ℕ). t * block_size at.len) same_bits ∙ known_at.cleared in
      λ i. record { addr = addr i; len = len i }

  longer : prefix_eq p at ≡ false → at.len < p.len
  longer other = elim (cases_lt at.len p.len) [ inl lt ↦ lt | inr ge ↦ absurd (other_prefix p at other (sym (of_own_length ge))) ]

  half_is : upper_half at ≡ (2 * leading_bits at.len at.addr + 1) * 2 ^ (127 - at.len)
  half_is =
      let own : leading_bits at.len at.addr * (2 * 2 ^ (127 - at.len)) ≡ at.addr = ap (λ (t : ℕ). leading_bits at.len at.addr * t) (sym (twice_block at.len short)) ∙ known_at.cleared in
      omega (arith, own)

  one_more : leading_bits (at.len + 1) p.addr ≡ p.addr / 2 ^ (127 - at.len)
  one_more = ap (λ (k : ℕ). p.addr / 2 ^ k) (omega arith)

  -- the next bit of an address below the half, and of one that isn't
  low_bit : p.addr < upper_half at → leading_bits (at.len + 1) p.addr ≡ 2 * leading_bits at.len at.addr
  low_bit below =
      let lt : p.addr / 2 ^ (127 - at.len) < 2 * leading_bits at.len at.addr + 1 = div_below p.addr (2 ^ (127 - at.len)) (2 * leading_bits at.len at.addr + 1) (pow_pos (127 - at.len)) (omega (arith, below, half_is)) in
      elim (next_of at.len p.addr short) [
        | inl low ↦ low ∙ ap (λ (t : ℕ). 2 * t) same_bits
        | inr high ↦ absurd (omega (arith, lt, one_more, high, same_bits))
      ]

  high_bit : upper_half at ≤ p.addr → leading_bits (at.len + 1) p.addr ≡ 2 * leading_bits at.len at.addr + 1
  high_bit above =
      let le : 2 * leading_bits at.len at.addr + 1 ≤ p.addr / 2 ^ (127 - at.len) = le-div (2 * leading_bits at.len at.addr + 1) p.addr (2 ^ (127 - at.len)) (pow_pos (127 - at.len)) (omega (arith, above, half_is)) in
      elim (next_of at.len p.addr short) [
        | inl low ↦ absurd (omega (arith, le, one_more, low, same_bits))
        | inr high ↦ high ∙ ap (λ (t : ℕ). 2 * t + 1) same_bits
      ]

  pub starts_low : prefix_eq p at ≡ false → p.addr < upper_half at → Starts (at.len + 1) (2 * leading_bits at.len at.addr) p
  starts_low other below = record { long = omega (arith, longer other); shared = low_bit below }

  pub starts_high : upper_half at ≤ p.addr → Starts (at.len + 1) (2 * leading_bits at.len at.addr + 1) p
  starts_high above =
      let some : 0 < 2 ^ (127 - at.len) = pow_pos (127 - at.len) in
      record {
        long = elim (cases_lt at.len p.len) [
          | inl lt ↦ omega (arith, lt)
          | inr ge ↦ absurd (let same : p.addr ≡ at.addr = ap (λ (q : IpPrefix). q.addr) (of_own_length ge) in omega (arith, same, above, some))
        ];
        shared = high_bit above;
      }

  -- the next bit tells on which side of the half the address lies
  pub bit_is : eqb (leading_bits (at.len + 1) p.addr) (2 * leading_bits at.len p.addr) ≡ ltb p.addr (upper_half at)
  bit_is = elim (cases_lt p.addr (upper_half at)) [
    | inl below ↦ eq-eqb _ _ (low_bit below ∙ ap (λ (t : ℕ). 2 * t) (sym same_bits)) ∙ sym (lt-ltb _ _ below)
    | inr above ↦ ne_eqb _ _ (λ e. omega (arith, e, high_bit above, same_bits)) ∙ sym (le-ltb _ _ above)
  ]

pub by_bit : (r : Bool) (x y : ℕ) → x ≡ 2 * y + (if r then 0 else 1) → r ≡ eqb x (2 * y)
by_bit true x y e = sym (eq-eqb _ _ (omega (arith, e)))
by_bit false x y e = sym (ne_eqb _ _ (λ same. omega (arith, e, same)))

one_of_some : {X : Type 0} (xs : List X) → 0 < length xs → X
one_of_some [] h = absurd (omega (arith, h))
one_of_some (x ∷ xs) h = x

held_here : {X : Type 0} (xs ys zs : List X) → 0 < length xs → T (not (is_nil xs) || (not (is_nil ys) && not (is_nil zs)))
held_here [] ys zs h = absurd (omega (arith, h))
held_here (x ∷ xs) ys zs h = tt

held_below : {X : Type 0} (xs ys zs : List X) → 0 < length ys → 0 < length zs → T (not (is_nil xs) || (not (is_nil ys) && not (is_nil zs)))
held_below xs [] zs h k = absurd (omega (arith, h))
held_below xs (y ∷ ys) [] h k = absurd (omega (arith, k))
held_below [] (y ∷ ys) (z ∷ zs) h k = tt
held_below (x ∷ xs) (y ∷ ys) (z ∷ zs) h k = tt

module _ {V : Type 0} (es : List (RouteKey × V)) (at : IpPrefix) (sorted : T (is_sorted key_cmp es)) (known : All (λ e. IsIpPrefix e.0.prefix) es) (is : IsCover es at) where
  -- the routes of the prefix stand in front, and after them those of a next bit of 0
  pub own_in_front : IsPartitionedBy (λ e. prefix_eq e.0.prefix at) es
  own_in_front i j d le lt own =
      let p = (get_or es i d).0.prefix in
      let q = (get_or es j d).0.prefix in
      let same : q ≡ at = same_prefix q at own in
      let up : IsUpTo p at = subst (IsUpTo p) same (rise es i j d sorted le lt) in
      let inside : i < length es = omega (arith, le, lt) in
      let low = no_lower at p is.known is.short (known i d inside) (is.covered i d inside) in
      let addr : p.addr ≡ at.addr = omega (arith, low, up.low) in
      let here : p ≡ at = of_own_length at p is.known is.short (known i d inside) (is.covered i d inside) (up.short addr) in
      subst (λ (r : IpPrefix). prefix_eq r at ≡ true) (sym here) (same_itself at)

  -- the next bit is 0
  abbrev pub is_low : RouteKey × V → Bool
  is_low e = eqb (leading_bits (at.len + 1) e.0.prefix.addr) (2 * leading_bits at.len e.0.prefix.addr)

  low_is : (k : ℕ) (d : RouteKey × V) → k < length es → is_low (get_or es k d) ≡ ltb (get_or es k d).0.prefix.addr (upper_half at)
  low_is k d lt = bit_is at (get_or es k d).0.prefix is.known is.short (known k d lt) (is.covered k d lt)

  pub low_first : IsPartitionedBy is_low es
  low_first i j d le lt low =
      low_is i d (omega (arith, le, lt))
      ∙ IsPartitionedBy-ltb (λ (e : RouteKey × V). e.0.prefix.addr) es (upper_half at) (λ i j d le lt. (rise es i j d sorted le lt).low) i j d le lt (sym (low_is j d lt) ∙ low)

  pub low_end_is : (n : ℕ) → n ≤ length es → IsPartitionPoint (λ e. is_low e ≡ true) (λ e. is_low e ≡ false) es n → IsPartitionPoint (λ e. ltb e.0.prefix.addr (upper_half at) ≡ true) (λ e. ltb e.0.prefix.addr (upper_half at) ≡ false) es n
  low_end_is n inside point =
      (λ k d low high. sym (low_is k d (omega (arith, inside, high))) ∙ point.0 k d low high, λ k d low high. sym (low_is k d high) ∙ point.1 k d low high)

  module _ (own lower : ℕ) (own_in : own ≤ length es) (lower_in : lower ≤ length es) (owns : IsPartitionPoint (λ e. prefix_eq e.0.prefix at ≡ true) (λ e. prefix_eq e.0.prefix at ≡ false) es own) (lowers : IsPartitionPoint (λ e. ltb e.0.prefix.addr (upper_half at) ≡ true) (λ e. ltb e.0.prefix.addr (upper_half at) ≡ false) es lower) where
    here : (k : ℕ) (d : RouteKey × V) → k < own → (get_or es k d).0.prefix ≡ at
    here k d lt = same_prefix _ at (owns.0 k d (omega arith) lt)

    not_own : (k : ℕ) (d : RouteKey × V) (bits : ℕ) → Starts (at.len + 1) bits (get_or es k d).0.prefix → own ≤ k
    not_own k d bits s = elim (cases_lt k own) [
      | inl lt ↦ let long : at.len + 1 ≤ at.len = subst (λ (p : IpPrefix). at.len + 1 ≤ p.len) (here k d lt) s.long in absurd (omega (arith, long))
      | inr ge ↦ ge
    ]

    low_at : (k : ℕ) (d : RouteKey × V) → own ≤ k → k < lower → Starts (at.len + 1) (2 * leading_bits at.len at.addr) (get_or es k d).0.prefix
    low_at k d ge lt =
        let inside : k < length es = omega (arith, lt, lower_in) in
        starts_low at (get_or es k d).0.prefix is.known is.short (known k d inside) (is.covered k d inside) (owns.1 k d ge inside) (ltb-true _ _ (lowers.0 k d (omega arith) lt))

    high_at : (k : ℕ) (d : RouteKey × V) → lower ≤ k → k < length es → Starts (at.len + 1) (2 * leading_bits at.len at.addr + 1) (get_or es k d).0.prefix
    high_at k d ge inside = starts_high at (get_or es k d).0.prefix is.known is.short (known k d inside) (is.covered k d inside) (ltb-false _ _ (lowers.1 k d ge inside))

    pub own_first : own ≤ lower
    own_first = elim (cases_lt lower own) [
      | inl lt ↦
          let inside : lower < length es = omega (arith, lt, own_in) in
          let d = one_of_some es (omega (arith, inside)) in
          absurd (omega (arith, lt, not_own lower d _ (high_at lower d (omega arith) inside)))
      | inr ge ↦ ge
    ]

    in_low : (k : ℕ) (d : RouteKey × V) → k < length (drop own (take lower es)) → Starts (at.len + 1) (2 * leading_bits at.len at.addr) (get_or (drop own (take lower es)) k d).0.prefix
    in_low k d lt =
        let inside : own + k < lower = omega (arith, lt, length-drop own (take lower es), length-take lower es) in
        subst (λ (e : RouteKey × V). Starts (at.len + 1) (2 * leading_bits at.len at.addr) e.0.prefix) (sym (get_or-drop own (take lower es) k d ∙ get_or-take lower es (own + k) d inside)) (low_at (own + k) d (omega arith) inside)

    in_high : (k : ℕ) (d : RouteKey × V) → k < length (drop lower es) → Starts (at.len + 1) (2 * leading_bits at.len at.addr + 1) (get_or (drop lower es) k d).0.prefix
    in_high k d lt =
        subst (λ (e : RouteKey × V). Starts (at.len + 1) (2 * leading_bits at.len at.addr + 1) e.0.prefix) (sym (get_or-drop lower es k d)) (high_at (lower + k) d (omega arith) (omega (arith, lt, length-drop lower es)))

    in_parts : take own es ++ (drop own (take lower es) ++ drop lower es) ≡ es
    in_parts =
        sym (append_assoc (take own es) (drop own (take lower es)) (drop lower es))
        ∙ ap (λ (xs : List (RouteKey × V)). (xs ++ drop own (take lower es)) ++ drop lower es) (sym (take-take own lower es own_first))
        ∙ ap (λ (xs : List (RouteKey × V)). xs ++ drop lower es) (take-append-drop own (take lower es))
        ∙ take-append-drop lower es

    some_here : Any (λ e. e.0.prefix ≡ at) es → 0 < own
    some_here any = elim (cases_lt any.0 own) [
      | inl lt ↦ omega (arith, lt)
      | inr ge ↦
          let read : get_or es any.0 any.1 ≡ any.1 = any.3 in
          let other = owns.1 any.0 any.1 ge any.2 in
          absurd (other_prefix _ at other (sym (ap (λ (e : RouteKey × V). e.0.prefix) read ∙ any.4)))
    ]

    some_low : Any (λ e. Starts (at.len + 1) (2 * leading_bits at.len at.addr) e.0.prefix) es → own < lower
    some_low any =
        let s = subst (λ (e : RouteKey × V). Starts (at.len + 1) (2 * leading_bits at.len at.addr) e.0.prefix) (sym any.3) any.4 in
        let from = not_own any.0 any.1 _ s in
        elim (cases_lt any.0 lower) [
          | inl lt ↦ omega (arith, lt, from)
          | inr ge ↦ absurd (omega (arith, s.shared, (high_at any.0 any.1 ge any.2).shared))
        ]

    some_high : Any (λ e. Starts (at.len + 1) (2 * leading_bits at.len at.addr + 1) e.0.prefix) es → lower < length es
    some_high any =
        let s = subst (λ (e : RouteKey × V). Starts (at.len + 1) (2 * leading_bits at.len at.addr + 1) e.0.prefix) (sym any.3) any.4 in
        let from = not_own any.0 any.1 _ s in
        elim (cases_lt any.0 lower) [
          | inl lt ↦ absurd (omega (arith, s.shared, (low_at any.0 any.1 from lt).shared))
          | inr ge ↦ omega (arith, ge, any.2)
        ]

    pub split_of : IsSplit es at (take own es) (drop own (take lower es)) (drop lower es)
    split_of = record {
      known = is.known;
      short = is.short;
      all = in_parts;
      own = λ k d lt. let inside : k < own = omega (arith, lt, length-take own es) in ap (λ (e : RouteKey × V). e.0.prefix) (get_or-take own es k d inside) ∙ here k d inside;
      lower = in_low;
      higher = in_high;
      held = elim is.parted [
        | inl own_one ↦ held_here (take own es) (drop own (take lower es)) (drop lower es) (omega (arith, some_here own_one, length-take own es, own_in))
        | inr ends ↦ held_below (take own es) (drop own (take lower es)) (drop lower es) (omega (arith, some_low ends.0, length-drop own (take lower es), length-take lower es, lower_in)) (omega (arith, some_high ends.1, length-drop lower es))
      ];
      under = is.under;
    }

    -- each part is in order
    pub sorted_here : T (is_sorted key_cmp (take own es))
    sorted_here = (sorted_parts (take own es) _ (subst (λ (xs : List (RouteKey × V)). T (is_sorted key_cmp xs)) (sym in_parts) sorted)).0

    sorted_rest : T (is_sorted key_cmp (drop own (take lower es) ++ drop lower es))
    sorted_rest = (sorted_parts (take own es) _ (subst (λ (xs : List (RouteKey × V)). T (is_sorted key_cmp xs)) (sym in_parts) sorted)).1

    pub sorted_low : T (is_sorted key_cmp (drop own (take lower es)))
    sorted_low = (sorted_parts (drop own (take lower es)) (drop lower es) sorted_rest).0

    pub sorted_high : T (is_sorted key_cmp (drop lower es))
    sorted_high = (sorted_parts (drop own (take lower es)) (drop lower es) sorted_rest).1
