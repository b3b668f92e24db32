-- Prefixes in order: a search finds what is named, what covers and what is covered.
use Rattle.std.proofs.Common.{append-nil, ◌≡◌, ℕ, ◌+◌, ◌-◌, ◌<◌, ◌≤◌, Bool, true, false, cond, ◌&&◌, ◌||◌, List, [], ◌∷◌, ◌++◌, length, take, map, get_or, Result, Ok, Err, refl, sym, ap, subst, ◌∙◌, arith, inl, inr}
use Rattle.std.specs.Prelude.{is_ok}
use Rattle.std.specs.List.{HoldsAt, filter, list_any}
use Rattle.std.specs.List.Sorted.{IsPermutation, IsPartitionPoint, IsSearchInRange, IsBinarySearchResult}
use Rattle.std.specs.declared.cmp.Ordering.TheVariants.{Less, Equal, Greater}
use Rattle.std.specs.Ordering.{nat_cmp, is_lt, ordering_then, ordering_reverse}
use Rattle.std.proofs.lemmas.Bool.{cases_lt, lt-ltb, leb-true, le-leb, eqb-true, eq-eqb, and_parts, and_from}
use Rattle.std.proofs.lemmas.Cmp.{tied_itself, nat_cmp_total}
use Rattle.std.proofs.lemmas.Nat.{le-div, pow_pos}
use Rattle.std.proofs.lemmas.List.{get_or_append_left, get_or_default, get_or_push, set-get_or, take_more_set, map-append, length-append}
use Rattle.std.proofs.lemmas.List.Elements.{All-push, filter-append}
use Rattle.std.proofs.lemmas.List.Folds.{list_any-append, list_any_none, list_any_at, list_any_more}
use Rattle.std.proofs.lemmas.List.Kept.{IsSortedBy-push}
use Rattle.std.proofs.lemmas.List.Sorted.{ranks_by, sorted_far, searchable_from_sorted, list_any-IsPermutation}
use Rattle.std.proofs.Math.Nat.{div-mul-le_self}
use Rattle.bgp_prefix.specs.Prefixes.{IpPrefix, IsIpPrefix, leading_bits, block_size, prefix_cmp, prefix_eq, covers}
use Rattle.bgp_prefix.proofs.Bits.{share_fewer, network_below}
use Rattle.bgp_prefix.proofs.KeyLaws.{prefix_cmp_total, prefix_cmp_exact}
use Rattle.peer_units.specs.declared.choice.Reach.{Reach}
use Rattle.peer_units.specs.declared.choice.Reach.TheVariants.{Exact, Inside, Around}
use Rattle.peer_units.specs.Plain.{PrefixChoice}
use Rattle.peer_units.specs.Choices.{stands_by, takes_prefix}
use Rattle.peer_units.specs.Named.{same_reach, named_as, is_named, is_inside, is_around, InOrder, AreApart, StandFor}

-- ---- two prefixes

-- p isn't behind q
abbrev pub Before : IpPrefix → IpPrefix → Type 0
Before p q = is_lt (prefix_cmp q p) ≡ false

number_less : (a b : ℕ) → a < b → nat_cmp a b ≡ Less
number_less a b h = rw (lt-ltb a b h) refl

number_same : (a b : ℕ) → a ≡ b → nat_cmp a b ≡ Equal
number_same a b same = ap (nat_cmp a) (sym same) ∙ tied_itself nat_cmp_total a

not_both : (b : Bool) → b ≡ true → b ≡ false → ⊥
not_both b pass fail = let clash : true ≡ false = sym pass ∙ fail in cc

not_true : (b : Bool) → (b ≡ true → ⊥) → b ≡ false
not_true true h = absurd (h refl)
not_true false h = refl

or_false : (b : Bool) → (b || false) ≡ b
or_false true = refl
or_false false = refl

addr_up : (p q : IpPrefix) → Before p q → p.addr ≤ q.addr
addr_up p q h = elim (cases_lt q.addr p.addr) [
  | inl lt ↦ absurd (not_both (is_lt (prefix_cmp q p)) (ap (λ r. is_lt (ordering_then r (nat_cmp q.len p.len))) (number_less q.addr p.addr lt)) h)
  | inr ge ↦ ge
]

len_up : (p q : IpPrefix) → Before p q → p.addr ≡ q.addr → p.len ≤ q.len
len_up p q h same = elim (cases_lt q.len p.len) [
  | inl lt ↦ absurd (not_both (is_lt (prefix_cmp q p)) (ap (λ r. is_lt (ordering_then r (nat_cmp q.len p.len))) (number_same q.addr p.addr (sym same)) ∙ ap is_lt (number_less q.len p.len lt)) h)
  | inr ge ↦ ge
]

less_up : (p q : IpPrefix) → prefix_cmp p q ≡ Less → Before p q
less_up p q h = ap is_lt (prefix_cmp_total.antisymm q p ∙ ap ordering_reverse h)

both_up : (p q : IpPrefix) → p.addr ≤ q.addr → p.len ≤ q.len → Before p q
both_up p q a l = elim (cases_lt p.addr q.addr) [
  | inl lt ↦ less_up p q (ap (λ r. ordering_then r (nat_cmp p.len q.len)) (number_less p.addr q.addr lt))
  | inr ge ↦
      let same : p.addr ≡ q.addr = omega (arith, a, ge) in
      elim (cases_lt p.len q.len) [
        | inl shorter ↦ less_up p q (ap (λ r. ordering_then r (nat_cmp p.len q.len)) (number_same p.addr q.addr same) ∙ number_less p.len q.len shorter)
        | inr longer ↦
            let equal : p.len ≡ q.len = omega (arith, l, longer) in
            ap (λ r. is_lt (ordering_then r (nat_cmp q.len p.len))) (number_same q.addr p.addr (sym same)) ∙ ap is_lt (number_same q.len p.len (sym equal))
      ]
]

covers_parts : (p q : IpPrefix) → covers p q ≡ true → (p.len ≤ q.len) × (leading_bits p.len q.addr ≡ leading_bits p.len p.addr)
covers_parts p q h = let parts = and_parts _ _ h in (leb-true p.len q.len parts.0, eqb-true _ _ parts.1)

covers_from : (p q : IpPrefix) → p.len ≤ q.len → leading_bits p.len q.addr ≡ leading_bits p.len p.addr → covers p q ≡ true
covers_from p q short shared = and_from _ _ (le-leb p.len q.len short) (eq-eqb _ _ shared)

covers_itself : (p : IpPrefix) → covers p p ≡ true
covers_itself p = covers_from p p (omega arith) refl

same_itself : (p : IpPrefix) → prefix_eq p p ≡ true
same_itself p = and_from _ _ (eq-eqb p.addr p.addr refl) (eq-eqb p.len p.len refl)

-- a prefix isn't behind what it covers
covers_up : (p q : IpPrefix) → IsIpPrefix p → covers p q ≡ true → Before p q
covers_up p q known h = let parts = covers_parts p q h in both_up p q (network_below p q.addr known parts.1) parts.0

covers_through : (p q r : IpPrefix) → IsIpPrefix q → covers p q ≡ true → covers q r ≡ true → covers p r ≡ true
covers_through p q r known h i =
    let first = covers_parts p q h in
    let second = covers_parts q r i in
    covers_from p r (omega (arith, first.0, second.0)) (share_fewer p.len q.len r.addr q.addr first.0 known.short second.1 ∙ first.1)

bits_up : (n a b : ℕ) → a ≤ b → leading_bits n a ≤ leading_bits n b
bits_up n a b h = le-div (leading_bits n a) b (block_size n) (pow_pos (128 - n)) (omega (arith, div-mul-le_self a (block_size n), h))

-- what covers a prefix covers each one between them
between : (c q p : IpPrefix) → IsIpPrefix c → IsIpPrefix q → Before c q → Before q p → covers c p ≡ true → covers c q ≡ true
between c q p known_c known_q low high h =
    let parts = covers_parts c p h in
    let from : leading_bits c.len c.addr ≤ leading_bits c.len q.addr = bits_up c.len c.addr q.addr (addr_up c q low) in
    let to : leading_bits c.len q.addr ≤ leading_bits c.len p.addr = bits_up c.len q.addr p.addr (addr_up q p high) in
    let shared : leading_bits c.len q.addr ≡ leading_bits c.len c.addr = omega (arith, from, to, parts.1) in
    let short : c.len ≤ q.len = elim (cases_lt q.len c.len) [
      | inl shorter ↦
          let fewer : leading_bits q.len q.addr ≡ leading_bits q.len c.addr = share_fewer q.len c.len q.addr c.addr (omega (arith, shorter)) known_c.short shared in
          let below : q.addr ≤ c.addr = network_below q c.addr known_q (sym fewer) in
          len_up c q low (omega (arith, below, addr_up c q low))
      | inr longer ↦ longer
    ] in
    covers_from c q short shared

-- ---- a search

module _ (names : List IpPrefix) (p : IpPrefix) (order : InOrder names) where
  abbrev pub Splits : ℕ → Type 0
  Splits n = IsPartitionPoint (λ y. prefix_cmp y p ≡ Less) (λ y. prefix_cmp y p ≡ Greater) names n

  pub splits : (n : ℕ) → (r : Result ℕ ℕ) → r ≡ Err n → IsBinarySearchResult (λ y. prefix_cmp y p) names r → Splits n
  splits n (Err m) is found = subst Splits (let same : m ≡ n = cc in same) (found (searchable_from_sorted prefix_cmp_total (λ q. q) names p order.sorted))
  splits n (Ok i) is found = cc

  rises : (i j : ℕ) (d : IpPrefix) → i ≤ j → j < length names → Before (get_or names i d) (get_or names j d)
  rises i j d le lt = sorted_far (λ x y. is_lt (prefix_cmp x y)) (ranks_by prefix_cmp_total (λ q. q)) names order.sorted i j d le lt

  passes : (test : IpPrefix → Bool) (i : ℕ) → i < length names → HoldsAt (λ y. prefix_cmp y p ≡ Equal) names i → test p ≡ true → list_any test names ≡ true
  passes test i lt here pass = list_any_at test names i p lt (subst (λ (y : IpPrefix). test y ≡ true) (sym (prefix_cmp_exact _ p (here p))) pass)

  -- what is before the prefix isn't covered by it
  earlier : (n j : ℕ) (d : IpPrefix) → IsIpPrefix p → Splits n → j < n → j < length names → covers p (get_or names j d) ≡ false
  earlier n j d known split lt inside = not_true _ (λ pass. not_both (is_lt (prefix_cmp (get_or names j d) p)) (ap is_lt (split.0 j d (omega arith) lt)) (covers_up p (get_or names j d) known pass))

  -- what is behind it doesn't cover it
  later : (n j : ℕ) (d : IpPrefix) → Splits n → n ≤ j → j < length names → covers (get_or names j d) p ≡ false
  later n j d split le inside = not_true _ (λ pass. not_both (is_lt (prefix_cmp p (get_or names j d))) (ap is_lt (prefix_cmp_total.antisymm p (get_or names j d) ∙ ap ordering_reverse (split.1 j d le inside))) (covers_up (get_or names j d) p (order.known j d inside) pass))

  -- another one than those
  apart : (n j : ℕ) (d : IpPrefix) → Splits n → j < length names → prefix_eq (get_or names j d) p ≡ false
  apart n j d split inside = not_true _ (λ pass.
      let parts = and_parts _ _ pass in
      let tied : prefix_cmp (get_or names j d) p ≡ Equal = ap (λ r. ordering_then r (nat_cmp (get_or names j d).len p.len)) (number_same (get_or names j d).addr p.addr (eqb-true _ _ parts.0)) ∙ number_same (get_or names j d).len p.len (eqb-true _ _ parts.1) in
      elim (cases_lt j n) [
        | inl lt ↦ let clash : Equal ≡ Less = sym tied ∙ split.0 j d (omega arith) lt in cc
        | inr ge ↦ let clash : Equal ≡ Greater = sym tied ∙ split.1 j d ge inside in cc
      ])

  pub found_named : (r : Result ℕ ℕ) → IsSearchInRange r (length names) → IsBinarySearchResult (λ y. prefix_cmp y p) names r → is_ok r ≡ is_named names p
  found_named (Ok i) range found = sym (passes (λ y. prefix_eq y p) i range found (same_itself p))
  found_named (Err n) range found = sym (list_any_none (λ y. prefix_eq y p) names (λ j d lt. apart n j d (splits n (Err n) refl found) lt))

  pub inside_here : (i : ℕ) → i < length names → HoldsAt (λ y. prefix_cmp y p ≡ Equal) names i → true ≡ is_inside names p
  inside_here i lt here = sym (passes (λ y. covers y p) i lt here (covers_itself p))

  pub inside_first : Splits 0 → false ≡ is_inside names p
  inside_first split = sym (list_any_none (λ y. covers y p) names (λ j d lt. later 0 j d split (omega arith) lt))

  -- the last one up to the prefix covers it, or none does
  pub inside_last : (n : ℕ) (q d : IpPrefix) → AreApart names → Splits n → 0 < n → n ≤ length names → q ≡ get_or names (n - 1) d → covers q p ≡ is_inside names p
  inside_last n q d free split some range read = elim (covers q p) as (λ b. covers q p ≡ b → b ≡ is_inside names p) [
    | true ↦ λ pass. sym (list_any_at (λ y. covers y p) names (n - 1) d (omega (arith, some, range)) (subst (λ (y : IpPrefix). covers y p ≡ true) read pass))
    | false ↦ λ fail. sym (list_any_none (λ y. covers y p) names (λ j e lt. elim (cases_lt j n) [
      | inr ge ↦ later n j e split ge lt
      | inl up ↦
          let last : get_or names (n - 1) e ≡ q = get_or_default names (n - 1) e d (omega (arith, some, range)) ∙ sym read in
          let no_last : covers (get_or names (n - 1) e) p ≡ false = subst (λ (y : IpPrefix). covers y p ≡ false) (sym last) fail in
          elim (cases_lt j (n - 1)) [
            | inr same ↦ let is : n - 1 ≡ j = omega (arith, up, same) in subst (λ (k : ℕ). covers (get_or names k e) p ≡ false) is no_last
            | inl before ↦ not_true _ (λ pass. not_both (covers (get_or names j e) (get_or names (n - 1) e))
                (between (get_or names j e) (get_or names (n - 1) e) p (order.known j e lt) (order.known (n - 1) e (omega (arith, some, range))) (rises j (n - 1) e (omega (arith, before)) (omega (arith, some, range))) (less_up (get_or names (n - 1) e) p (split.0 (n - 1) e (omega arith) (omega (arith, some)))) pass)
                (free j (n - 1) e before (omega (arith, some, range))))
          ]
    ]))
  ] refl

  pub around_here : (i : ℕ) → i < length names → HoldsAt (λ y. prefix_cmp y p ≡ Equal) names i → true ≡ is_around names p
  around_here i lt here = sym (passes (λ y. covers p y) i lt here (covers_itself p))

  pub around_end : (n : ℕ) → IsIpPrefix p → Splits n → length names ≤ n → false ≡ is_around names p
  around_end n known split end = sym (list_any_none (λ y. covers p y) names (λ j d lt. earlier n j d known split (omega (arith, lt, end)) lt))

  -- the first one from the prefix on is covered by it, or none is
  pub around_next : (n : ℕ) (q d : IpPrefix) → IsIpPrefix p → Splits n → n < length names → q ≡ get_or names n d → covers p q ≡ is_around names p
  around_next n q d known split some read = elim (covers p q) as (λ b. covers p q ≡ b → b ≡ is_around names p) [
    | true ↦ λ pass. sym (list_any_at (λ y. covers p y) names n d some (subst (λ (y : IpPrefix). covers p y ≡ true) read pass))
    | false ↦ λ fail. sym (list_any_none (λ y. covers p y) names (λ j e lt. elim (cases_lt j n) [
      | inl before ↦ earlier n j e known split before lt
      | inr ge ↦
          let first : get_or names n e ≡ q = get_or_default names n e d some ∙ sym read in
          let no_first : covers p (get_or names n e) ≡ false = subst (λ (y : IpPrefix). covers p y ≡ false) (sym first) fail in
          not_true _ (λ pass. not_both (covers p (get_or names n e)) (between p (get_or names n e) (get_or names j e) known (order.known n e some) (ap is_lt (split.1 n e (omega arith) some)) (rises n j e ge lt) pass) no_first)
    ]))
  ] refl

-- ---- without those that another one covers

module _ (names : List IpPrefix) where
  -- what is kept of the first n
  pub record Keeps (n : ℕ) (kept : List IpPrefix) : Type 0 where
    pub order : InOrder kept
    pub apart : AreApart kept
    pub same : (p : IpPrefix) → is_inside kept p ≡ is_inside (take n names) p
    pub ahead : (j m : ℕ) (d : IpPrefix) → j < length kept → n ≤ m → m < length names → Before (get_or kept j d) (get_or names m d)

  module _ (order : InOrder names) (n : ℕ) (kept : List IpPrefix) (keeps : Keeps n kept) (more : n < length names) (x : IpPrefix) (read : (d : IpPrefix) → x ≡ get_or names n d) where
    next : (p : IpPrefix) → is_inside (take (n + 1) names) p ≡ (is_inside kept p || covers x p)
    next p = list_any_more (λ y. covers y p) names n x more ∙ ap (λ b. b || covers (get_or names n x) p) (sym (keeps.same p)) ∙ ap (λ (y : IpPrefix). is_inside kept p || covers y p) (sym (read x))

    known : IsIpPrefix x
    known = subst IsIpPrefix (sym (read x)) (order.known n x more)

    -- the last one covers it
    pub keeps_on : (last d : IpPrefix) → 0 < length kept → last ≡ get_or kept (length kept - 1) d → covers last x ≡ true → Keeps (n + 1) kept
    keeps_on last d some is over = record {
      order = keeps.order;
      apart = keeps.apart;
      same = λ p. sym (next p ∙ elim (covers x p) as (λ b. covers x p ≡ b → (is_inside kept p || b) ≡ is_inside kept p) [
        | true ↦ λ pass.
            let held : is_inside kept p ≡ true = list_any_at (λ y. covers y p) kept (length kept - 1) d (omega (arith, some)) (subst (λ (y : IpPrefix). covers y p ≡ true) is (covers_through last x p known over pass)) in
            ap (λ b. b || true) held ∙ sym held
        | false ↦ λ fail. or_false (is_inside kept p)
      ] refl);
      ahead = λ j m e h le lt. keeps.ahead j m e h (omega (arith, le)) lt;
    }

    grown : length (kept ++ x ∷ []) ≡ length kept + 1
    grown = length-append kept (x ∷ [])

    old : (j : ℕ) (d : IpPrefix) → j < length kept → get_or (kept ++ x ∷ []) j d ≡ get_or kept j d
    old j d lt = get_or_append_left kept (x ∷ []) d j lt

    new : (d : IpPrefix) → get_or (kept ++ x ∷ []) (length kept) d ≡ x
    new d = get_or_push kept x d (length kept) refl

    free : (last d : IpPrefix) → (0 < length kept → last ≡ get_or kept (length kept - 1) d) → (0 < length kept → covers last x ≡ false) → (i : ℕ) (e : IpPrefix) → i < length kept → covers (get_or kept i e) x ≡ false
    free last d is out i e lt =
        let some : 0 < length kept = omega (arith, lt) in
        let end : length kept - 1 < length kept = omega (arith, some) in
        let at : get_or kept (length kept - 1) e ≡ last = get_or_default kept (length kept - 1) e d end ∙ sym (is some) in
        let not_last : covers (get_or kept (length kept - 1) e) x ≡ false = subst (λ (y : IpPrefix). covers y x ≡ false) (sym at) (out some) in
        elim (cases_lt i (length kept - 1)) [
          | inr same ↦ let here : length kept - 1 ≡ i = omega (arith, lt, same) in subst (λ (k : ℕ). covers (get_or kept k e) x ≡ false) here not_last
          | inl before ↦ not_true _ (λ pass. not_both (covers (get_or kept i e) (get_or kept (length kept - 1) e))
              (between (get_or kept i e) (get_or kept (length kept - 1) e) x (keeps.order.known i e lt) (keeps.order.known (length kept - 1) e end) (rises kept x keeps.order i (length kept - 1) e (omega (arith, before)) end) (subst (λ (y : IpPrefix). Before (get_or kept (length kept - 1) e) y) (sym (read e)) (keeps.ahead (length kept - 1) n e end (omega arith) more)) pass)
              (keeps.apart i (length kept - 1) e before end))
        ]

    -- the last one, if there is one, doesn't
    pub keeps_more : (last d : IpPrefix) → (0 < length kept → last ≡ get_or kept (length kept - 1) d) → (0 < length kept → covers last x ≡ false) → Keeps (n + 1) (kept ++ x ∷ [])
    keeps_more last d is out = record {
      order = record {
        sorted = IsSortedBy-push (λ a b. is_lt (prefix_cmp a b)) kept x keeps.order.sorted (λ e some. subst (λ (y : IpPrefix). Before (get_or kept (length kept - 1) e) y) (sym (read e)) (keeps.ahead (length kept - 1) n e (omega (arith, some)) (omega arith) more));
        known = All-push IsIpPrefix kept x keeps.order.known known;
      };
      apart = λ i j e lt h. elim (cases_lt j (length kept)) [
        | inl inside ↦ subst (λ (a : IpPrefix). covers a (get_or (kept ++ x ∷ []) j e) ≡ false) (sym (old i e (omega (arith, lt, inside)))) (subst (λ (b : IpPrefix). covers (get_or kept i e) b ≡ false) (sym (old j e inside)) (keeps.apart i j e lt inside))
        | inr end ↦
            let at : length kept ≡ j = omega (arith, end, h, grown) in
            let to : get_or (kept ++ x ∷ []) j e ≡ x = ap (λ (k : ℕ). get_or (kept ++ x ∷ []) k e) (sym at) ∙ new e in
            let low : i < length kept = omega (arith, lt, at) in
            subst (λ (a : IpPrefix). covers a (get_or (kept ++ x ∷ []) j e) ≡ false) (sym (old i e low)) (subst (λ (b : IpPrefix). covers (get_or kept i e) b ≡ false) (sym to) (free last d is out i e low))
      ];
      same = λ p. list_any-append (λ y. covers y p) kept (x ∷ []) ∙ ap (λ b. is_inside kept p || b) (or_false (covers x p)) ∙ sym (next p);
      ahead = λ j m e h le lt. elim (cases_lt j (length kept)) [
        | inl inside ↦ subst (λ (a : IpPrefix). Before a (get_or names m e)) (sym (old j e inside)) (keeps.ahead j m e inside (omega (arith, le)) lt)
        | inr end ↦
            let at : length kept ≡ j = omega (arith, end, h, grown) in
            let from : get_or names n e ≡ get_or (kept ++ x ∷ []) j e = sym (read e) ∙ sym (new e) ∙ ap (λ (k : ℕ). get_or (kept ++ x ∷ []) k e) at in
            subst (λ (a : IpPrefix). Before a (get_or names m e)) from (rises names x order n m e (omega (arith, le)) lt)
      ];
    }

    -- whether the last one covers it
    pub record LastCovers (covered : Bool) : Type 0 where
      pub some : covered ≡ true → 0 < length kept
      pub last : 0 < length kept → covers (get_or kept (length kept - 1) x) x ≡ covered

    pub keeps_next : (covered : Bool) → LastCovers covered → Keeps (n + 1) (cond covered kept (kept ++ x ∷ []))
    keeps_next true is = keeps_on (get_or kept (length kept - 1) x) x (is.some refl) refl (is.last (is.some refl))
    keeps_next false is = keeps_more (get_or kept (length kept - 1) x) x (λ some. refl) is.last

-- ---- by reach

abbrev has_reach : Reach → PrefixChoice → Bool
has_reach reach c = same_reach c.reach reach

-- one more choice, of this reach or of another one
pub named_next : (reach : Reach) (choices : List PrefixChoice) (n : ℕ) (x : PrefixChoice) → n < length choices → ((d : PrefixChoice) → x ≡ get_or choices n d) → named_as reach (take (n + 1) choices) ≡ cond (same_reach x.reach reach) (named_as reach (take n choices) ++ x.prefix ∷ []) (named_as reach (take n choices))
named_next reach choices n x more read =
    let parts : take (n + 1) choices ≡ take n choices ++ x ∷ [] = ap (take (n + 1)) (sym (set-get_or choices n x)) ∙ take_more_set choices n (get_or choices n x) more ∙ ap (λ (y : PrefixChoice). take n choices ++ y ∷ []) (sym (read x)) in
    ap (named_as reach) parts ∙ ap (map (λ (c : PrefixChoice). c.prefix)) (filter-append (has_reach reach) (take n choices) (x ∷ [])) ∙ one (has_reach reach x)
  where
    one : (b : Bool) → map (λ (c : PrefixChoice). c.prefix) (filter (has_reach reach) (take n choices) ++ cond b (x ∷ []) []) ≡ cond b (map (λ (c : PrefixChoice). c.prefix) (filter (has_reach reach) (take n choices)) ++ x.prefix ∷ []) (map (λ (c : PrefixChoice). c.prefix) (filter (has_reach reach) (take n choices)))
    one true = map-append (λ (c : PrefixChoice). c.prefix) (filter (has_reach reach) (take n choices)) (x ∷ [])
    one false = ap (map (λ (c : PrefixChoice). c.prefix)) (append-nil (filter (has_reach reach) (take n choices)))

reach_parts : (test : IpPrefix → Bool) (b : Bool) (choice : PrefixChoice) (choices : List PrefixChoice) → list_any test (map (λ c. c.prefix) (cond b (choice ∷ choices) choices)) ≡ ((b && test choice.prefix) || list_any test (map (λ c. c.prefix) choices))
reach_parts test true choice choices = refl
reach_parts test false choice choices = refl

among_first : (t rest e o : Bool) → rest ≡ (e || o) → (t || rest) ≡ ((t || e) || o)
among_first true rest e o is = refl
among_first false rest e o is = is

among_second : (t rest e i a : Bool) → rest ≡ (e || (i || a)) → (t || rest) ≡ (e || ((t || i) || a))
among_second true rest true i a is = refl
among_second true rest false i a is = refl
among_second false rest e i a is = is

among_third : (t rest e i a : Bool) → rest ≡ (e || (i || a)) → (t || rest) ≡ (e || (i || (t || a)))
among_third true rest true i a is = refl
among_third true rest false true a is = refl
among_third true rest false false a is = refl
among_third false rest e i a is = is

one_more : (reach : Reach) (named p : IpPrefix) (rest e i a : Bool) → rest ≡ (e || (i || a)) → (stands_by reach named p || rest)
    ≡ (((same_reach reach Exact && prefix_eq named p) || e) || (((same_reach reach Inside && covers named p) || i) || ((same_reach reach Around && covers p named) || a)))
one_more Exact named p rest e i a is = among_first (prefix_eq named p) rest e (i || a) is
one_more Inside named p rest e i a is = among_second (covers named p) rest e i a is
one_more Around named p rest e i a is = among_third (covers p named) rest e i a is

-- the choices take what those of each reach take
by_reach : (choices : List PrefixChoice) (p : IpPrefix) → list_any (λ choice. takes_prefix choice p) choices
    ≡ (is_named (named_as Exact choices) p || (is_inside (named_as Inside choices) p || is_around (named_as Around choices) p))
by_reach [] p = refl
by_reach (choice ∷ choices) p =
    one_more choice.reach choice.prefix p (list_any (λ c. takes_prefix c p) choices) (is_named (named_as Exact choices) p) (is_inside (named_as Inside choices) p) (is_around (named_as Around choices) p) (by_reach choices p)
    ∙ sym (rw (
      reach_parts (λ y. prefix_eq y p) (same_reach choice.reach Exact) choice (filter (λ c. same_reach c.reach Exact) choices),
      reach_parts (λ y. covers y p) (same_reach choice.reach Inside) choice (filter (λ c. same_reach c.reach Inside) choices),
      reach_parts (λ y. covers p y) (same_reach choice.reach Around) choice (filter (λ c. same_reach c.reach Around) choices),
    ) refl)

pub stand_for : (choices : List PrefixChoice) (exact named inside around : List IpPrefix) → IsPermutation (named_as Exact choices) exact → InOrder exact → IsPermutation (named_as Inside choices) named
    → InOrder inside → AreApart inside → ((p : IpPrefix) → is_inside inside p ≡ is_inside named p) → IsPermutation (named_as Around choices) around → InOrder around → StandFor choices exact inside around
stand_for choices exact named inside around same_exact in_exact same_named in_inside apart same_inside same_around in_around = record {
  exact_order = in_exact;
  inside_order = in_inside;
  inside_apart = apart;
  around_order = in_around;
  takes = λ p. by_reach choices p ∙ rw (
    list_any-IsPermutation (λ y. prefix_eq y p) (named_as Exact choices) exact same_exact,
    list_any-IsPermutation (λ y. covers y p) (named_as Inside choices) named same_named ∙ sym (same_inside p),
    list_any-IsPermutation (λ y. covers p y) (named_as Around choices) around same_around,
  ) refl;
}
