-- The walk back through a list in order, from the last prefix that is no higher than an address.
use Rattle.std.proofs.Common.{◌≡◌, ◌≢◌, ℕ, suc, ◌+◌, ◌<◌, ◌≤◌, Bool, true, false, cond, not, ◌&&◌, List, [], ◌∷◌, length, get_or, drop, Option, Some, None, is_some, T, refl, sym, ap, subst, ◌∙◌, arith, ◌⊎◌, inl, inr, get_or-drop, length-drop}
use Rattle.std.proofs.lemmas.Bool.{cases_lt, cases_Bool, eqb-true, eq-eqb}
use Rattle.std.proofs.lemmas.List.{get_or_default}
use Rattle.std.proofs.Math.Seq.{drop-cons}
use Rattle.std.proofs.Math.ListN.{drop_of_length-le}
use Rattle.std.specs.List.{All, AllWithin}
use Rattle.std.specs.Option.{option_or}
use Rattle.std.specs.FinMap.{is_sorted}
use borrow.Author.Tests.{both_ways}
use Rattle.bgp_prefix.specs.Prefixes.{IpPrefix, IsIpPrefix, leading_bits, contains, prefix_eq}
use Rattle.bgp_prefix.specs.Keys.{key_cmp, last_match, matching_prefixes, begins_with, RouteKey}
use Rattle.bgp_prefix.proofs.KeyLaws.{same_prefix, or_none}
use Rattle.prefix_maps.proofs.NetworkLaws.{network, network_is, same_itself}
use Rattle.prefix_maps.proofs.SplitLaws.{IsUpTo, rise, below_network}
use Rattle.prefix_maps.proofs.JumpLaws.{no_longer, no_longer_than_shared}

some_first : {A : Type 0} (o p : Option A) → is_some o ≡ true → option_or o p ≡ o
some_first None p h = cc
some_first (Some x) p h = refl

some_either : {A : Type 0} (o : Option A) (x : A) → is_some (option_or o (Some x)) ≡ true
some_either None x = refl
some_either (Some y) x = refl

at_most_one : (b : Bool) → cond b 1 0 ≤ 1
at_most_one true = omega arith
at_most_one false = omega arith

module _ {V : Type 0} (addr : ℕ) where
  match_at_front : (p : IpPrefix) (es : List (RouteKey × V)) → begins_with p es ≡ true → contains p addr ≡ true → is_some (last_match es addr) ≡ true
  match_at_front p [] b in_p = cc
  match_at_front p (e ∷ es) b in_p =
      let same : p ≡ e.0.prefix = same_prefix p e.0.prefix b in
      let in_e : contains e.0.prefix addr ≡ true = subst (λ (q : IpPrefix). contains q addr ≡ true) same in_p in
      ap (λ t. is_some (option_or (last_match es addr) (cond t (Some e.0.prefix) None))) in_e ∙ some_either (last_match es addr) e.0.prefix

  pub no_match : (es : List (RouteKey × V)) → All (λ e. contains e.0.prefix addr ≡ false) es → (last_match es addr ≡ None) × (matching_prefixes es addr ≡ 0)
  no_match [] none = (refl, refl)
  no_match (e ∷ es) none =
      let out = none 0 e (omega arith) in
      let rest = no_match es (λ k d lt. none (suc k) d (omega (arith, lt))) in (
        ap (λ t. option_or (last_match es addr) (cond t (Some e.0.prefix) None)) out ∙ or_none _ ∙ rest.0,
        ap (λ t. cond (t && not (begins_with e.0.prefix es)) 1 0 + matching_prefixes es addr) out ∙ omega (arith, rest.1),
      )

-- the walk is at a position: what it found in the entries from there on, and what it has still to look at
pub record IsWalk {V : Type 0} (w : ℕ) (es : List (RouteKey × V)) (addr position limit steps : ℕ) (longest : Option IpPrefix) : Type 0 where
  pub sorted : T (is_sorted key_cmp es)
  pub known : All (λ e. IsIpPrefix e.0.prefix) es
  pub inside : position ≤ length es
  pub front : AllWithin (λ e. e.0.prefix.addr ≤ addr) es 0 position
  pub found : longest ≡ last_match (drop position es) addr
  pub enough : matching_prefixes (drop position es) addr ≤ steps
  pub left : (k : ℕ) (d : RouteKey × V) → k < position → contains (get_or es k d).0.prefix addr ≡ true → ((get_or es k d).0.prefix.len < limit) ⊎ (begins_with (get_or es k d).0.prefix (drop position es) ≡ true)
  pub most : (l : ℕ) × (limit ≤ l) × (l + steps ≤ w + 1) × ((len : ℕ) → len ≤ w + 1 → All (λ e. len ≤ e.0.prefix.len) es → len ≤ l)

-- a prefix that contains the address is no higher
no_higher : (addr : ℕ) (p : IpPrefix) → IsIpPrefix p → contains p addr ≡ true → p.addr ≤ addr
no_higher addr p known in_p = below_network p p.len addr known (omega arith) known.short (sym (eqb-true _ _ in_p))

module _ {V : Type 0} (es : List (RouteKey × V)) (addr : ℕ) (sorted : T (is_sorted key_cmp es)) (known : All (λ e. IsIpPrefix e.0.prefix) es) (w : ℕ) (short : All (λ e. e.0.prefix.len ≤ w) es) where
  pub IsWalk-start : (position : ℕ) → position ≤ length es → AllWithin (λ e. e.0.prefix.addr ≤ addr) es 0 position → AllWithin (λ e. addr < e.0.prefix.addr) es position (length es) → IsWalk w es addr position (w + 1) 0 None
  IsWalk-start position inside front back =
      let out : All (λ e. contains e.0.prefix addr ≡ false) (drop position es) = λ k d lt.
      let within : position + k < length es = omega (arith, lt, length-drop position es) in
      let p = (get_or es (position + k) d).0.prefix in
      let above : addr < p.addr = back (position + k) d (omega arith) within in
      let none : contains p addr ≡ false = elim (cases_Bool (contains p addr)) [
        | inl t ↦ absurd (omega (arith, above, no_higher addr p (known (position + k) d within) t))
        | inr f ↦ f
      ] in
      ap (λ (e : RouteKey × V). contains e.0.prefix addr) (get_or-drop position es k d) ∙ none in
      let none = no_match addr (drop position es) out in
      record {
        sorted = sorted;
        known = known;
        inside = inside;
        front = front;
        found = sym none.0;
        enough = omega (arith, none.1);
        left = λ k d lt in_k. inl (omega (arith, short k d (omega (arith, lt, inside))));
        most = (w + 1, omega arith, omega arith, λ len le all. le);
      }

module _ {V : Type 0} {w : ℕ} (es : List (RouteKey × V)) (addr k limit steps : ℕ) (longest : Option IpPrefix) (x : RouteKey × V) (walk : IsWalk w es addr (k + 1) limit steps longest) (read : x ≡ get_or es k x) where
  lt : k < length es
  lt = omega (arith, walk.inside)

  abbrev p : IpPrefix
  p = x.0.prefix

  abbrev rest : List (RouteKey × V)
  rest = drop (k + 1) es

  more : drop k es ≡ x ∷ rest
  more = let next : suc k ≡ k + 1 = omega arith in drop-cons es k x lt ∙ ap (λ e. e ∷ drop (suc k) es) (sym read) ∙ ap (λ (n : ℕ). x ∷ drop n es) next

  read_at : (d : RouteKey × V) → (get_or es k d).0.prefix ≡ p
  read_at d = ap (λ (e : RouteKey × V). e.0.prefix) (get_or_default es k d x lt ∙ sym read)

  abbrev counted : ℕ
  counted = cond (contains p addr && not (begins_with p rest)) 1 0

  known_p : IsIpPrefix p
  known_p = subst IsIpPrefix (read_at x) (walk.known k x lt)

  low_p : p.addr ≤ addr
  low_p = subst (λ (q : IpPrefix). q.addr ≤ addr) (read_at x) (walk.front k x (omega arith) (omega arith))

  before : (j : ℕ) (d : RouteKey × V) → j < k → IsUpTo (get_or es j d).0.prefix p
  before j d h = subst (IsUpTo (get_or es j d).0.prefix) (read_at d) (rise es j k d walk.sorted (omega (arith, h)) lt)

  left_p : contains p addr ≡ true → (p.len < limit) ⊎ (begins_with p rest ≡ true)
  left_p in_p = subst (λ (q : IpPrefix). (q.len < limit) ⊎ (begins_with q rest ≡ true)) (read_at x) (walk.left k x (omega arith) (subst (λ (q : IpPrefix). contains q addr ≡ true) (sym (read_at x)) in_p))

  found_more : option_or longest (cond (contains p addr) (Some p) None) ≡ last_match (drop k es) addr
  found_more = ap (λ o. option_or o (cond (contains p addr) (Some p) None)) walk.found ∙ ap (λ (ds : List (RouteKey × V)). last_match ds addr) (sym more)

  count_more : counted + matching_prefixes rest addr ≡ matching_prefixes (drop k es) addr
  count_more = ap (λ (ds : List (RouteKey × V)). matching_prefixes ds addr) (sym more)

  -- an entry with the prefix after p has p
  begins_more : (j : ℕ) (d : RouteKey × V) → j < k → begins_with (get_or es j d).0.prefix rest ≡ true → (get_or es j d).0.prefix ≡ p
  begins_more j d h begins = elim (cases_lt (k + 1) (length es)) [
    | inl in_range ↦
        let q = (get_or es j d).0.prefix in
        let next = (get_or es (k + 1) d).0.prefix in
        let tail : rest ≡ get_or es (k + 1) d ∷ drop (suc (k + 1)) es = drop-cons es (k + 1) d in_range in
        let same : q ≡ next = same_prefix q next (ap (begins_with q) (sym tail) ∙ begins) in
        let low = before j d h in
        let high : IsUpTo p next = subst (λ (r : IpPrefix). IsUpTo r next) (read_at d) (rise es k (k + 1) d walk.sorted (omega arith) in_range) in
        let up : IsUpTo p q = subst (IsUpTo p) (sym same) high in
        let a : q.addr ≡ p.addr = omega (arith, low.low, up.low) in
        let l : q.len ≡ p.len = omega (arith, low.short a, up.short (sym a)) in
        λ i. record { addr = a i; len = l i }
    | inr past ↦ absurd (both_ways _ (ap (begins_with (get_or es j d).0.prefix) (drop_of_length-le es past)) begins)
  ]

  begins_itself : (q : IpPrefix) → q ≡ p → begins_with q (drop k es) ≡ true
  begins_itself q same = ap (begins_with q) more ∙ ap (λ (r : IpPrefix). prefix_eq r p) same ∙ same_itself p

  pub IsWalk-skip : limit ≤ p.len → IsWalk w es addr k limit steps longest
  IsWalk-skip long = record {
    sorted = walk.sorted;
    known = walk.known;
    inside = omega (arith, walk.inside);
    front = λ j d z h. walk.front j d z (omega (arith, h));
    found = elim (cases_Bool (contains p addr)) [
      | inl t ↦ elim (left_p t) [
        | inl short ↦ absurd (omega (arith, short, long))
        | inr again ↦ sym (some_first longest _ (ap is_some walk.found ∙ match_at_front addr p rest again t)) ∙ found_more
      ]
      | inr f ↦ sym (ap (λ b. option_or longest (cond b (Some p) None)) f ∙ or_none longest) ∙ found_more
    ];
    enough = elim (cases_Bool (contains p addr)) [
      | inl t ↦ elim (left_p t) [
        | inl short ↦ absurd (omega (arith, short, long))
        | inr again ↦
            let none : counted ≡ 0 = ap (λ b. cond (b && not (begins_with p rest)) 1 0) t ∙ ap (λ b. cond (true && not b) 1 0) again in
            omega (arith, none, count_more, walk.enough)
      ]
      | inr f ↦
          let none : counted ≡ 0 = ap (λ b. cond (b && not (begins_with p rest)) 1 0) f in
          omega (arith, none, count_more, walk.enough)
    ];
    left = λ j d h in_j. elim (walk.left j d (omega (arith, h)) in_j) [
      | inl short ↦ inl short
      | inr again ↦ inr (begins_itself _ (begins_more j d h again))
    ];
    most = walk.most;
  }

  -- a match: what is left is shorter, or has the same prefix
  pub IsWalk-match : p.len < limit → contains p addr ≡ true → IsWalk w es addr k p.len (steps + 1) (option_or longest (Some p))
  IsWalk-match short in_p = record {
    sorted = walk.sorted;
    known = walk.known;
    inside = omega (arith, walk.inside);
    front = λ j d z h. walk.front j d z (omega (arith, h));
    found = ap (λ b. option_or longest (cond b (Some p) None)) (sym in_p) ∙ found_more;
    enough = omega (arith, at_most_one (contains p addr && not (begins_with p rest)), count_more, walk.enough);
    left = λ j d h in_j.
        let q = (get_or es j d).0.prefix in
        let known_q = walk.known j d (omega (arith, h, lt)) in
        elim (cases_lt q.len p.len) [
          | inl less ↦ inl less
          | inr ge ↦
              let same : q.len ≡ p.len = omega (arith, ge, no_longer addr q p known_q known_p in_j in_p (before j d h)) in
              inr (begins_itself q (network_is addr q known_q in_j ∙ ap (network addr) same ∙ sym (network_is addr p known_p in_p)))
        ];
    most = (p.len, omega arith, omega (arith, walk.most.1, walk.most.2, short), λ len le all. subst (λ (q : IpPrefix). len ≤ q.len) (read_at x) (all k x lt));
  }

  -- no match: what contains the address is no longer than the bits that p shares with it
  pub IsWalk-miss : (shared : ℕ) → p.len < limit → contains p addr ≡ false → shared ≤ p.len → leading_bits shared p.addr ≡ leading_bits shared addr → (shared < p.len → leading_bits (shared + 1) p.addr ≢ leading_bits (shared + 1) addr) → IsWalk w es addr k (shared + 1) (steps + 1) longest
  IsWalk-miss shared short out in_p same parted =
      let fewer : shared < p.len = elim (cases_lt shared p.len) [
        | inl less ↦ less
        | inr ge ↦
            let whole : shared ≡ p.len = omega (arith, ge, in_p) in
            let all : leading_bits p.len p.addr ≡ leading_bits p.len addr = subst (λ (n : ℕ). leading_bits n p.addr ≡ leading_bits n addr) whole same in
            absurd (both_ways _ out (eq-eqb _ _ (sym all)))
      ] in
      record {
        sorted = walk.sorted;
        known = walk.known;
        inside = omega (arith, walk.inside);
        front = λ j d z h. walk.front j d z (omega (arith, h));
        found = sym (ap (λ b. option_or longest (cond b (Some p) None)) out ∙ or_none longest) ∙ found_more;
        enough =
            let none : counted ≡ 0 = ap (λ b. cond (b && not (begins_with p rest)) 1 0) out in
            omega (arith, none, count_more, walk.enough);
        left = λ j d h in_j.
            let q = (get_or es j d).0.prefix in
            inl (omega (arith, no_longer_than_shared addr shared q p (walk.known j d (omega (arith, h, lt))) in_j (before j d h) low_p (parted fewer)));
        most = (p.len, omega (arith, fewer), omega (arith, walk.most.1, walk.most.2, short), λ len le all. subst (λ (q : IpPrefix). len ≤ q.len) (read_at x) (all k x lt));
      }
