-- The longest match in a branch of the trie, and the nodes that are looked at.
use Rattle.std.proofs.Common.{◌≡◌, ℕ, ◌+◌, ◌*◌, ◌/◌, ◌^◌, ◌<◌, ◌≤◌, Bool, true, false, cond, not, ◌&&◌, List, [], ◌∷◌, ◌++◌, Option, Some, None, refl, sym, ap, ◌∙◌, arith, add-zero, get_or, length, take, drop, suc, ◌⊎◌, inl, inr, Box, subst}
use Rattle.std.specs.List.{All}
use Rattle.std.specs.Option.{option_or}
use Rattle.std.specs.declared.alloc.Global.{Global}
use Rattle.std.proofs.lemmas.Bool.{eqb-true, ne_eqb, eq-eqb}
use Rattle.std.proofs.lemmas.List.Elements.{All-weaker}
use Rattle.std.proofs.lemmas.List.{take-append-drop}
use Rattle.std.proofs.lemmas.Nat.{div_below}
use Rattle.std.proofs.Math.Seq.{drop-cons}
use Rattle.bgp_prefix.specs.Prefixes.{IpPrefix, IsIpPrefix, leading_bits, contains, prefix_eq, Starts}
use Rattle.bgp_prefix.specs.Keys.{is_nil, last_match, matching_prefixes, begins_with, RouteKey}
use Rattle.prefix_maps.specs.Tries.{routes, IsTrie, IsUnder}
use Rattle.prefix_maps.specs.declared.radix.node.Branch.{Branch}
use Rattle.prefix_maps.specs.declared.radix.node.Branch.TheVariants.{Empty, Leaf, Fork as ForkAt, Fork'}
use Rattle.prefix_maps.specs.declared.radix.node.Fork.{Fork}
use Rattle.bgp_prefix.proofs.Bits.{share_fewer}
use Rattle.bgp_prefix.proofs.KeyLaws.{or_none}
use Rattle.prefix_maps.proofs.OrderLaws.{AllKeys, AllKeys-both, own_keys, keys_known, keys_start}
use Rattle.prefix_maps.proofs.TrieLaws.{IsFork, fork_routes, starts_as_parent, starts_itself}
use Rattle.prefix_maps.proofs.NetworkLaws.{same_itself}

or_assoc : {A : Type 0} (x y z : Option A) → option_or (option_or x y) z ≡ option_or x (option_or y z)
or_assoc None y z = refl
or_assoc (Some x) y z = refl

one_run : (b c : Bool) → cond (b && not c) 1 0 ≤ cond (b && not false) 1 0
one_run true true = omega arith
one_run true false = omega arith
one_run false c = omega arith

no_run : (b c : Bool) → b ≡ false → ◌≡◌ {A = ℕ} (cond (b && c) 1 0) 0
no_run b c e = ap (λ d. let n : ℕ = cond (d && c) 1 0 in n) e

not_last : (b c : Bool) → c ≡ true → ◌≡◌ {A = ℕ} (cond (b && not c) 1 0) 0
not_last true c e = ap (λ d. let n : ℕ = cond (not d) 1 0 in n) e
not_last false c e = refl

held_or_not : {A : Type 0} (b : Bool) (x : A) → cond (true && not b) (Some x) None ≡ cond b None (Some x)
held_or_not true x = refl
held_or_not false x = refl

three_none : {A : Type 0} {x y : Option A} (a b c : Option A) → x ≡ option_or y a → y ≡ option_or c b → a ≡ None → b ≡ None → c ≡ None → x ≡ None
three_none a b c ex ey ea eb ec = cc

pub missed : (addr : ℕ) (p : IpPrefix) → contains p addr ≡ false → leading_bits p.len addr ≡ leading_bits p.len p.addr → ⊥
missed addr p miss same = let clash : true ≡ false = sym (eq-eqb _ _ same) ∙ miss in cc

module _ (addr : ℕ) where
  not_contained : (p : IpPrefix) (len bits : ℕ) → p.len ≤ 128 → Starts len bits p → (leading_bits len addr ≡ bits → ⊥) → contains p addr ≡ false
  not_contained p len bits short s out = ne_eqb _ _ (λ same. out (share_fewer len p.len addr p.addr s.long short same ∙ s.shared))

module _ {V : Type 0} (addr : ℕ) where
  last_match-append : (es fs : List (RouteKey × V)) → last_match (es ++ fs) addr ≡ option_or (last_match fs addr) (last_match es addr)
  last_match-append [] fs = sym (or_none (last_match fs addr))
  last_match-append (e ∷ es) fs = ap (λ o. option_or o (cond (contains e.0.prefix addr) (Some e.0.prefix) None)) (last_match-append es fs) ∙ or_assoc (last_match fs addr) (last_match es addr) _

  matching-append : (es fs : List (RouteKey × V)) → matching_prefixes (es ++ fs) addr ≤ matching_prefixes es addr + matching_prefixes fs addr
  matching-append [] fs = omega arith
  matching-append (e ∷ []) fs = omega (arith, one_run (contains e.0.prefix addr) (begins_with e.0.prefix fs))
  matching-append (e ∷ f ∷ es) fs = omega (arith, matching-append (f ∷ es) fs)

  -- routes of prefixes that don't contain the address
  no_match_list : (es : List (RouteKey × V)) → AllKeys (λ k. contains k.prefix addr ≡ false) es → (last_match es addr ≡ None) × (matching_prefixes es addr ≡ 0)
  no_match_list [] h = (refl, refl)
  no_match_list (e ∷ es) h =
      let rest = no_match_list es h.1 in
      let one = no_run (contains e.0.prefix addr) (not (begins_with e.0.prefix es)) h.0 in
      (ap (λ b. option_or (last_match es addr) (cond b (Some e.0.prefix) None)) h.0 ∙ ap (λ o. option_or o None) rest.0, omega (arith, one, rest.1))

  -- routes of one prefix
  last_match_own : (p : IpPrefix) (es : List (RouteKey × V)) → AllKeys (λ k. k.prefix ≡ p) es → last_match es addr ≡ cond (contains p addr && not (is_nil es)) (Some p) None
  last_match_own p [] h = elim (contains p addr) as (λ b. last_match {V = V} [] addr ≡ cond (b && false) (Some p) None) [ true ↦ refl | false ↦ refl ]
  last_match_own p (e ∷ es) h =
      ap (λ (q : IpPrefix). option_or (last_match es addr) (cond (contains q addr) (Some q) None)) h.0
      ∙ ap (λ o. option_or o (cond (contains p addr) (Some p) None)) (last_match_own p es h.1)
      ∙ elim (contains p addr) as (λ b. option_or (cond (b && not (is_nil es)) (Some p) None) (cond b (Some p) None) ≡ cond (b && true) (Some p) None) [
        | true ↦ elim (is_nil es) as (λ n. option_or (cond (not n) (Some p) None) (Some p) ≡ Some p) [ true ↦ refl | false ↦ refl ]
        | false ↦ refl
      ]

  matching_own : (p : IpPrefix) (es : List (RouteKey × V)) → AllKeys (λ k. k.prefix ≡ p) es → matching_prefixes es addr ≤ 1
  matching_own p [] h = omega arith
  matching_own p (e ∷ []) h = elim (contains e.0.prefix addr) as (λ b. cond (b && true) 1 0 + 0 ≤ 1) [ true ↦ omega arith | false ↦ omega arith ]
  matching_own p (e ∷ f ∷ es) h =
      let rest = matching_own p (f ∷ es) h.1 in
      let same : prefix_eq e.0.prefix f.0.prefix ≡ true = ap (prefix_eq e.0.prefix) (h.1.0 ∙ sym h.0) ∙ same_itself e.0.prefix in
      let none = not_last (contains e.0.prefix addr) (prefix_eq e.0.prefix f.0.prefix) same in
      omega (arith, none, rest)

  -- no prefix of a branch contains an address that does not start as the branch does
  pub no_match : {F : Type 0} → (b : Branch F V) → IsTrie b → (len bits : ℕ) → IsUnder len bits b → (leading_bits len addr ≡ bits → ⊥) → (last_match (routes b) addr ≡ None) × (matching_prefixes (routes b) addr ≡ 0)
  no_match b ok len bits under out =
      let known = keys_known b ok in
      let start = keys_start b ok len bits under in
      no_match_list (routes b) (AllKeys-both (λ k. IsIpPrefix k.prefix) (λ k. Starts len bits k.prefix) (λ k. contains k.prefix addr ≡ false) (routes b) (λ k is s. not_contained addr k.prefix len bits is.short s out) known start)

  -- the match in a fork that contains the address is that in the branch of its next bit, or else the fork's own
  module _ {F : Type 0} (f : Fork F V) (ok : IsFork f) (in_f : contains f.prefix addr ≡ true) where
    shared : leading_bits f.prefix.len addr ≡ leading_bits f.prefix.len f.prefix.addr
    shared = eqb-true _ _ in_f

    own_match : last_match f.here addr ≡ cond (is_nil f.here) None (Some f.prefix)
    own_match = last_match_own f.prefix f.here (own_keys f.prefix f.here ok.2) ∙ ap (λ b. cond (b && not (is_nil f.here)) (Some f.prefix) None) in_f ∙ held_or_not (is_nil f.here) f.prefix

    own_count : matching_prefixes f.here addr ≤ 1
    own_count = matching_own f.prefix f.here (own_keys f.prefix f.here ok.2)

    pub match_high : leading_bits (f.prefix.len + 1) addr ≡ 2 * leading_bits f.prefix.len addr + 1 → (last_match (fork_routes f) addr ≡ option_or (last_match (routes f.high) addr) (cond (is_nil f.here) None (Some f.prefix))) × (matching_prefixes (fork_routes f) addr ≤ matching_prefixes (routes f.high) addr + 1)
    match_high bit =
        let low = no_match f.low ok.5 (f.prefix.len + 1) _ ok.3 (λ e. omega (arith, e, bit, shared)) in
        let la = matching-append f.here (routes f.low ++ routes f.high) in
        let lb = matching-append (routes f.low) (routes f.high) in
        (last_match-append f.here (routes f.low ++ routes f.high) ∙ ap (λ o. option_or o (last_match f.here addr)) (last_match-append (routes f.low) (routes f.high) ∙ ap (option_or (last_match (routes f.high) addr)) low.0 ∙ or_none _) ∙ ap (option_or (last_match (routes f.high) addr)) own_match, omega (arith, la, lb, low.1, own_count))

    pub match_low : leading_bits (f.prefix.len + 1) addr ≡ 2 * leading_bits f.prefix.len addr + 0 → (last_match (fork_routes f) addr ≡ option_or (last_match (routes f.low) addr) (cond (is_nil f.here) None (Some f.prefix))) × (matching_prefixes (fork_routes f) addr ≤ matching_prefixes (routes f.low) addr + 1)
    match_low bit =
        let high = no_match f.high ok.6 (f.prefix.len + 1) _ ok.4 (λ e. omega (arith, e, bit, shared)) in
        let la = matching-append f.here (routes f.low ++ routes f.high) in
        let lb = matching-append (routes f.low) (routes f.high) in
        (last_match-append f.here (routes f.low ++ routes f.high) ∙ ap (λ o. option_or o (last_match f.here addr)) (last_match-append (routes f.low) (routes f.high) ∙ ap (λ o. option_or o (last_match (routes f.low) addr)) high.0) ∙ ap (option_or (last_match (routes f.low) addr)) own_match, omega (arith, la, lb, high.1, own_count))

    -- and the search goes on in that branch
    pub match_child : (is_high : Bool) → leading_bits (f.prefix.len + 1) addr ≡ 2 * leading_bits f.prefix.len addr + cond is_high 1 0 → let child : Branch F V = cond is_high f.high f.low in (last_match (fork_routes f) addr ≡ option_or (last_match (routes child) addr) (cond (is_nil f.here) None (Some f.prefix))) × (matching_prefixes (fork_routes f) addr ≤ matching_prefixes (routes child) addr + 1) × IsTrie child × ((bits : ℕ) × IsUnder (f.prefix.len + 1) bits child)
    match_child true bit = let both = match_high bit in (both.0, both.1, ok.6, (2 * leading_bits f.prefix.len f.prefix.addr + 1, ok.4))
    match_child false bit = let both = match_low bit in (both.0, both.1, ok.5, (2 * leading_bits f.prefix.len f.prefix.addr, ok.3))

-- and so it does in a fork that has no routes of its own
module _ {F V : Type 0} (addr : ℕ) (f : Fork F V) (ok : IsFork f) where
  outer : contains f.prefix addr ≡ false → (r : ℕ) → r < 2 → leading_bits (f.prefix.len + 1) addr ≡ 2 * leading_bits f.prefix.len f.prefix.addr + r → ⊥
  outer out r h e = missed addr f.prefix out ((starts_as_parent f.prefix.len (leading_bits f.prefix.len f.prefix.addr) f.prefix (record { addr = addr; len = 128 }) r ok.1 (starts_itself f.prefix) h (record { long = omega (arith, ok.1); shared = e })).shared)

  abbrev IsMatchOf : Branch F V → Type 0
  IsMatchOf b = last_match (fork_routes f) addr ≡ option_or (last_match (routes b) addr) (cond (is_nil f.here) None (Some f.prefix))

  missed_by_all : contains f.prefix addr ≡ false → is_nil f.here ≡ true → (is_high : Bool) → IsMatchOf (cond is_high f.high f.low)
  missed_by_all out none is_high =
      let here = last_match_own addr f.prefix f.here (own_keys f.prefix f.here ok.2) ∙ ap (λ b. cond (b && not (is_nil f.here)) (Some f.prefix) None) out in
      let low = (no_match addr f.low ok.5 (f.prefix.len + 1) _ ok.3 (λ e. outer out 0 (omega arith) (e ∙ sym (add-zero _)))).0 in
      let high = (no_match addr f.high ok.6 (f.prefix.len + 1) _ ok.4 (λ e. outer out 1 (omega arith) e)).0 in
      three_none _ _ _ (last_match-append addr f.here (routes f.low ++ routes f.high)) (last_match-append addr (routes f.low) (routes f.high)) here low high
      ∙ sym (rw none (ap (λ o. option_or o None) (elim is_high as (λ b. last_match (routes (cond b f.high f.low)) addr ≡ None) [ true ↦ high | false ↦ low ])))

  no_match_outside : contains f.prefix addr ≡ false → (is_high : Bool) → last_match (routes (cond is_high f.high f.low)) addr ≡ None
  no_match_outside out is_high =
      let low = (no_match addr f.low ok.5 (f.prefix.len + 1) _ ok.3 (λ e. outer out 0 (omega arith) (e ∙ sym (add-zero _)))).0 in
      let high = (no_match addr f.high ok.6 (f.prefix.len + 1) _ ok.4 (λ e. outer out 1 (omega arith) e)).0 in
      elim is_high as (λ b. last_match (routes (cond b f.high f.low)) addr ≡ None) [ true ↦ high | false ↦ low ]

  -- a match in the branch of the next bit is the fork's, whether the fork's prefix contains the address or not
  pub match_up : (is_high : Bool) → leading_bits (f.prefix.len + 1) addr ≡ 2 * leading_bits f.prefix.len addr + cond is_high 1 0 → let child : Branch F V = cond is_high f.high f.low in ((p : IpPrefix) → last_match (routes child) addr ≡ Some p → last_match (fork_routes f) addr ≡ Some p) × IsTrie child
  match_up is_high bit = (
    λ p is. elim (contains f.prefix addr) as (λ b. contains f.prefix addr ≡ b → last_match (fork_routes f) addr ≡ Some p) [
      | true ↦ λ in_f. (match_child addr f ok in_f is_high bit).0 ∙ ap (λ o. option_or o (cond (is_nil f.here) None (Some f.prefix))) is
      | false ↦ λ out. let clash : None ≡ Some p = sym (no_match_outside out is_high) ∙ is in cc
    ] refl,
    elim is_high as (λ b. IsTrie (cond b f.high f.low)) [ true ↦ ok.6 | false ↦ ok.5 ],
  )

  pub match_below : (is_high : Bool) → leading_bits (f.prefix.len + 1) addr ≡ 2 * leading_bits f.prefix.len addr + cond is_high 1 0 → (is_nil f.here ≡ true) ⊎ (contains f.prefix addr ≡ true) → let child : Branch F V = cond is_high f.high f.low in IsMatchOf child × IsTrie child
  match_below is_high bit (inr in_f) = let m = match_child addr f ok in_f is_high bit in (m.0, m.2)
  match_below is_high bit (inl none) = (
    elim (contains f.prefix addr) as (λ b. contains f.prefix addr ≡ b → IsMatchOf (cond is_high f.high f.low)) [ true ↦ λ in_f. (match_child addr f ok in_f is_high bit).0 | false ↦ λ out. missed_by_all out none is_high ] refl,
    elim is_high as (λ b. IsTrie (cond b f.high f.low)) [ true ↦ ok.6 | false ↦ ok.5 ],
  )

-- no prefix of a fork that doesn't contain the address does
pub missed_fork : {F V : Type 0} (addr : ℕ) (b : Branch F V) (fork : Box (Fork F V) Global) → b ≡ ForkAt fork → IsTrie b → contains fork.value.prefix addr ≡ false → (last_match (routes b) addr ≡ None) × (matching_prefixes (routes b) addr ≡ 0)
missed_fork addr b fork is ok out =
    let p = fork.value.prefix in
    rw is (no_match addr (ForkAt fork) (subst IsTrie is ok) p.len (leading_bits p.len p.addr) (starts_itself p) (missed addr p out))

-- the match so far, or the fork's own where there is one
pub match_kept : {A : Type 0} (below own longest longer whole : Option A) → option_or (option_or below own) longest ≡ whole → option_or own longest ≡ longer → option_or below longer ≡ whole
match_kept below own longest longer whole e is = ap (option_or below) (sym is) ∙ sym (or_assoc below own longest) ∙ e

pub own_kept : {V : Type 0} (p : IpPrefix) (here : List (RouteKey × V)) (longest longer : Option IpPrefix) → is_nil here ≡ false → longer ≡ Some p → option_or (cond (is_nil here) None (Some p)) longest ≡ longer
own_kept p here longest longer held is = ap (λ b. option_or (cond b None (Some p)) longest) held ∙ sym is

pub own_none : {V : Type 0} (p : IpPrefix) (here : List (RouteKey × V)) (longest longer : Option IpPrefix) → is_nil here ≡ true → longer ≡ longest → option_or (cond (is_nil here) None (Some p)) longest ≡ longer
own_none p here longest longer none is = ap (λ b. option_or (cond b None (Some p)) longest) none ∙ sym is

-- the lengths of prefixes that start with some bits
pub longer : {V : Type 0} (len bits : ℕ) (es : List (RouteKey × V)) → All (λ e. Starts len bits e.0.prefix) es → All (λ e. len ≤ e.0.prefix.len) es
longer {V} len bits es h = All-weaker (λ (e : RouteKey × V). Starts len bits e.0.prefix) (λ (e : RouteKey × V). len ≤ e.0.prefix.len) (λ e s. s.long) es h

-- each branch lies under no bits at all
no_bits : (p : IpPrefix) → IsIpPrefix p → Starts 0 0 p
no_bits p known = record { long = omega arith; shared = let none : p.addr / 2 ^ 128 < 1 = div_below p.addr (2 ^ 128) 1 (omega arith) (omega (arith, known.fits)) in omega (arith, none) }

pub under_none : {F V : Type 0} (b : Branch F V) → IsTrie b → IsUnder 0 0 b
under_none Empty ok = tt
under_none {V} (Leaf l) ok = All-weaker (λ (e : RouteKey × V). IsIpPrefix e.0.prefix) (λ (e : RouteKey × V). Starts 0 0 e.0.prefix) (λ e is. no_bits e.0.prefix is) l ok.0.known
under_none (Fork' p prefix low high here) ok = no_bits prefix ok.0

-- the last match, entry by entry from the end
module _ {V : Type 0} (addr : ℕ) (es : List (RouteKey × V)) (k : ℕ) (e : RouteKey × V) (in_range : k < length es) (read : e ≡ get_or es k e) (none : last_match (drop (k + 1) es) addr ≡ None) where
  from_here : last_match (drop k es) addr ≡ cond (contains e.0.prefix addr) (Some e.0.prefix) None
  from_here =
      let next : suc k ≡ k + 1 = omega arith in
      let more : drop k es ≡ e ∷ drop (k + 1) es = drop-cons es k e in_range ∙ ap (λ (x : RouteKey × V). x ∷ drop (suc k) es) (sym read) ∙ ap (λ (n : ℕ). e ∷ drop n es) next in
      ap (λ (xs : List (RouteKey × V)). last_match xs addr) more ∙ ap (λ o. option_or o (cond (contains e.0.prefix addr) (Some e.0.prefix) None)) none

  pub last_at : contains e.0.prefix addr ≡ true → Some e.0.prefix ≡ last_match es addr
  last_at in_e =
      let here : last_match (drop k es) addr ≡ Some e.0.prefix = from_here ∙ ap (λ b. cond b (Some e.0.prefix) None) in_e in
      sym (ap (λ (xs : List (RouteKey × V)). last_match xs addr) (sym (take-append-drop k es)) ∙ last_match-append addr (take k es) (drop k es) ∙ ap (λ o. option_or o (last_match (take k es) addr)) here)
