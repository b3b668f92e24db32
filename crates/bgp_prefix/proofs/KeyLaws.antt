-- Lists of entries by key: lookups in parts, and changes of a part.
use Rattle.std.proofs.Common.{◌≡◌, ℕ, ◌<◌, Bool, true, false, cond, ◌&&◌, eqb, ltb, List, [], ◌∷◌, ◌++◌, Option, Some, None, refl, sym, ap, ◌∙◌, arith}
use Rattle.std.specs.Ordering.{nat_cmp, is_eq, eq_by_cmp, ordering_then}
use Rattle.std.specs.Option.{option_or}
use Rattle.std.specs.Cmp.{IsTotalOrder}
use Rattle.std.specs.declared.cmp.Ordering.{Ordering}
use Rattle.std.specs.declared.cmp.Ordering.TheVariants.{Less, Equal, Greater}
use Rattle.std.specs.FinMap.{find}
use Rattle.std.proofs.lemmas.Bool.{ltb-true, eqb-true, eq-eqb, and_parts}
use Rattle.std.proofs.lemmas.Cmp.{on_total, then_total, nat_cmp_total}
use Rattle.std.proofs.lemmas.Map.Lookups.{exact_pairs, exact_unsigned}
use Rattle.bgp_prefix.specs.Prefixes.{IpPrefix, prefix_cmp, prefix_eq}
use Rattle.bgp_prefix.specs.Keys.{key_cmp, Changes, RouteKey}

pub prefix_cmp_total : IsTotalOrder prefix_cmp
prefix_cmp_total = then_total (on_total (λ (p : IpPrefix). p.addr) nat_cmp_total) (on_total (λ (p : IpPrefix). p.len) nat_cmp_total)

pub prefix_cmp_exact : (p q : IpPrefix) → prefix_cmp p q ≡ Equal → p ≡ q
prefix_cmp_exact p q h = ap (λ (e : ℕ × ℕ). record { addr = e.0; len = e.1 }) (exact_pairs nat_cmp nat_cmp exact_unsigned exact_unsigned (p.addr, p.len) (q.addr, q.len) h)

pub key_cmp_total : IsTotalOrder key_cmp
key_cmp_total = then_total (on_total (λ (k : RouteKey). k.prefix) prefix_cmp_total) (on_total (λ (k : RouteKey). k.id) nat_cmp_total)

pub key_cmp_exact : (j k : RouteKey) → key_cmp j k ≡ Equal → j ≡ k
key_cmp_exact j k h = ap (λ (e : IpPrefix × ℕ). record { prefix = e.0; id = e.1 }) (exact_pairs prefix_cmp nat_cmp prefix_cmp_exact exact_unsigned (j.prefix, j.id) (k.prefix, k.id) h)

-- in two lists, one after the other
pub find-parts : {V : Type 0} (q : RouteKey) (es fs : List (RouteKey × V)) → find key_cmp q (es ++ fs) ≡ option_or (find key_cmp q es) (find key_cmp q fs)
find-parts q [] fs = refl
find-parts q (e ∷ es) fs =
    elim (eq_by_cmp key_cmp q e.0) as (λ b. cond b (Some e.1) (find key_cmp q (es ++ fs)) ≡ option_or (cond b (Some e.1) (find key_cmp q es)) (find key_cmp q fs)) [ true ↦ refl | false ↦ find-parts q es fs ]

pub not_true : (b : Bool) → (b ≡ true → ⊥) → false ≡ b
not_true true h = absurd (h refl)
not_true false h = refl

number_tied : (a b : ℕ) → is_eq (nat_cmp a b) ≡ eqb a b
number_tied a b =
    elim (ltb a b) as (λ v. ltb a b ≡ v → is_eq (cond v Less (cond (eqb a b) Equal Greater)) ≡ eqb a b) [
      | true ↦ λ e. let lt : a < b = ltb-true a b e in not_true (eqb a b) (λ same. let is : a ≡ b = eqb-true a b same in omega (arith, lt, is))
      | false ↦ λ e. elim (eqb a b) as (λ v. is_eq (cond v Equal Greater) ≡ v) [ true ↦ refl | false ↦ refl ]
    ] refl

tied_then : (r o : Ordering) → is_eq (ordering_then r o) ≡ (is_eq r && is_eq o)
tied_then Less o = refl
tied_then Equal o = refl
tied_then Greater o = refl

-- the prefixes that tie are those whose fields are equal
pub prefix_tied : (p q : IpPrefix) → eq_by_cmp prefix_cmp p q ≡ prefix_eq p q
prefix_tied p q = tied_then (nat_cmp p.addr q.addr) (nat_cmp p.len q.len) ∙ ap (λ b. b && is_eq (nat_cmp p.len q.len)) (number_tied p.addr q.addr) ∙ ap (λ b. eqb p.addr q.addr && b) (number_tied p.len q.len)

pub or_none : {A : Type 0} (o : Option A) → option_or o None ≡ o
or_none None = refl
or_none (Some x) = refl

tied_equal : (r : Ordering) → is_eq r ≡ true → r ≡ Equal
tied_equal Less e = cc
tied_equal Equal e = refl
tied_equal Greater e = cc

pub tied_same : (q k : RouteKey) → eq_by_cmp key_cmp q k ≡ true → q ≡ k
tied_same q k t = key_cmp_exact q k (tied_equal _ t)

change_before : {V : Type 0} (b : Bool) (m y z v : Option V) → (b ≡ true → y ≡ None) → m ≡ cond b v z → option_or m y ≡ cond b v (option_or z y)
change_before true m y z v none is = rw (none refl, is) (or_none v)
change_before false m y z v none is = rw is

change_after : {V : Type 0} (b : Bool) (m x z v : Option V) → (b ≡ true → x ≡ None) → m ≡ cond b v z → option_or x m ≡ cond b v (option_or x z)
change_after true m x z v none is = rw (none refl, is)
change_after false m x z v none is = rw is

-- a change of a part is one of the whole, where the other part doesn't have the key
pub Changes-front : {V : Type 0} (old new after : List (RouteKey × V)) (key : RouteKey) (v : Option V) → find key_cmp key after ≡ None → Changes old new key v → Changes (old ++ after) (new ++ after) key v
Changes-front old new after key v none is q =
    find-parts q new after
    ∙ change_before (eq_by_cmp key_cmp q key) _ _ _ v (λ t. rw (tied_same q key t) none) (is q)
    ∙ ap (cond (eq_by_cmp key_cmp q key) v) (sym (find-parts q old after))

pub Changes-back : {V : Type 0} (before old new : List (RouteKey × V)) (key : RouteKey) (v : Option V) → find key_cmp key before ≡ None → Changes old new key v → Changes (before ++ old) (before ++ new) key v
Changes-back before old new key v none is q =
    find-parts q before new
    ∙ change_after (eq_by_cmp key_cmp q key) _ _ _ v (λ t. rw (tied_same q key t) none) (is q)
    ∙ ap (cond (eq_by_cmp key_cmp q key) v) (sym (find-parts q before old))

pub same_prefix : (p q : IpPrefix) → prefix_eq p q ≡ true → p ≡ q
same_prefix p q e = let parts = and_parts _ _ e in let a : p.addr ≡ q.addr = eqb-true _ _ parts.0 in let l : p.len ≡ q.len = eqb-true _ _ parts.1 in λ i. record { addr = a i; len = l i }

pub other_prefix : (p q : IpPrefix) → prefix_eq p q ≡ false → q ≡ p → ⊥
other_prefix p q e same = let tied : prefix_eq p q ≡ true = rw same (rw (eq-eqb p.addr p.addr refl, eq-eqb p.len p.len refl)) in let clash : false ≡ true = sym e ∙ tied in cc
