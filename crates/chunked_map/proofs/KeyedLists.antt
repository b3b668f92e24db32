-- Lists of routes by their keys: what holds of each key, and keys below and above all of them.
use Rattle.std.proofs.Common.{◌≡◌, ◌≢◌, ℕ, zero, suc, ◌==◌, ◌-◌, ◌<◌, ◌≤◌, Bool, true, false, cond, not, ◌&&◌, T, List, [], ◌∷◌, ◌++◌, length, get_or, take, drop, map, Some, None, Result, Ok, Err, OnOk, OnErr, refl, sym, ap, ◌∙◌, subst, arith}
use Rattle.std.specs.List.{All, insert, remove}
use Rattle.std.specs.Ordering.{is_lt, is_le, eq_by_cmp}
use Rattle.std.specs.declared.cmp.Ordering.TheVariants.{Less, Equal, Greater}
use Rattle.std.specs.FinMap.{find, put, is_sorted}
use Rattle.std.specs.FinMap.Entries.{below_all, by_order}
use Rattle.std.proofs.Math.Dec.{eqb-suc-zero}
use Rattle.std.proofs.lemmas.List.Elements.{All-nil, All-cons, All-take, All-drop, All-append}
use Rattle.std.proofs.lemmas.List.{get_or-map}
use Rattle.bgp_prefix.specs.Prefixes.{IpPrefix, prefix_cmp}
use Rattle.bgp_prefix.specs.Keys.{key_cmp, is_nil, RouteKey}
use Rattle.chunked_map.specs.ChunkedMaps.{EachKey}
use Rattle.prefix_maps.proofs.JumpLaws.{first_up_to}
use Rattle.bgp_prefix.proofs.KeyLaws.{key_cmp_total, key_cmp_exact}
use Rattle.bgp_prefix.proofs.SearchLaws.{turn, first, second, less, tied_less, tied_greater}
use Rattle.bgp_prefix.proofs.SortedMaps.{less_of}
use Rattle.prefix_maps.proofs.RemoveLaws.{without}

-- what a search has left of a list: P holds of the item before, and Q of the one at the end
pub record IsNarrowed {X : Type 0} (P Q : X → Type 0) (xs : List X) (low high : ℕ) : Type 0 where
  pub order : low ≤ high
  pub inside : high ≤ length xs
  pub below : 0 < low → (d : X) → P (get_or xs (low - 1) d)
  pub above : high < length xs → (d : X) → Q (get_or xs high d)

-- and where nothing is left
pub narrowed : {X : Type 0} (P Q : X → Type 0) (xs : List X) (low high : ℕ) → IsNarrowed P Q xs low high → high ≤ low → IsNarrowed P Q xs low low
narrowed P Q xs low high is met = let same : high ≡ low = omega (arith, met, is.order) in subst (IsNarrowed P Q xs low) same is

pub node_read : {A B : Type 0} (f : A → B) (xs : List A) (i : ℕ) (x : A) → i < length xs → x ≡ get_or xs i x → f x ≡ get_or (map f xs) i (f x)
node_read f xs i x lt read = ap f read ∙ sym (get_or-map f xs i x (f x) lt)

pub map_insert : {A B : Type 0} (f : A → B) (xs : List A) (i : ℕ) (x : A) → map f (insert xs i x) ≡ insert (map f xs) i (f x)
map_insert f [] zero x = refl
map_insert f [] (suc i) x = refl
map_insert f (y ∷ xs) zero x = refl
map_insert f (y ∷ xs) (suc i) x = ap (λ t. f y ∷ t) (map_insert f xs i x)

pub empty_nodes : {A B : Type 0} (f : A → B) (xs : List A) (n : ℕ) → n ≡ length xs → (n == 0) ≡ is_nil (map f xs)
empty_nodes f [] n e = rw e refl
empty_nodes f (x ∷ xs) n e = rw e (eqb-suc-zero (length xs))

pub on_err : {X Y Q : Type 0} (r : Result X Y) → Q → OnErr r Q
on_err (Ok x) q = tt
on_err (Err e) q = q

pub either_way : {X Y P Q R : Type 0} (r : Result X Y) → (P → R) → (Q → R) → OnOk r P → OnErr r Q → R
either_way (Ok x) f g p q = f p
either_way (Err e) f g p q = g q

pub map_remove : {A B : Type 0} (f : A → B) (xs : List A) (i : ℕ) → map f (remove xs i) ≡ remove (map f xs) i
map_remove f [] zero = refl
map_remove f [] (suc i) = refl
map_remove f (y ∷ xs) zero = refl
map_remove f (y ∷ xs) (suc i) = ap (λ t. f y ∷ t) (map_remove f xs i)

pub less_past : (key k j : RouteKey) → key_cmp k j ≡ Less → key_cmp j key ≢ Greater → key_cmp k key ≡ Less
less_past key k j less other = elim (key_cmp j key) as (λ r. key_cmp j key ≡ r → key_cmp k key ≡ Less) [
  | Less ↦ λ e. key_cmp_total.trans k j key less e
  | Equal ↦ λ e. subst (λ (q : RouteKey). key_cmp k q ≡ Less) (key_cmp_exact j key e) less
  | Greater ↦ λ e. absurd (other e)
] refl

pub more_past : (key j k : RouteKey) → key_cmp j k ≡ Less → key_cmp j key ≡ Greater → key_cmp k key ≡ Greater
more_past key j k less above = turn key_cmp key_cmp_total key k Less (key_cmp_total.trans key j k (turn key_cmp key_cmp_total j key Greater above) less)

-- keys beside one that no key of a list comes after
pub below_past : (k bound key : RouteKey) → key_cmp k bound ≢ Greater → key_cmp bound key ≡ Less → key_cmp k key ≡ Less
below_past k bound key other less = elim (key_cmp k bound) as (λ r. key_cmp k bound ≡ r → key_cmp k key ≡ Less) [
  | Less ↦ λ e. key_cmp_total.trans k bound key e less
  | Equal ↦ λ e. subst (λ (q : RouteKey). key_cmp q key ≡ Less) (sym (key_cmp_exact k bound e)) less
  | Greater ↦ λ e. absurd (other e)
] refl

pub less_other : (j k : RouteKey) → key_cmp j k ≡ Less → key_cmp j k ≢ Greater
less_other j k less = λ more. let clash : Less ≡ Greater = sym less ∙ more in cc

pub same_other : (k : RouteKey) → key_cmp k k ≢ Greater
same_other k = λ more. let clash : Less ≡ Greater = sym (turn key_cmp key_cmp_total k k Greater more) ∙ more in cc

pub All-insert : {X : Type 0} (P : X → Type 0) (xs : List X) (i : ℕ) (x : X) → P x → All P xs → All P (insert xs i x)
All-insert P xs i x one all = All-append P (take i xs) (x ∷ drop i xs) (All-take P i xs all) (All-cons P x (drop i xs) one (All-drop P i xs all))

abbrev pub le : IpPrefix → RouteKey → Bool
le p k = is_le (prefix_cmp k.prefix p)

pub up_to_pair : (p : IpPrefix) (j k : RouteKey) → key_cmp j k ≡ Less → is_le (prefix_cmp k.prefix p) ≡ true → is_le (prefix_cmp j.prefix p) ≡ true
up_to_pair p j k less le =
    let es : List (RouteKey × Unit {0}) = (j, tt) ∷ (k, tt) ∷ [] in
    let sorted : T (is_sorted key_cmp es) = subst (λ r. T ((is_lt r && true) && (true && true))) (sym less) tt in
    first_up_to es p sorted 0 1 (j, tt) (omega arith) (omega arith) le

pub up_to_false : (p : IpPrefix) (j k : RouteKey) → key_cmp j k ≡ Less → is_le (prefix_cmp j.prefix p) ≡ false → is_le (prefix_cmp k.prefix p) ≡ false
up_to_false p j k less other = elim (is_le (prefix_cmp k.prefix p)) as (λ b. is_le (prefix_cmp k.prefix p) ≡ b → b ≡ false) [
  | true ↦ λ e. let clash : true ≡ false = sym (up_to_pair p j k less e) ∙ other in cc
  | false ↦ λ e. refl
] refl

module _ {V : Type 0} where
  -- every key of a list below a key, or above it
  abbrev pub EachBelow : RouteKey → List (RouteKey × V) → Type 0
  EachBelow key es = EachKey (λ k. key_cmp k key ≡ Less) es

  abbrev pub EachAbove : RouteKey → List (RouteKey × V) → Type 0
  EachAbove key es = EachKey (λ k. key_cmp k key ≡ Greater) es

  pub each_append : (P : RouteKey → Type 0) (es fs : List (RouteKey × V)) → EachKey P es → EachKey P fs → EachKey P (es ++ fs)
  each_append P [] fs a b = b
  each_append P (e ∷ es) fs a b = (a.0, each_append P es fs a.1 b)

  pub each_first : (P : RouteKey → Type 0) (es fs : List (RouteKey × V)) → EachKey P (es ++ fs) → EachKey P es
  each_first P [] fs h = tt
  each_first P (e ∷ es) fs h = (h.0, each_first P es fs h.1)

  pub each_second : (P : RouteKey → Type 0) (es fs : List (RouteKey × V)) → EachKey P (es ++ fs) → EachKey P fs
  each_second P [] fs h = h
  each_second P (e ∷ es) fs h = each_second P es fs h.1

  pub each_weaker : (P Q : RouteKey → Type 0) (es : List (RouteKey × V)) → ((k : RouteKey) → P k → Q k) → EachKey P es → EachKey Q es
  each_weaker P Q [] f h = tt
  each_weaker P Q (e ∷ es) f h = (f e.0 h.0, each_weaker P Q es f h.1)

  -- below a bound that is below a key
  pub below_bound : (bound key : RouteKey) (es : List (RouteKey × V)) → is_lt (key_cmp bound key) ≡ true → EachKey (λ k. key_cmp k bound ≢ Greater) es → EachBelow key es
  below_bound bound key es lt all = each_weaker (λ k. key_cmp k bound ≢ Greater) (λ k. key_cmp k key ≡ Less) es (λ k other. below_past k bound key other (less_of _ lt)) all

  pub find_below : (k : RouteKey) (es : List (RouteKey × V)) → EachBelow k es → find key_cmp k es ≡ None
  find_below k [] h = refl
  find_below k (e ∷ es) h = ap (λ b. cond b (Some e.1) (find key_cmp k es)) (tied_less key_cmp key_cmp_total e.0 k h.0) ∙ find_below k es h.1

  pub find_above : (k : RouteKey) (es : List (RouteKey × V)) → EachAbove k es → find key_cmp k es ≡ None
  find_above k [] h = refl
  find_above k (e ∷ es) h = ap (λ b. cond b (Some e.1) (find key_cmp k es)) (tied_greater key_cmp key_cmp_total e.0 k h.0) ∙ find_above k es h.1

  pub put_below : (k : RouteKey) (v : V) (es fs : List (RouteKey × V)) → EachBelow k es → put key_cmp k v (es ++ fs) ≡ es ++ put key_cmp k v fs
  put_below k v [] fs h = refl
  put_below k v (e ∷ es) fs h = ap (λ r. by_order r ((k, v) ∷ e ∷ (es ++ fs)) ((e.0, v) ∷ (es ++ fs)) (e ∷ put key_cmp k v (es ++ fs))) (turn key_cmp key_cmp_total e.0 k Less h.0) ∙ ap (λ t. e ∷ t) (put_below k v es fs h.1)

  put_at_head : (k : RouteKey) (v : V) (fs : List (RouteKey × V)) → EachAbove k fs → put key_cmp k v fs ≡ (k, v) ∷ fs
  put_at_head k v [] h = refl
  put_at_head k v (f ∷ fs) h = ap (λ r. by_order r ((k, v) ∷ f ∷ fs) ((f.0, v) ∷ fs) (f ∷ put key_cmp k v fs)) (turn key_cmp key_cmp_total f.0 k Greater h.0)

  pub put_above : (k : RouteKey) (v : V) (es fs : List (RouteKey × V)) → EachAbove k fs → put key_cmp k v (es ++ fs) ≡ put key_cmp k v es ++ fs
  put_above k v [] fs h = put_at_head k v fs h
  put_above k v (e ∷ es) fs h = elim (key_cmp k e.0) as (λ r. by_order r ((k, v) ∷ e ∷ (es ++ fs)) ((e.0, v) ∷ (es ++ fs)) (e ∷ put key_cmp k v (es ++ fs)) ≡ by_order r ((k, v) ∷ e ∷ es) ((e.0, v) ∷ es) (e ∷ put key_cmp k v es) ++ fs) [
    | Less ↦ refl
    | Equal ↦ refl
    | Greater ↦ ap (λ t. e ∷ t) (put_above k v es fs h)
  ]

  pub put_last : (k : RouteKey) (v : V) (es : List (RouteKey × V)) → EachBelow k es → put key_cmp k v es ≡ es ++ (k, v) ∷ []
  put_last k v [] h = refl
  put_last k v (e ∷ es) h = ap (λ r. by_order r ((k, v) ∷ e ∷ es) ((e.0, v) ∷ es) (e ∷ put key_cmp k v es)) (turn key_cmp key_cmp_total e.0 k Less h.0) ∙ ap (λ t. e ∷ t) (put_last k v es h.1)

  pub each_put : (P : RouteKey → Type 0) (k : RouteKey) (v : V) (es : List (RouteKey × V)) → P k → EachKey P es → EachKey P (put key_cmp k v es)
  each_put P k v [] one h = (one, tt)
  each_put P k v (e ∷ es) one h = elim (key_cmp k e.0) as (λ r. EachKey P (by_order r ((k, v) ∷ e ∷ es) ((e.0, v) ∷ es) (e ∷ put key_cmp k v es))) [ Less ↦ (one, h) | Equal ↦ h | Greater ↦ (h.0, each_put P k v es one h.1) ]

  pub each_without : (P : RouteKey → Type 0) (k : RouteKey) (es : List (RouteKey × V)) → EachKey P es → EachKey P (without k es)
  each_without P k [] h = tt
  each_without P k (e ∷ es) h = elim (eq_by_cmp key_cmp k e.0) as (λ b. EachKey P (cond (not b) (e ∷ without k es) (without k es))) [ true ↦ each_without P k es h.1 | false ↦ (h.0, each_without P k es h.1) ]

  pub without_below : (k : RouteKey) (es : List (RouteKey × V)) → EachBelow k es → without k es ≡ es
  without_below k [] h = refl
  without_below k (e ∷ es) h = ap (λ b. cond (not b) (e ∷ without k es) (without k es)) (tied_less key_cmp key_cmp_total e.0 k h.0) ∙ ap (λ t. e ∷ t) (without_below k es h.1)

  pub without_above : (k : RouteKey) (es : List (RouteKey × V)) → EachAbove k es → without k es ≡ es
  without_above k [] h = refl
  without_above k (e ∷ es) h = ap (λ b. cond (not b) (e ∷ without k es) (without k es)) (tied_greater key_cmp key_cmp_total e.0 k h.0) ∙ ap (λ t. e ∷ t) (without_above k es h.1)

  -- the keys of a list in order before one, and after one
  below_last : (k : RouteKey) (j : RouteKey) (v : V) (es fs : List (RouteKey × V)) → T (below_all key_cmp k (es ++ (j, v) ∷ fs)) → key_cmp k j ≡ Less
  below_last k j v [] fs h = less _ (first _ _ h)
  below_last k j v (e ∷ es) fs h = below_last k j v es fs (second _ _ h)

  pub each_before : (j : RouteKey) (v : V) (es fs : List (RouteKey × V)) → T (is_sorted key_cmp (es ++ (j, v) ∷ fs)) → EachBelow j es
  each_before j v [] fs h = tt
  each_before j v (e ∷ es) fs h = (below_last e.0 j v es fs (first _ _ h), each_before j v es fs (second _ _ h))

  pub each_below_all : (j : RouteKey) (fs : List (RouteKey × V)) → T (below_all key_cmp j fs) → EachKey (λ k. key_cmp j k ≡ Less) fs
  each_below_all j [] h = tt
  each_below_all j (f ∷ fs) h = (less _ (first _ _ h), each_below_all j fs (second _ _ h))

-- what holds of each key, by position
pub all_of_each : {V : Type 0} (P : RouteKey → Type 0) (es : List (RouteKey × V)) → EachKey P es → All (λ e. P e.0) es
all_of_each {V} P [] h = All-nil (λ (e : RouteKey × V). P e.0)
all_of_each {V} P (e ∷ es) h = All-cons (λ (d : RouteKey × V). P d.0) e es h.0 (all_of_each P es h.1)
