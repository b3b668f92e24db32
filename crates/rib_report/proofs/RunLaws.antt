-- Sets of keys in order, and what all items of a list have.
use Rattle.std.proofs.Common.{◌≡◌, ◌≢◌, ℕ, suc, ◌<◌, get_or, Bool, true, false, cond, List, [], ◌∷◌, ◌++◌, Some, None, refl, sym, ap, ◌∙◌, map, length, arith}
use Rattle.std.specs.declared.cmp.Ordering.{Ordering}
use Rattle.std.specs.declared.cmp.Ordering.TheVariants.{Less, Equal, Greater}
use Rattle.std.specs.Ordering.{eq_by_cmp, is_lt, ordering_reverse}
use Rattle.std.specs.Cmp.{IsTotalOrder}
use Rattle.std.specs.List.{AllByRecursion, filter, list_any}
use Rattle.std.specs.FinMap.Entries.{by_order, put, find, same_entries}
use Rattle.std.proofs.lemmas.Cmp.{tied_itself}
use Rattle.bgp_prefix.specs.Ordered.{tabulated}
use Rattle.bgp_prefix.proofs.OrderedLaws.{is_sorted-tabulated, find-tabulated}

abbrev pub set_of : {K : Type 0} → (K → K → Ordering) → List K → List (K × Unit {0})
set_of cmp ks = tabulated cmp (λ _. Some tt) ks

abbrev pub hit : Bool → ℕ
hit b = cond b 1 0

pub map_same : {X Y : Type 0} (f h : X → Y) (xs : List X) → AllByRecursion (λ x. f x ≡ h x) xs → map f xs ≡ map h xs
map_same f h [] all = refl
map_same f h (x ∷ xs) all = ap (λ y. y ∷ map f xs) all.0 ∙ ap (λ l. h x ∷ l) (map_same f h xs all.1)

pub filter_none : {X : Type 0} (p : X → Bool) (xs : List X) → AllByRecursion (λ x. p x ≡ false) xs → filter p xs ≡ []
filter_none p [] h = refl
filter_none p (x ∷ xs) h = ap (λ b. cond b (x ∷ filter p xs) (filter p xs)) h.0 ∙ filter_none p xs h.1

pub filter-map : {X Y : Type 0} (p : Y → Bool) (f : X → Y) (xs : List X) → filter p (map f xs) ≡ map f (filter (λ x. p (f x)) xs)
filter-map p f [] = refl
filter-map p f (x ∷ xs) = elim (p (f x)) as (λ b. cond b (f x ∷ filter p (map f xs)) (filter p (map f xs)) ≡ map f (cond b (x ∷ filter (λ y. p (f y)) xs) (filter (λ y. p (f y)) xs))) [ true ↦ ap (λ l. f x ∷ l) (filter-map p f xs) | false ↦ filter-map p f xs ]

pub all_weaker : {X : Type 0} {P Q : X → Type 0} → ((x : X) → P x → Q x) → (xs : List X) → AllByRecursion P xs → AllByRecursion Q xs
all_weaker f [] h = tt
all_weaker f (x ∷ xs) h = (f x h.0, all_weaker f xs h.1)

pub all_from_index : {X : Type 0} (P : X → Type 0) (xs : List X) → ((k : ℕ) (d : X) → k < length xs → P (get_or xs k d)) → AllByRecursion P xs
all_from_index P [] f = tt
all_from_index P (x ∷ xs) f = (f 0 x (omega arith), all_from_index P xs (λ k d h. f (suc k) d (omega (arith, h))))

pub all_mapped : {X Y : Type 0} (f : X → Y) (P : X → Type 0) (Q : Y → Type 0) → ((x : X) → P x → Q (f x)) → (xs : List X) → AllByRecursion P xs → AllByRecursion Q (map f xs)
all_mapped f P Q step [] h = tt
all_mapped f P Q step (x ∷ xs) h = (step x h.0, all_mapped f P Q step xs h.1)

module _ {K : Type 0} {cmp : K → K → Ordering} (o : IsTotalOrder cmp) where
  below_put : (x k : K) (es : List (K × Unit {0})) → cmp x k ≡ Less → AllByRecursion (λ e. cmp x e.0 ≡ Less) es → AllByRecursion (λ e. cmp x e.0 ≡ Less) (put cmp k tt es)
  below_put x k [] p h = (p, tt)
  below_put x k (e ∷ es) p h =
      elim (cmp k e.0) as (λ r. AllByRecursion (λ (f : K × Unit {0}). cmp x f.0 ≡ Less) (by_order r ((k, tt) ∷ e ∷ es) ((e.0, tt) ∷ es) (e ∷ put cmp k tt es))) [
        | Less ↦ (p, h)
        | Equal ↦ h
        | Greater ↦ (h.0, below_put x k es p h.1)
      ]

  pub below_set : (x : K) (ks : List K) → AllByRecursion (λ k. cmp x k ≡ Less) ks → AllByRecursion (λ e. cmp x e.0 ≡ Less) (set_of cmp ks)
  below_set x [] h = tt
  below_set x (k ∷ ks) h = below_put x k (set_of cmp ks) h.0 (below_set x ks h.1)

  pub put_front : (p : K) (es : List (K × Unit {0})) → AllByRecursion (λ e. cmp p e.0 ≡ Less) es → put cmp p tt es ≡ (p, tt) ∷ es
  put_front p [] h = refl
  put_front p (e ∷ es) h = ap (λ r. by_order r ((p, tt) ∷ e ∷ es) ((e.0, tt) ∷ es) (e ∷ put cmp p tt es)) h.0

  -- a run of p, and then greater keys
  pub set_run : (p : K) (same rest : List K) → AllByRecursion (λ k. k ≡ p) same → AllByRecursion (λ k. cmp p k ≡ Less) rest → set_of cmp (p ∷ (same ++ rest)) ≡ (p, tt) ∷ set_of cmp rest
  set_run p [] rest h above = put_front p (set_of cmp rest) (below_set p rest above)
  set_run p (s ∷ same) rest h above =
      let inner : set_of cmp (s ∷ (same ++ rest)) ≡ (p, tt) ∷ set_of cmp rest = ap (λ k. set_of cmp (k ∷ (same ++ rest))) h.0 ∙ set_run p same rest h.1 above in
      ap (put cmp p tt) inner ∙ ap (λ r. by_order r ((p, tt) ∷ (p, tt) ∷ set_of cmp rest) ((p, tt) ∷ set_of cmp rest) ((p, tt) ∷ put cmp p tt (set_of cmp rest))) (tied_itself o p)

  -- the same keys
  pub set_same : ((x y : K) → cmp x y ≡ Equal → x ≡ y) → (xs ys : List K) → ((q : K) → list_any (eq_by_cmp cmp q) xs ≡ list_any (eq_by_cmp cmp q) ys) → set_of cmp xs ≡ set_of cmp ys
  set_same exact xs ys same =
      let at : (q : K) (ks : List K) → find cmp q (set_of cmp ks) ≡ cond (list_any (eq_by_cmp cmp q) ks) (Some tt) None = λ q ks. find-tabulated o (λ _. Some tt) (λ _ _ _. refl) q ks in
      same_entries cmp o exact (set_of cmp xs) (set_of cmp ys) (is_sorted-tabulated o (λ _. Some tt) xs) (is_sorted-tabulated o (λ _. Some tt) ys) (λ q. at q xs ∙ ap (λ b. cond b (Some tt) None) (same q) ∙ sym (at q ys))
