-- Lists of routes in arrays, and in leaves one after another.
use Rattle.std.specs.Prelude.{◌≡◌, ◌≢◌, ℕ, zero, suc, ◌-◌, ◌<◌, ◌≤◌, ◌⊎◌, true, false, cond, T, List, [], ◌∷◌, ◌++◌, length, map, take, drop, slice_index_or, Option, Some, None}
use Rattle.std.specs.List.{All, insert, remove}
use Rattle.std.specs.List.Sorted.{IsPartitionPoint}
use Rattle.std.specs.Ordering.{is_lt, is_le}
use Rattle.std.specs.declared.cmp.Ordering.TheVariants.{Less, Greater}
use Rattle.std.specs.FinMap.{is_sorted}
use Rattle.bgp_prefix.specs.Prefixes.{IpPrefix, IsIpPrefix, prefix_cmp}
use Rattle.bgp_prefix.specs.Keys.{key_cmp, is_nil, RouteKey}
use lib.ListN.{replicate}

-- the routes of three arrays; an identifier that is not there is 0
abbrev pub routes_in : {V : Type 0} → List IpPrefix → List ℕ → List V → List (RouteKey × V)
routes_in [] ids vs = []
routes_in (p ∷ ps) ids [] = []
routes_in (p ∷ ps) [] (v ∷ vs) = (record { prefix = p; id = 0 }, v) ∷ routes_in ps [] vs
routes_in (p ∷ ps) (i ∷ is) (v ∷ vs) = (record { prefix = p; id = i }, v) ∷ routes_in ps is vs

-- a value each, and either an identifier each or none
pub record IsArrays {V : Type 0} (ps : List IpPrefix) (is : List ℕ) (vs : List V) : Type 0 where
  pub values : length vs ≡ length ps
  pub ids : (is ≡ []) ⊎ (length is ≡ length ps)

-- the identifiers with one more, written out only once one isn't 0
abbrev pub ids_put : ℕ → ℕ → ℕ → List ℕ → List ℕ
ids_put len at zero [] = []
ids_put len at (suc n) [] = insert (replicate len 0) at (suc n)
ids_put len at id (i ∷ is) = insert (i ∷ is) at id

abbrev pub ids_removed : ℕ → List ℕ → List ℕ
ids_removed at [] = []
ids_removed at (i ∷ is) = remove (i ∷ is) at

abbrev pub in_leaves : {V : Type 0} → List (List (RouteKey × V)) → List (RouteKey × V)
in_leaves [] = []
in_leaves (c ∷ cs) = c ++ in_leaves cs

abbrev pub first_key : {V : Type 0} → List (RouteKey × V) → RouteKey
first_key [] = record { prefix = record { addr = 0; len = 0 }; id = 0 }
first_key (e ∷ es) = e.0

-- the key that comes first
abbrev pub lesser_key : RouteKey → RouteKey → RouteKey
lesser_key k j = cond (is_lt (key_cmp k j)) k j

-- leaves that hold routes, in the order of their keys, and the first key of each
pub record AreNodes {V : Type 0} (ks : List RouteKey) (leaves : List (List (RouteKey × V))) : Type 0 where
  pub sorted : T (is_sorted key_cmp (in_leaves leaves))
  pub known : All (λ e. IsIpPrefix e.0.prefix) (in_leaves leaves)
  pub held : All (λ c. is_nil c ≡ false) leaves
  pub firsts : ks ≡ map first_key leaves

-- the routes of nodes, one node after another
abbrev pub routes_of : {A V : Type 0} → (A → List (RouteKey × V)) → List A → List (RouteKey × V)
routes_of routes nodes = in_leaves (map routes nodes)

-- a list in two, neither of them empty
pub record IsCut {V : Type 0} (es low high : List (RouteKey × V)) : Type 0 where
  pub whole : low ++ high ≡ es
  pub low_held : 0 < length low
  pub high_held : 0 < length high

-- what holds of each key of a list
abbrev pub EachKey : {V : Type 0} → (RouteKey → Type 0) → List (RouteKey × V) → Type 0
EachKey P [] = Unit {0}
EachKey P (e ∷ es) = P e.0 × EachKey P es

-- the branches of a map with keys of a width, how many routes they have, and a key that none of them comes after
pub record IsMap {V : Type 0} (width : ℕ) (ks : List RouteKey) (leaves : List (List (RouteKey × V))) (len : ℕ) (last : RouteKey) : Type 0 where
  pub branches : AreNodes ks leaves
  pub count : len ≡ length (in_leaves leaves)
  pub bound : EachKey (λ k. key_cmp k last ≢ Greater) (in_leaves leaves)
  pub short : EachKey (λ k. k.prefix.len ≤ width) (in_leaves leaves)

-- the index of the leaf in which the key is, or would go
pub record IsIndexOfKey {V : Type 0} (leaves : List (List (RouteKey × V))) (key : RouteKey) (i : ℕ) : Type 0 where
  pub in_range : i < length leaves
  pub before : EachKey (λ k. key_cmp k key ≡ Less) (in_leaves (take i leaves))
  pub after : EachKey (λ k. key_cmp k key ≡ Greater) (in_leaves (drop (suc i) leaves))

-- the index of the leaf in which the last prefix up to this one is, if any leaf has it
pub record IsIndexOfPrefix {V : Type 0} (leaves : List (List (RouteKey × V))) (last : IpPrefix) (i : ℕ) : Type 0 where
  pub in_range : i < length leaves
  pub before : EachKey (λ k. is_le (prefix_cmp k.prefix last) ≡ true) (in_leaves (take i leaves))
  pub after : EachKey (λ k. is_le (prefix_cmp k.prefix last) ≡ false) (in_leaves (drop (suc i) leaves))
  pub start : 0 < i → (d : List (RouteKey × V)) →
      is_le (prefix_cmp (first_key (slice_index_or leaves i d)).prefix last) ≡ true

-- the last prefix of the first count entries; none if there are none
abbrev pub IsBefore : {V : Type 0} → List (RouteKey × V) → ℕ → Option IpPrefix → Type 0
IsBefore es count None = count ≡ 0
IsBefore {V} es count (Some p) =
    (0 < count) × ((x : RouteKey × V) × (x ≡ slice_index_or es (count - 1) x) × (x.0.prefix ≡ p))

-- the last prefix up to this one, of a list in order: that of the last of the count entries up to it
pub record IsLastUpTo {V : Type 0} (es : List (RouteKey × V)) (last : IpPrefix) (p : Option IpPrefix) : Type 0 where
  pub count : ℕ
  pub inside : count ≤ length es
  pub end : IsPartitionPoint (λ e. is_le (prefix_cmp e.0.prefix last) ≡ true)
      (λ e. is_le (prefix_cmp e.0.prefix last) ≡ false) es count
  pub before : IsBefore es count p
