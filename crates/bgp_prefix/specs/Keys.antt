-- Keys of routes, and lists of entries by key.
use Rattle.std.specs.Prelude.{◌≡◌, ℕ, ◌+◌, ◌&&◌, ◌==◌, not, List, [], ◌∷◌, Bool, true, false, cond, Option, Some, None}
use Rattle.std.specs.List.{list_any}
use Rattle.std.specs.Option.{option_or}
use Rattle.std.specs.Borrow.{Bor}
use Rattle.std.specs.declared.cmp.Ordering.{Ordering}
use Rattle.std.specs.Ordering.{nat_cmp, ordering_then, eq_by_cmp}
use Rattle.std.specs.FinMap.{find}
use Rattle.bgp_prefix.specs.Prefixes.{IpPrefix, contains, prefix_cmp, prefix_eq}
use Rattle.bgp_prefix.specs.declared.key.RouteKey.{RouteKey as KeyOf}

-- a prefix with a path identifier (RFC 7911, 3)
abbrev pub RouteKey : Type 0
RouteKey = KeyOf IpPrefix

-- by prefix, and then by identifier
abbrev pub key_cmp : RouteKey → RouteKey → Ordering
key_cmp j k = ordering_then (prefix_cmp j.prefix k.prefix) (nat_cmp j.id k.id)

-- the same prefix and identifier
abbrev pub key_eq : RouteKey → RouteKey → Bool
key_eq j k = prefix_eq j.prefix k.prefix && (j.id == k.id)

-- the key is one of these
abbrev pub among : List RouteKey → RouteKey → Bool
among keys k = list_any (key_eq k) keys

-- the list new answers as old does, but v at the key
abbrev pub Changes : {V : Type 0} → List (RouteKey × V) → List (RouteKey × V) → RouteKey → Option V → Type 0
Changes old new key v = (q : RouteKey) → find key_cmp q new ≡ cond (eq_by_cmp key_cmp q key) v (find key_cmp q old)

-- the prefix of the last entry whose prefix contains the address
abbrev pub last_match : {V : Type 0} → List (RouteKey × V) → ℕ → Option IpPrefix
last_match [] addr = None
last_match (e ∷ es) addr = option_or (last_match es addr) (cond (contains e.0.prefix addr) (Some e.0.prefix) None)

abbrev pub is_nil : {A : Type 0} → List A → Bool
is_nil [] = true
is_nil (x ∷ xs) = false

-- whether the list begins with the prefix
abbrev pub begins_with : {V : Type 0} → IpPrefix → List (RouteKey × V) → Bool
begins_with p [] = false
begins_with p (e ∷ es) = prefix_eq p e.0.prefix

-- the number of prefixes that contain the address, in a list in which those of one prefix stand together
abbrev pub matching_prefixes : {V : Type 0} → List (RouteKey × V) → ℕ → ℕ
matching_prefixes [] addr = 0
matching_prefixes (e ∷ es) addr =
    cond (contains e.0.prefix addr && not (begins_with e.0.prefix es)) 1 0 + matching_prefixes es addr

-- entries with the values behind their references
abbrev pub entries_now : {V : Type 0} → List (RouteKey × Bor V) → List (RouteKey × V)
entries_now [] = []
entries_now (e ∷ es) = (e.0, e.1.now) ∷ entries_now es
