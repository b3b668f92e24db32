-- Lists of entries, one of each peer in the order of keys, and what they are merged to by prefix.
use Rattle.std.specs.Prelude.{◌≡◌, ◌⊎◌, ℕ, ◌+◌, ◌^◌, ◌<◌, ◌==◌, ◌&&◌, not, Bool, true, false, List, [], ◌∷◌, ◌++◌, length, map, Option, Some, None, T, if◌then◌else◌}
use Rattle.std.specs.List.{filter, flat_map, list_any, AllByRecursion, sum_by}
use Rattle.std.specs.BinaryHeap.{IsHeap, KeepsHeap}
use Rattle.std.specs.List.Sorted.{IsPermutation}
use Rattle.std.specs.FinMap.{is_sorted}
use Rattle.std.specs.Ordering.{nat_cmp, ordering_then}
use Rattle.std.specs.declared.cmp.Ordering.{Ordering}
use Rattle.std.specs.declared.cmp.Ordering.TheVariants.{Less}
use Rattle.std.specs.declared.cmp.Reverse.{Reverse}
use Rattle.bgp_prefix.specs.Prefixes.{IpPrefix, prefix_cmp, prefix_eq}
use Rattle.bgp_prefix.specs.Keys.{RouteKey, key_cmp, begins_with}
use Rattle.bgp_prefix.specs.Ordered.{in_order}
use Rattle.bgp_update.specs.declared.route.Route.{Route}
use Rattle.mrt_writing.specs.RibRecords.{PrefixRoute}
use Rattle.table_dumps.specs.Checkpoints.{Split, PrefixPart, parts_of, prefix_route}

abbrev pub Entries : Type 0
Entries = List (RouteKey × Route)

abbrev pub entry_of : IpPrefix → ℕ → Route → RouteKey × Route
entry_of prefix id route = (record { prefix = prefix; id = id }, route)

abbrev pub first_prefix : Entries → Option IpPrefix
first_prefix [] = None
first_prefix (e ∷ es) = Some e.0.prefix

abbrev pub has_prefix : IpPrefix → RouteKey × Route → Bool
has_prefix prefix e = prefix_eq prefix e.0.prefix

-- the prefixes of all lists
abbrev pub prefixes_among : List Entries → List IpPrefix
prefixes_among lists = flat_map (λ es. map (λ e. e.0.prefix) es) lists

-- the entries of a prefix, by peer, the first of which has this number
abbrev pub routes_among : IpPrefix → ℕ → List Entries → List PrefixRoute
routes_among prefix number [] = []
routes_among prefix number (es ∷ lists) =
    map (prefix_route number) (filter (has_prefix prefix) es) ++ routes_among prefix (number + 1) lists

-- the parts of all prefixes, in the order of these
abbrev pub parts_among : Split → List Entries → List PrefixPart
parts_among split lists =
    flat_map (λ prefix. parts_of (split prefix) prefix (routes_among prefix 0 lists))
    (in_order prefix_cmp (prefixes_among lists))

-- the entries of other prefixes
abbrev pub others_of : IpPrefix → Entries → Entries
others_of prefix es = filter (λ e. not (has_prefix prefix e)) es

abbrev pub without : IpPrefix → List Entries → List Entries
without prefix lists = map (others_of prefix) lists

-- ---- the least prefix

abbrev pub AtOrAbove : IpPrefix → RouteKey × Route → Type 0
AtOrAbove prefix e = (has_prefix prefix e ≡ true) ⊎ (prefix_cmp prefix e.0.prefix ≡ Less)

abbrev pub AreAbove : IpPrefix → List Entries → Type 0
AreAbove prefix lists = AllByRecursion (λ es. AllByRecursion (AtOrAbove prefix) es) lists

-- some entry has the prefix, and none has one before it
pub record IsLeast (prefix : IpPrefix) (lists : List Entries) : Type 0 where
  pub stands : list_any (prefix_eq prefix) (prefixes_among lists) ≡ true
  pub least : AreAbove prefix lists

-- the routes of the least prefix were taken, by peer, and the other entries are left
pub record TakesLeast (old new : List Entries) (routes : List PrefixRoute) (prefix : IpPrefix) : Type 0 where
  pub least : IsLeast prefix old
  pub routes_are : routes ≡ routes_among prefix 0 old
  pub left : new ≡ without prefix old

-- ---- a step

abbrev pub entries_count : List Entries → ℕ
entries_count lists = sum_by length lists

-- no list has the prefix
abbrev pub NoneHas : IpPrefix → List Entries → Type 0
NoneHas prefix lists = AllByRecursion (λ es. (filter (has_prefix prefix) es ≡ []) × (others_of prefix es ≡ es)) lists

-- The routes of the first peer that has the prefix were taken, or there was none.
pub record StepsOver (prefix : IpPrefix) (old : List Entries) (routes : List PrefixRoute) (new : List Entries)
    (later : List PrefixRoute) (taken : Bool) : Type 0 where
  pub routes_are : later ++ routes_among prefix 0 new ≡ routes ++ routes_among prefix 0 old
  pub left : without prefix new ≡ without prefix old
  pub above : AreAbove prefix new
  pub fewer : taken ≡ true → entries_count new < entries_count old
  pub same : taken ≡ false → new ≡ old
  pub none : taken ≡ false → NoneHas prefix new

-- ---- the first prefixes of peers

-- the prefix of a peer's first entry, and the peer's number
abbrev pub Head : Type 0
Head = IpPrefix × ℕ

-- by prefix, and then by number
abbrev pub head_cmp : Head → Head → Ordering
head_cmp j k = ordering_then (prefix_cmp j.0 k.0) (nat_cmp j.1 k.1)

abbrev pub head_eq : Head → Head → Bool
head_eq j k = prefix_eq j.0 k.0 && (j.1 == k.1)

-- how often a head stands there
abbrev pub count_of : Head → List (Reverse Head) → ℕ
count_of k heads = sum_by (λ h. if head_eq k h.0 then 1 else 0) heads

-- whether it is the head of one of these lists, the first of which has this number
abbrev pub is_head : ℕ → List Entries → Head → Bool
is_head number [] k = false
is_head number (es ∷ lists) k = if k.1 == number then begins_with k.0 es else is_head (number + 1) lists k

-- the head that comes first in a heap of them
abbrev pub first_before : Reverse Head → Reverse Head → Ordering
first_before j k = head_cmp k.0 j.0

abbrev pub top_of : List (Reverse Head) → Option Head
top_of [] = None
top_of (h ∷ heads) = Some h.0

-- a peer's first prefix comes into a heap, if there is one
abbrev pub PushesHead : Option IpPrefix → ℕ → List (Reverse Head) → List (Reverse Head) → Type 0
PushesHead None peer old new = new ≡ old
PushesHead (Some prefix) peer old new =
    IsPermutation (record { 0 = (prefix, peer) } ∷ old) new × KeepsHeap first_before old new

pub record MergeState : Type 0 where
  pub lists : List Entries
  pub heads : List (Reverse Head)

-- The entries of each peer are in order, and the heap has exactly the heads of their lists, the least one on top.
pub record IsMerge (merge : MergeState) : Type 0 where
  pub sorted : AllByRecursion (λ es. T (is_sorted key_cmp es)) merge.lists
  pub few : length merge.lists < 256 ^ 2
  pub heap : IsHeap first_before merge.heads
  pub counted : (k : Head) → count_of k merge.heads ≡ (if is_head 0 merge.lists k then 1 else 0)
