-- A peer's routes in one block of bytes, in which a route is named by where it begins: a byte with the length of its
-- packed bytes, or 255 and four bytes with it, and then these.
use Rattle.std.specs.Prelude.{◌≡◌, ◌≢◌, ℕ, ◌+◌, ◌≤◌, Bool, List, [], ◌∷◌, nat_lt, drop, take, length, slice_index, IfSome, map, ◌==◌, if◌then◌else◌}
use Rattle.std.specs.Borrow.{Bor}
use Rattle.std.specs.List.{All}
use Rattle.std.specs.FinMap as finite
use Rattle.byteorder.specs.Endian.{big_number, big_bytes}
use Rattle.bgp_prefix.specs.Keys.{key_cmp}
use Rattle.bgp_prefix.specs.Keys.{RouteKey}
use Rattle.bgp_update.specs.Packing.{IsPacked, unpacked}
use Rattle.bgp_update.specs.declared.route.Route.{Route}
use Rattle.route_choice.specs.Choices.{RouteChoice, is_chosen_route}
use Rattle.adj_rib.specs.MappedValues.{map_values}
use Rattle.adj_rib.specs.declared.routes.RouteId.{RouteId}
use Rattle.adj_rib.specs.declared.routes.IndexSlot.{IndexSlot}
use Rattle.adj_rib.specs.declared.route_table.Found.{Found}

-- whether the length is in four bytes of its own
abbrev pub is_long : List ℕ → Bool
is_long rest = slice_index rest 0 == 255

abbrev pub head_len : Bool → ℕ
head_len long = if long then 5 else 1

abbrev pub body_len : Bool → List ℕ → ℕ
body_len long rest = if long then big_number 4 (drop 1 rest) else slice_index rest 0

-- the packed bytes at the front
unfoldable pub front_of : List ℕ → List ℕ
front_of rest = take (body_len (is_long rest) rest) (drop (head_len (is_long rest)) rest)

-- At the front is a packed route, with its length.
pub record IsFront (rest : List ℕ) : Type 0 where
  pub room : head_len (is_long rest) + body_len (is_long rest) rest ≤ length rest
  pub packed : IsPacked (front_of rest)

-- the length of a route's packed bytes, as it is written before them
abbrev pub head_of : ℕ → List ℕ
head_of len = if nat_lt len 255 then len ∷ [] else 255 ∷ big_bytes 4 len

-- There is a route at a position.
abbrev pub IsNamed : List ℕ → ℕ → Type 0
IsNamed bytes at = IsFront (drop at bytes)

-- the route at a position
unfoldable pub route_at : List ℕ → ℕ → Route
route_at bytes at = unpacked (front_of (drop at bytes))

-- The number names this route.
pub record Names (bytes : List ℕ) (id : RouteId) (route : Route) : Type 0 where
  pub named : IsNamed bytes id.at
  pub is : route_at bytes id.at ≡ route

-- What a number named before, it names still.
abbrev pub StaysNamed : List ℕ → List ℕ → Type 0
StaysNamed before after =
    (at : ℕ) → IsNamed before at → IsNamed after at × (route_at after at ≡ route_at before at)

-- A slot names a route, or none by 0.
abbrev pub IsSlot : List ℕ → IndexSlot → Type 0
IsSlot bytes slot = slot.at ≢ 0 → IsNamed bytes slot.at

abbrev pub AreSlots : List ℕ → List IndexSlot → Type 0
AreSlots bytes slots = All (IsSlot bytes) slots

-- a map of numbers, with the routes that they name
abbrev pub named_routes : List ℕ → finite.FinMap key_cmp RouteId → finite.FinMap key_cmp Route
named_routes bytes ids = map_values (λ (id : RouteId). route_at bytes id.at) ids

-- Each number of a map names a route.
abbrev pub AreNamed : List ℕ → finite.FinMap key_cmp RouteId → Type 0
AreNamed bytes ids = (k : RouteKey) → IfSome (finite.get ids k) (λ id. IsNamed bytes id.at)

-- What was found of a route says whether it is chosen.
abbrev pub IsFound : RouteChoice → List ℕ → Found → Type 0
IsFound choice bytes known = is_chosen_route choice (route_at bytes known.at) ≡ known.is_chosen

abbrev pub AreFound : RouteChoice → List ℕ → List Found → Type 0
AreFound choice bytes found = All (IsFound choice bytes) found

-- listed numbers, and the routes that they name
abbrev pub ids_now : List (RouteKey × Bor RouteId) → List (RouteKey × RouteId)
ids_now es = map (λ e. (e.0, e.1.now)) es

abbrev pub routes_now : {K : Type 0} → List ℕ → List (K × Bor RouteId) → List (K × Route)
routes_now bytes es = map (λ e. (e.0, route_at bytes e.1.now.at)) es
