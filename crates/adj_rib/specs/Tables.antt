-- The table that steps leave (RFC 4271, 3.2: Adj-RIB-In).
use Rattle.std.specs.Prelude.{◌≡◌, List, ◌∷◌, ◌++◌, Option, Some, None, unwrap_or, if◌then◌else◌}
use Rattle.std.specs.List.{filter_map, last_or, AllByRecursion}
use Rattle.std.specs.FinMap as finite
use Rattle.bgp_prefix.specs.Ordered.{tabulated}
use Rattle.bgp_prefix.specs.Keys.{key_cmp, key_eq}
use Rattle.bgp_prefix.specs.Keys.{RouteKey}
use Rattle.bgp_update.specs.declared.route.Route.{Route}
use Rattle.adj_rib.specs.Steps.{Step, break, clear, announce, withdraw}

-- what a step says of a key: nothing, or which route it has from now on, if any
abbrev pub said_of : RouteKey → Step → Option (Option Route)
said_of k break = Some None
said_of k clear = Some None
said_of k (announce q route) = if key_eq k q then Some (Some route) else None
said_of k (withdraw q) = if key_eq k q then Some None else None

-- a step is silent on a key
abbrev pub IsSilent : RouteKey → Step → Type 0
IsSilent k step = said_of k step ≡ None

-- Some step announces the key with the route, and no later step is a break or a clear or speaks of it.
pub record Holds (steps : List Step) (k : RouteKey) (route : Route) : Type 0 where
  pub before : List Step
  pub after : List Step
  pub parts : steps ≡ before ++ announce k route ∷ after
  pub silent : AllByRecursion (IsSilent k) after

-- the route of a key after the steps: what the last step that says anything of it says
abbrev pub route_at : List Step → RouteKey → Option Route
route_at steps k = unwrap_or (last_or None (filter_map (said_of k) steps)) None

-- The map is the set of the pairs that hold.
abbrev pub IsTable : List Step → finite.FinMap key_cmp Route → Type 0
IsTable steps table = (k : RouteKey) → finite.get table k ≡ route_at steps k

abbrev pub announced_key : Step → Option RouteKey
announced_key break = None
announced_key clear = None
announced_key (announce k route) = Some k
announced_key (withdraw k) = None

-- the pairs that hold, in the order of their keys
unfoldable pub table_of : List Step → List (RouteKey × Route)
table_of steps = tabulated key_cmp (route_at steps) (filter_map announced_key steps)
