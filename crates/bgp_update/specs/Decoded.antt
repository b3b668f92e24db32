-- Updates and routes among others: their keys in one list, and the packed bytes of their routes in another.
use Rattle.std.specs.Prelude.{◌≡◌, ℕ, ◌+◌, ◌≤◌, Bool, List, [], ◌++◌, length, take, drop, Option, Some, None, Result, Ok, IfSome}
use Rattle.mrt_frame.specs.declared.fault.Fault.{Fault}
use Rattle.bgp_prefix.specs.Prefixes.{IpPrefix}
use Rattle.bgp_prefix.specs.Keys.{RouteKey}
use Rattle.bgp_update.specs.declared.next_hop.NextHop.{NextHop}
use Rattle.bgp_update.specs.declared.route.Route.{Route}
use Rattle.bgp_update.specs.declared.update.AppendedKeys.{AppendedKeys}
use Rattle.bgp_update.specs.declared.decoded.Span.{Span}
use Rattle.bgp_update.specs.declared.decoded.RouteSpan.{RouteSpan}
use Rattle.bgp_update.specs.declared.decoded.UpdateSpans.{UpdateSpans}
use Rattle.bgp_update.specs.declared.decoded.HashedRoute.{HashedRoute}
use Rattle.bgp_update.specs.declared.update_ref.UpdateRef.{UpdateRef as UpdateRefOf}
use Rattle.bgp_update.specs.Hops.{IsByHop}
use Rattle.bgp_update.specs.Packing.{IsPacked, unpacked}
use Rattle.bgp_update.specs.Updates.{Update, own_keys_in}
use Rattle.bgp_update.specs.Families.{FamilyOf}
use Rattle.bgp_update.specs.Multiprotocol.{reached_keys, unreached_keys}
use Rattle.bgp_update.specs.Values.{Values}
use Rattle.bgp_update.specs.declared.attribute_type.AttributeType.TheVariants.{MpReachNlri, MpUnreachNlri}
use Rattle.mrt_frame.specs.Fields.{◌>>=◌}

-- items were added at the end, or none
pub record IsGrown {A : Type 0} (before after : List A) : Type 0 where
  pub more : List A
  pub parts : after ≡ before ++ more

-- these items were added, which are what reading gives
pub record Appends {A : Type 0} (before after : List A) (read : Result (List A) Fault) : Type 0 where
  pub added : List A
  pub is : read ≡ Ok added
  pub parts : after ≡ before ++ added

-- the same of the keys of MP_REACH_NLRI, beside its next hop; without one there are none
pub record AppendsReached {A : Type 0} (before after : List A) (hop : Option NextHop)
    (read : Result (Option NextHop × List A) Fault) : Type 0 where
  pub added : List A
  pub is : read ≡ Ok (hop, added)
  pub parts : after ≡ before ++ added
  pub none : hop ≡ None → added ≡ []

-- an update's keys of each kind were added, one kind after the other; with this route it is what reading gives
pub record AreKeysOf (before after : List RouteKey) (n : AppendedKeys) (route : Route) (read : Result Update Fault) :
    Type 0 where
  pub withdrawn : List RouteKey
  pub reached : List RouteKey
  pub announced : List RouteKey
  pub withdrawn_len : length withdrawn ≡ n.withdrawn
  pub reached_len : length reached ≡ n.reached
  pub announced_len : length announced ≡ n.announced
  pub parts : after ≡ before ++ (withdrawn ++ (reached ++ announced))
  pub none : n.reached_hop ≡ None → reached ≡ []
  pub is : read ≡ Ok (record {
    withdrawn = withdrawn;
    announced = announced;
    reached = reached;
    route = route;
    reached_hop = n.reached_hop;
  })

-- the keys of an UPDATE that are read behind its attributes, and the next hop of MP_REACH_NLRI
pub record Behind : Type 0 where
  pub unreached : List RouteKey
  pub hop : Option NextHop
  pub reached : List RouteKey
  pub announced : List RouteKey

-- the same of these values of attributes, which were kept or have a fault
unfoldable pub behind_in : {A : Type 0} → FamilyOf → Bool → Values → Result A Fault → List ℕ → Result Behind Fault
behind_in family add_path values kept announced = do
  unreached ← unreached_keys family add_path (values MpUnreachNlri)
  reached ← reached_keys family add_path (values MpReachNlri)
  checked ← kept
  own ← own_keys_in family add_path announced
  Ok (record { unreached = unreached; hop = reached.0; reached = reached.1; announced = own })

-- these keys were added, where those of the message begin behind so many
pub record AppendsBehind (start : ℕ) (before after : List RouteKey) (n : AppendedKeys) (read : Result Behind Fault) :
    Type 0 where
  pub added : Behind
  pub is : read ≡ Ok added
  pub hop : added.hop ≡ n.reached_hop
  pub none : n.reached_hop ≡ None → added.reached ≡ []
  pub parts : after ≡ before ++ (added.unreached ++ (added.reached ++ added.announced))
  pub withdrawn : start + n.withdrawn ≡ length before + length added.unreached
  pub reached_len : length added.reached ≡ n.reached
  pub announced_len : length added.announced ≡ n.announced

-- the update of keys that were added so, one kind after the other, and of its route
abbrev pub split_update : List RouteKey → AppendedKeys → Route → Update
split_update keys n route = record {
  withdrawn = take n.withdrawn keys;
  announced = take n.announced (drop (n.withdrawn + n.reached) keys);
  reached = take n.reached (drop n.withdrawn keys);
  route = route;
  reached_hop = n.reached_hop;
}

-- ---- spans

-- the items of a span
abbrev pub span_of : {A : Type 0} → List A → Span → List A
span_of items s = take s.len (drop s.start items)

-- it lies within so many items
abbrev pub IsWithin : ℕ → Span → Type 0
IsWithin size s = s.start + s.len ≤ size

-- ---- routes

-- the route whose packed bytes a span has
abbrev pub route_at : List ℕ → RouteSpan → Route
route_at bytes s = unpacked (span_of bytes s.bytes)

-- there is one
pub record IsRouteAt (bytes : List ℕ) (s : RouteSpan) : Type 0 where
  pub within : IsWithin (length bytes) s.bytes
  pub packed : IsPacked (span_of bytes s.bytes)

-- the packed bytes of this route were added, and the span has them
pub record AddsRoute (before after : List ℕ) (route : Route) (s : RouteSpan) : Type 0 where
  pub grown : IsGrown before after
  pub there : IsRouteAt after s
  pub is : route_at after s ≡ route

-- ---- updates

-- the next hop of MP_REACH_NLRI, which the route by it has
abbrev pub hop_at : List ℕ → Option RouteSpan → Option NextHop
hop_at bytes None = None
hop_at bytes (Some s) = (route_at bytes s).next_hop

abbrev pub update_at : List RouteKey → List ℕ → UpdateSpans → Update
update_at keys bytes s = record {
  withdrawn = span_of keys s.withdrawn;
  announced = span_of keys s.announced;
  reached = span_of keys s.reached;
  route = route_at bytes s.route;
  reached_hop = hop_at bytes s.reached_route;
}

-- the route by the next hop of MP_REACH_NLRI is there, beside another one
pub record IsReachedAt (bytes : List ℕ) (plain s : RouteSpan) : Type 0 where
  pub there : IsRouteAt bytes s
  pub by : IsByHop (route_at bytes plain) (route_at bytes s)

-- the keys and the routes of an update are there
pub record IsUpdateAt (keys : List RouteKey) (bytes : List ℕ) (s : UpdateSpans) : Type 0 where
  pub withdrawn : IsWithin (length keys) s.withdrawn
  pub announced : IsWithin (length keys) s.announced
  pub reached : IsWithin (length keys) s.reached
  pub route : IsRouteAt bytes s.route
  pub reached_route : IfSome s.reached_route (IsReachedAt bytes s.route)
  pub none : s.reached_route ≡ None → s.reached.len ≡ 0

-- the spans of an update's keys, appended to so many, beside the routes
pub record AreUpdateSpans (start : ℕ) (n : AppendedKeys) (own : RouteSpan) (by_reached : Option RouteSpan)
    (s : UpdateSpans) : Type 0 where
  pub withdrawn : s.withdrawn ≡ record { start = start; len = n.withdrawn }
  pub reached : s.reached ≡ record { start = start + n.withdrawn; len = n.reached }
  pub announced : s.announced ≡ record { start = start + n.withdrawn + n.reached; len = n.announced }
  pub route : s.route ≡ own
  pub reached_route : s.reached_route ≡ by_reached

-- ---- borrowed updates

-- an update whose keys and routes are borrowed, of keys of either family
abbrev pub UpdateRef : Type 0
UpdateRef = UpdateRefOf IpPrefix

abbrev pub hop_of : Option HashedRoute → Option NextHop
hop_of None = None
hop_of (Some hashed) = hashed.route.next_hop

abbrev pub plain_update : UpdateRef → Update
plain_update u = record {
  withdrawn = u.withdrawn.now;
  announced = u.announced.now;
  reached = u.reached.now;
  route = u.route.route;
  reached_hop = hop_of u.reached_route;
}
