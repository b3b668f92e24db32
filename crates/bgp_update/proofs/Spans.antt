-- What spans have of lists stays when items come behind these; and the spans of an update that was decoded.
use Rattle.std.proofs.Common.{◌≡◌, ℕ, ◌+◌, ◌≤◌, List, [], ◌++◌, length, take, drop, Option, Some, None, Result, Ok, refl, sym, ap, subst, ◌∙◌, arith, append_assoc, length-append, length-drop}
use Rattle.std.specs.Prelude.{IfSome, is_some}
use Rattle.std.proofs.lemmas.List.{append-nil, drop-append-le, take-append-le}
use Rattle.std.proofs.Math.Seq.{drop-append_seam, take-append_seam}
use Rattle.mrt_frame.specs.declared.fault.Fault.{Fault}
use Rattle.bgp_prefix.specs.Keys.{RouteKey}
use Rattle.bgp_update.specs.declared.decoded.Span.{Span}
use Rattle.bgp_update.specs.declared.decoded.RouteSpan.{RouteSpan}
use Rattle.bgp_update.specs.declared.decoded.UpdateSpans.{UpdateSpans}
use Rattle.bgp_update.specs.declared.next_hop.NextHop.{NextHop}
use Rattle.bgp_update.specs.declared.route.Route.{Route}
use Rattle.bgp_update.specs.declared.update.AppendedKeys.{AppendedKeys}
use Rattle.bgp_update.specs.Hops.{by_hop, IsByHop}
use Rattle.bgp_update.specs.Packing.{WritesRoute, IsPacked, route_bytes, unpacked}
use Rattle.bgp_update.specs.Updates.{Update}
use Rattle.bgp_update.proofs.Packings.{packs_again}
use Rattle.bgp_update.specs.Decoded.{IsGrown, AreKeysOf, AreUpdateSpans, span_of, split_update, IsWithin, route_at, IsRouteAt, AddsRoute, hop_at, update_at, IsReachedAt, IsUpdateAt}

-- ---- growth

pub grown_same : {A : Type 0} (before after : List A) → after ≡ before → IsGrown before after
grown_same before after e = record { more = []; parts = e ∙ sym (append-nil before) }

pub grown_by : {A : Type 0} (before after more : List A) → after ≡ before ++ more → IsGrown before after
grown_by before after more e = record { more = more; parts = e }

pub IsGrown-trans : {A : Type 0} (a b c : List A) → IsGrown a b → IsGrown b c → IsGrown a c
IsGrown-trans {A} a b c g h = record { more = g.more ++ h.more; parts = h.parts ∙ ap (λ (x : List A). x ++ h.more) g.parts ∙ append_assoc a g.more h.more }

pub grown_longer : {A : Type 0} (before after : List A) → IsGrown before after → length before ≤ length after
grown_longer before after g = omega (arith, ap length g.parts, length-append before g.more)

-- ---- spans

span_of-append : {A : Type 0} (items more : List A) (s : Span) → IsWithin (length items) s → span_of (items ++ more) s ≡ span_of items s
span_of-append items more s h =
    let n = length-drop s.start items in
    ap (take s.len) (drop-append-le s.start items more (omega arith)) ∙ take-append-le s.len (drop s.start items) more (omega arith)

pub span_of-grown : {A : Type 0} (before after : List A) (s : Span) → IsGrown before after → IsWithin (length before) s → span_of after s ≡ span_of before s
span_of-grown {A} before after s g h = ap (λ (items : List A). span_of items s) g.parts ∙ span_of-append before g.more s h

pub IsWithin-grown : {A : Type 0} (before after : List A) (s : Span) → IsGrown before after → IsWithin (length before) s → IsWithin (length after) s
IsWithin-grown before after s g h = omega (arith, grown_longer before after g, h)

-- ---- routes

pub route_at-grown : (before after : List ℕ) (s : RouteSpan) → IsGrown before after → IsRouteAt before s → route_at after s ≡ route_at before s
route_at-grown before after s g h = ap unpacked (span_of-grown before after s.bytes g h.within)

pub IsRouteAt-grown : (before after : List ℕ) (s : RouteSpan) → IsGrown before after → IsRouteAt before s → IsRouteAt after s
IsRouteAt-grown before after s g h = record {
  within = IsWithin-grown before after s.bytes g h.within;
  packed = subst IsPacked (sym (span_of-grown before after s.bytes g h.within)) h.packed;
}

-- ---- updates

IsReachedAt-grown : (before after : List ℕ) (plain s : RouteSpan) → IsGrown before after → IsRouteAt before plain → IsReachedAt before plain s → IsReachedAt after plain s
IsReachedAt-grown before after plain s g p h =
    let same : route_at after s ≡ route_at before s = route_at-grown before after s g h.there in
    let same_plain : route_at after plain ≡ route_at before plain = route_at-grown before after plain g p in
    record {
      there = IsRouteAt-grown before after s g h.there;
      by = subst (λ (r : Route). IsByHop r (route_at after s)) (sym same_plain) (subst (λ (r : Route). IsByHop (route_at before plain) r) (sym same) h.by);
    }

reached-grown : (before after : List ℕ) (plain : RouteSpan) (o : Option RouteSpan) → IsGrown before after → IsRouteAt before plain → IfSome o (IsReachedAt before plain)
    → IfSome o (IsReachedAt after plain) × (hop_at after o ≡ hop_at before o)
reached-grown before after plain None g p h = (tt, refl)
reached-grown before after plain (Some s) g p h = (IsReachedAt-grown before after plain s g p h, ap (λ (r : Route). r.next_hop) (route_at-grown before after s g h.there))

pub IsUpdateAt-grown : (keys more_keys : List RouteKey) (bytes more_bytes : List ℕ) (s : UpdateSpans) → IsGrown keys more_keys → IsGrown bytes more_bytes → IsUpdateAt keys bytes s → IsUpdateAt more_keys more_bytes s
IsUpdateAt-grown keys more_keys bytes more_bytes s k b h = record {
  withdrawn = IsWithin-grown keys more_keys s.withdrawn k h.withdrawn;
  announced = IsWithin-grown keys more_keys s.announced k h.announced;
  reached = IsWithin-grown keys more_keys s.reached k h.reached;
  route = IsRouteAt-grown bytes more_bytes s.route b h.route;
  reached_route = (reached-grown bytes more_bytes s.route s.reached_route b h.route h.reached_route).0;
  none = h.none;
}

pub update_at-grown : (keys more_keys : List RouteKey) (bytes more_bytes : List ℕ) (s : UpdateSpans) → IsGrown keys more_keys → IsGrown bytes more_bytes → IsUpdateAt keys bytes s
    → update_at more_keys more_bytes s ≡ update_at keys bytes s
update_at-grown keys more_keys bytes more_bytes s k b h =
    rw (
      span_of-grown keys more_keys s.withdrawn k h.withdrawn,
      span_of-grown keys more_keys s.announced k h.announced,
      span_of-grown keys more_keys s.reached k h.reached,
      route_at-grown bytes more_bytes s.route b h.route,
      (reached-grown bytes more_bytes s.route s.reached_route b h.route h.reached_route).1,
    ) refl

-- ---- the spans of keys that were added

-- a span that begins behind a list and is as long as the next one has that
span_mid : {A : Type 0} (front mid back all : List A) (s : Span) → all ≡ front ++ (mid ++ back) → s.start ≡ length front → s.len ≡ length mid → (span_of all s ≡ mid) × IsWithin (length all) s
span_mid {A} front mid back all s parts start len =
    let n = length-append front (mid ++ back) in
    let m = length-append mid back in
    let dropped : drop s.start all ≡ mid ++ back = ap (drop s.start) parts ∙ ap (λ (k : ℕ). drop k (front ++ (mid ++ back))) start ∙ drop-append_seam front (mid ++ back) in
    (ap (take s.len) dropped ∙ ap (λ (k : ℕ). take k (mid ++ back)) len ∙ take-append_seam mid back, omega (arith, n, m, start, len, ap length parts))

-- the span has these keys
abbrev pub HasKeys : List RouteKey → Span → List RouteKey → Type 0
HasKeys all s keys = (span_of all s ≡ keys) × IsWithin (length all) s

have_keys : (before after : List RouteKey) (n : AppendedKeys) (route : Route) (read : Result Update Fault) (k : AreKeysOf before after n route read) (w z a : Span)
    → w ≡ record { start = length before; len = n.withdrawn } → z ≡ record { start = length before + n.withdrawn; len = n.reached }
    → a ≡ record { start = length before + n.withdrawn + n.reached; len = n.announced }
    → HasKeys after w k.withdrawn × HasKeys after z k.reached × HasKeys after a k.announced
have_keys before after n route read k w z a of_w of_z of_a =
    let kw = k.withdrawn in
    let kz = k.reached in
    let ka = k.announced in
    let n1 = length-append before kw in
    let n2 = length-append (before ++ kw) kz in
    let second : after ≡ (before ++ kw) ++ (kz ++ ka) = k.parts ∙ sym (append_assoc before kw (kz ++ ka)) in
    let third : after ≡ ((before ++ kw) ++ kz) ++ (ka ++ []) = second ∙ sym (append_assoc (before ++ kw) kz ka) ∙ ap (λ (t : List RouteKey). ((before ++ kw) ++ kz) ++ t) (sym (append-nil ka)) in
    let lens : (length kw ≡ n.withdrawn) × (length kz ≡ n.reached) = (k.withdrawn_len, k.reached_len) in (
      span_mid before kw (kz ++ ka) after w k.parts (ap (λ (p : Span). p.start) of_w) (ap (λ (p : Span). p.len) of_w ∙ sym k.withdrawn_len),
      span_mid (before ++ kw) kz ka after z second (omega (arith, ap (λ (p : Span). p.start) of_z, n1)) (ap (λ (p : Span). p.len) of_z ∙ sym k.reached_len),
      span_mid ((before ++ kw) ++ kz) ka [] after a third (omega (arith, ap (λ (p : Span). p.start) of_a, n1, n2)) (ap (λ (p : Span). p.len) of_a ∙ sym k.announced_len),
    )

-- ---- the update that was decoded

hop_is : (mid bytes : List ℕ) (plain : Route) (o : Option RouteSpan) (hop : Option NextHop) → IfSome o (AddsRoute mid bytes (by_hop plain hop)) → is_some o ≡ is_some hop → hop_at bytes o ≡ hop
hop_is mid bytes plain None None h e = refl
hop_is mid bytes plain None (Some hop) h e = absurd cc
hop_is mid bytes plain (Some s) hop h e = ap (λ (r : Route). r.next_hop) h.is

reached_is : (mid bytes : List ℕ) (plain : RouteSpan) (route : Route) (o : Option RouteSpan) (hop : Option NextHop) → route_at bytes plain ≡ route → IfSome o (AddsRoute mid bytes (by_hop route hop)) → IfSome o (IsReachedAt bytes plain)
reached_is mid bytes plain route None hop is adds = tt
reached_is mid bytes plain route (Some s) hop is adds =
    let same : by_hop route hop ≡ by_hop (route_at bytes plain) (route_at bytes s).next_hop = ap (by_hop route) (sym (ap (λ (r : Route). r.next_hop) adds.is)) ∙ ap (λ (r : Route). by_hop r (route_at bytes s).next_hop) (sym is) in
    record { there = adds.there; by = adds.is ∙ same }

none_is : (o : Option RouteSpan) (hop : Option NextHop) → is_some o ≡ is_some hop → o ≡ None → hop ≡ None
none_is None None e h = refl
none_is None (Some hop) e h = absurd cc
none_is (Some s) hop e h = absurd cc

pub decoded_update : (before after : List RouteKey) (old mid bytes : List ℕ) (n : AppendedKeys) (route : Route) (read : Result Update Fault) (r : RouteSpan) (rr : Option RouteSpan) (s : UpdateSpans)
    → AreKeysOf before after n route read → AreUpdateSpans (length before) n r rr s → AddsRoute old mid route r → IsGrown mid bytes
    → IfSome rr (AddsRoute mid bytes (by_hop route n.reached_hop)) → is_some rr ≡ is_some n.reached_hop
    → (read ≡ Ok (update_at after bytes s)) × IsUpdateAt after bytes s
decoded_update before after old mid bytes n route read r rr s k spans adds grown reached both =
    let keys = have_keys before after n route read k s.withdrawn s.reached s.announced spans.withdrawn spans.reached spans.announced in
    let own : route_at bytes s.route ≡ route = ap (route_at bytes) spans.route ∙ route_at-grown mid bytes r grown adds.there ∙ adds.is in
    let own_there : IsRouteAt bytes s.route = subst (IsRouteAt bytes) (sym spans.route) (IsRouteAt-grown mid bytes r grown adds.there) in
    let by_own : IfSome s.reached_route (AddsRoute mid bytes (by_hop route n.reached_hop)) = subst (λ (o : Option RouteSpan). IfSome o (AddsRoute mid bytes (by_hop route n.reached_hop))) (sym spans.reached_route) reached in
    let same : is_some s.reached_route ≡ is_some n.reached_hop = ap is_some spans.reached_route ∙ both in
    let hop : hop_at bytes s.reached_route ≡ n.reached_hop = hop_is mid bytes route s.reached_route n.reached_hop by_own same in (
      k.is ∙ ap (λ (u : Update). Ok u) (rw (keys.0.0, keys.1.0, keys.2.0, own, hop) refl),
      record {
        withdrawn = keys.0.1;
        announced = keys.2.1;
        reached = keys.1.1;
        route = own_there;
        reached_route = reached_is mid bytes s.route route s.reached_route n.reached_hop own by_own;
        none = λ e. ap (λ (p : Span). p.len) spans.reached ∙ sym k.reached_len ∙ ap length (k.none (none_is s.reached_route n.reached_hop same e));
      },
    )

-- ---- the update of keys that were read into a list of their own

pub split_is : (after : List RouteKey) (n : AppendedKeys) (route : Route) (read : Result Update Fault) → AreKeysOf [] after n route read → read ≡ Ok (split_update after n route)
split_is after n route read k =
    let keys = have_keys [] after n route read k (record { start = 0; len = n.withdrawn }) (record { start = n.withdrawn; len = n.reached }) (record { start = n.withdrawn + n.reached; len = n.announced })
    refl (ap (λ (m : ℕ). record { start = m; len = n.reached }) (omega arith)) (ap (λ (m : ℕ). record { start = m; len = n.announced }) (omega arith)) in
    k.is ∙ (λ i. Ok (record { withdrawn = sym keys.0.0 i; announced = sym keys.2.0 i; reached = sym keys.1.0 i; route = route; reached_hop = n.reached_hop }))

-- ---- a route that was packed behind other bytes

pub packed_behind : (before after : List ℕ) (r : Route) (s : RouteSpan) → WritesRoute before after r → s.bytes.start ≡ length before → s.bytes.start + s.bytes.len ≡ length after → AddsRoute before after r s
packed_behind before after r s writes start end =
    let n = length-append before (route_bytes r) in
    let own : after ≡ before ++ (route_bytes r ++ []) = writes.bytes ∙ ap (λ (t : List ℕ). before ++ t) (sym (append-nil (route_bytes r))) in
    let len : s.bytes.len ≡ length (route_bytes r) = omega (arith, start, end, ap length writes.bytes, n) in
    let mid = span_mid before (route_bytes r) [] after s.bytes own start len in
    let packed = packs_again r (span_of after s.bytes) writes.packs mid.0 in
    record { grown = grown_by before after (route_bytes r) writes.bytes; there = record { within = mid.1; packed = packed.0 }; is = packed.1 }
