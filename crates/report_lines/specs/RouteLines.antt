-- The texts and columns of peers, keys and routes, and the line of a route.
use Rattle.std.specs.Prelude.{ℕ, zero, suc, Bool, List, [], ◌∷◌, ◌++◌, map, Option, Some, None, option_and_then, codes, decimal, if◌then◌else◌}
use Rattle.std.specs.List.{join_with_byte}
use Rattle.bgp_prefix.specs.Prefixes.{IpPrefix}
use Rattle.bgp_prefix.specs.Keys.{RouteKey}
use Rattle.bgp_update.specs.declared.path.SegmentKind.{SegmentKind}
use Rattle.bgp_update.specs.declared.path.SegmentKind.TheVariants.{AsSet, AsSequence, ConfedSequence, ConfedSet}
use Rattle.bgp_update.specs.declared.next_hop.NextHop.{NextHop}
use Rattle.bgp_update.specs.declared.next_hop.NextHop.TheVariants as next_hop
use Rattle.bgp_update.specs.declared.route.Origin.{Origin}
use Rattle.bgp_update.specs.declared.route.Origin.TheVariants.{Igp, Egp, Incomplete}
use Rattle.bgp_update.specs.declared.route.Aggregator.{Aggregator}
use Rattle.bgp_update.specs.declared.route.Route.{Route}
use Rattle.bgp_update.specs.Paths.{PathSegment, origin_as_of}
use Rattle.peer_units.specs.declared.unit.PeerAddr.{PeerAddr}
use Rattle.peer_units.specs.declared.unit.PeerAddr.TheVariants.{V4, V6}
use Rattle.peer_units.specs.declared.unit.PeerKey.{PeerKey}
use Rattle.ip_text.specs.declared.address_form.AddressForm.{AddressForm}
use Rattle.ip_text.specs.AddressTexts.{address_text}
use Rattle.ip_text.specs.Digits.{ipv4_text}
use Rattle.ip_text.specs.Ipv6Texts.{ipv6_text}
use Rattle.report_request.specs.declared.column.Column.{Column}
use Rattle.report_request.specs.declared.column.Column.TheVariants as column
use Rattle.report_request.specs.declared.column.Key.TheVariants as key
use Rattle.report_request.specs.Columns.{attribute_columns, column_keys}
use Rattle.report_request.specs.Plain.{Layout}
use Rattle.report_lines.specs.Fields.{field, numbers_text}
use Rattle.report_lines.specs.Cells.{Cell, line_by, listed, number_if_any, one_or_none, or_null, quoted, word}
use Rattle.report_lines.specs.KeptTexts.{kept_cells}

-- ---- texts

abbrev pub addr_text : AddressForm → PeerAddr → List ℕ
addr_text form (V4 addr) = ipv4_text addr
addr_text form (V6 addr) = ipv6_text form addr

-- an AS and an address
abbrev pub peer_text : Layout → PeerKey → List ℕ
peer_text layout peer = decimal peer.asn ++ 32 ∷ addr_text layout.peer_addresses peer.addr

-- an address of the family of the routes, and a length
abbrev pub prefix_text : Layout → IpPrefix → List ℕ
prefix_text layout p = address_text layout.family layout.route_addresses p.addr ++ 47 ∷ decimal p.len

-- nothing for identifier 0, which stands for none (RFC 7911, 3)
abbrev pub identifier_text : ℕ → List ℕ
identifier_text zero = []
identifier_text (suc id) = 35 ∷ decimal (suc id)

abbrev pub key_text : Layout → RouteKey → List ℕ
key_text layout key = prefix_text layout key.prefix ++ identifier_text key.id

-- a sequence plain, a set in braces, of a confederation in parentheses and brackets
abbrev pub kind_text : SegmentKind → List ℕ → List ℕ
kind_text AsSequence numbers = numbers_text 32 numbers
kind_text AsSet numbers = 123 ∷ numbers_text 44 numbers ++ 125 ∷ []
kind_text ConfedSequence numbers = 40 ∷ numbers_text 32 numbers ++ 41 ∷ []
kind_text ConfedSet numbers = 91 ∷ numbers_text 44 numbers ++ 93 ∷ []

abbrev pub path_text : List PathSegment → List ℕ
path_text path = join_with_byte 32 (map (λ s. kind_text s.kind s.numbers) path)

-- one address, or a global and a link-local one (RFC 2545, 3; RFC 8950, 3)
abbrev pub next_hop_text : Layout → NextHop → List ℕ
next_hop_text layout (next_hop.V4 addr) = ipv4_text addr
next_hop_text layout (next_hop.V6 addr) = ipv6_text layout.route_addresses addr
next_hop_text layout (next_hop.V6Pair global local) =
    ipv6_text layout.route_addresses global ++ 32 ∷ ipv6_text layout.route_addresses local

abbrev pub origin_text : Origin → List ℕ
origin_text Igp = codes "IGP"
origin_text Egp = codes "EGP"
origin_text Incomplete = codes "INCOMPLETE"

abbrev pub aggregator_text : Aggregator → List ℕ
aggregator_text a = decimal a.asn ++ 32 ∷ ipv4_text a.addr

abbrev pub atomic_text : Bool → List ℕ
atomic_text atomic = if atomic then codes "atomic" else codes "-"

-- whether a peer is up
abbrev pub state_text : Bool → List ℕ
state_text up = if up then codes "up" else codes "down"

-- ---- columns

abbrev pub peer_cell : Layout → PeerKey → Cell
peer_cell layout peer = record {
  column = column.Peer;
  text = peer_text layout peer;
  values = decimal peer.asn ∷ quoted (addr_text layout.peer_addresses peer.addr) ∷ [];
}

abbrev pub prefix_cell : Layout → IpPrefix → Cell
prefix_cell layout p = word key.Prefix (prefix_text layout p)

-- the path identifier is absent where it is 0
abbrev pub identifier : ℕ → Option ℕ
identifier zero = None
identifier (suc id) = Some (suc id)

abbrev pub key_cell : Layout → RouteKey → Cell
key_cell layout k = record {
  column = column.RouteKey;
  text = key_text layout k;
  values = quoted (prefix_text layout k.prefix) ∷ or_null decimal (identifier k.id) ∷ [];
}

-- a path, and the origin AS of its route (RFC 6811, 2)
abbrev pub path_cell : Option (List PathSegment) → Cell
path_cell path = record {
  column = column.Path;
  text = field path_text path;
  values = or_null (λ p. quoted (path_text p)) path ∷ listed (one_or_none (option_and_then origin_as_of path)) ∷ [];
}

abbrev pub next_hop_cell : Layout → Option NextHop → Cell
next_hop_cell layout hop = record {
  column = column.Of key.NextHop;
  text = field (next_hop_text layout) hop;
  values = or_null (λ h. quoted (next_hop_text layout h)) hop ∷ [];
}

abbrev pub origin_cell : Option Origin → Cell
origin_cell origin = record {
  column = column.Of key.Origin;
  text = field origin_text origin;
  values = or_null (λ o. quoted (origin_text o)) origin ∷ [];
}

abbrev pub truth : Bool → List ℕ
truth b = if b then codes "true" else codes "false"

abbrev pub atomic_cell : Bool → Cell
atomic_cell atomic = record { column = column.Of key.Atomic; text = atomic_text atomic; values = truth atomic ∷ [] }

abbrev pub aggregator_cell : Option Aggregator → Cell
aggregator_cell aggregator = record {
  column = column.Aggregator;
  text = field aggregator_text aggregator;
  values = or_null (λ a. decimal a.asn) aggregator ∷ or_null (λ a. quoted (ipv4_text a.addr)) aggregator ∷ [];
}

-- those that each route has behind its path
abbrev pub attribute_cells : Layout → Route → List Cell
attribute_cells layout route =
    next_hop_cell layout route.next_hop ∷ origin_cell route.origin ∷ number_if_any key.Med route.med
    ∷ number_if_any key.LocalPref route.local_pref ∷ atomic_cell route.atomic ∷ aggregator_cell route.aggregator ∷ []

-- path, next hop, origin, MED, LOCAL_PREF, atomic, aggregator, and the attributes that are asked for
abbrev pub route_cells : Layout → Route → List Cell
route_cells layout route =
    (path_cell route.path ∷ attribute_cells layout route) ++ kept_cells layout.attributes route.kept

-- `-` and `null` where there is no route, and no origin AS
abbrev pub absent : Column → Cell
absent c = record { column = c; text = codes "-"; values = map (λ k. codes "null") (column_keys c) }

abbrev pub no_route : List Cell
no_route = path_cell None ∷ map absent attribute_columns

abbrev pub listed_cells : Layout → Option Route → List Cell
listed_cells layout None = no_route ++ kept_cells layout.attributes []
listed_cells layout (Some route) = route_cells layout route

-- ---- lines

-- peer, key, and the fields of a route
abbrev pub entry_cells : Layout → PeerKey → RouteKey → Route → List Cell
entry_cells layout peer key route = peer_cell layout peer ∷ key_cell layout key ∷ route_cells layout route

abbrev pub entry_line : Layout → PeerKey → RouteKey → Route → List ℕ
entry_line layout peer key route = line_by layout.format (entry_cells layout peer key route)
