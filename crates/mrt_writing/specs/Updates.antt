-- A route as an UPDATE that reaches one key by MP_REACH_NLRI (RFC 4271, 4.3; RFC 4760, section 3; RFC 8950), and the
-- record of such a message (RFC 6396, 4.4.2 and 4.4.3; RFC 8050, 3).
use Rattle.std.specs.Prelude.{◌≡◌, ℕ, ◌+◌, ◌^◌, ◌<◌, ◌≤◌, Bool, List, [], ◌∷◌, ◌++◌, length, Option, Some, None, option_map}
use Rattle.byteorder.specs.Endian.{big_bytes}
use Rattle.bgp_prefix.specs.Prefixes.{IsIpPrefix}
use Rattle.bgp_prefix.specs.Keys.{RouteKey}
use Rattle.bgp_update.specs.declared.attribute_type.AttributeType.{AttributeType}
use Rattle.bgp_update.specs.declared.next_hop.NextHop.{NextHop}
use Rattle.bgp_update.specs.declared.route.Route.{Route}
use Rattle.bgp_update.specs.declared.width.Width.TheVariants.{Four}
use Rattle.bgp_update.specs.Families.{FamilyOf, RouteRules}
use Rattle.bgp_update.specs.Attributes.{attributes_bytes}
use Rattle.bgp_update.specs.Hops.{by_hop}
use Rattle.bgp_update.specs.Packing.{CanPack}
use Rattle.bgp_update.specs.Multiprotocol.{reach_bytes}
use Rattle.bgp_update.specs.Updates.{Update, UpdateForm, update_bytes}
use Rattle.peer_units.specs.Events.{message_bytes, UPDATE}
use Rattle.peer_units.specs.declared.unit.PeerKey.{PeerKey}
use Rattle.mrt_body.specs.Bgp4mp.{session_bytes}
use Rattle.mrt_body.specs.RibRecords.{FitsIdentifier}
use Rattle.mrt_writing.specs.Heads.{written_session}
use Rattle.mrt_writing.specs.Prefixes.{written_key}
use Rattle.mrt_writing.specs.RouteAttributes.{IsKeptBy, route_values, attributes_by, types_in_order}

-- MP_REACH_NLRI of this next hop and this key
abbrev pub reach_value : FamilyOf → Bool → RouteKey → NextHop → List ℕ
reach_value family add_path key hop = reach_bytes family hop 0 (written_key add_path key ∷ [])

abbrev pub update_values : FamilyOf → Bool → RouteKey → Route → AttributeType → Option (List ℕ)
update_values family add_path key r = route_values None (option_map (reach_value family add_path key) r.next_hop) r

-- nothing is withdrawn, and nothing announced in the UPDATE's own field
unfoldable pub written_update : FamilyOf → Bool → RouteKey → Route → UpdateForm
written_update family add_path key r = record {
  withdrawn = [];
  attributes = attributes_by (update_values family add_path key r) types_in_order;
  announced = [];
}

-- the message
abbrev pub update_message : FamilyOf → Bool → RouteKey → Route → List ℕ
update_message family add_path key r = message_bytes UPDATE (update_bytes (written_update family add_path key r))

-- the bytes of its attributes
abbrev pub update_field : FamilyOf → Bool → RouteKey → Route → List ℕ
update_field family add_path key r =
    attributes_bytes (attributes_by (update_values family add_path key r) types_in_order)

-- the message of these bytes of attributes: no withdrawn routes, and no NLRI behind the attributes
abbrev pub update_of : List ℕ → List ℕ
update_of attributes = message_bytes UPDATE (big_bytes 2 0 ++ (big_bytes 2 (length attributes) ++ attributes))

-- how many bytes they have at most, since the message's length, of two bytes, counts 23 others
abbrev pub update_most : ℕ
update_most = 65512

-- the body of its record
abbrev pub message_body : PeerKey → List ℕ → List ℕ
message_body p message = session_bytes Four (written_session p) ++ message

-- The message can be written, and is read by these rules.
pub record FitsUpdate (rules : RouteRules) (add_path : Bool) (key : RouteKey) (r : Route) : Type 0 where
  pub packs : CanPack r
  pub kept : IsKeptBy rules.kept r.kept
  pub hop : NextHop
  pub reached : r.next_hop ≡ Some hop
  pub formed : IsIpPrefix key.prefix
  pub narrow : key.prefix.len ≤ rules.family.width
  pub id : FitsIdentifier add_path key.id
  pub short : 19 + length (update_bytes (written_update rules.family add_path key r)) < 256 ^ 2

-- what it says: the key is reached by the route
abbrev pub reaching : RouteKey → Route → Update
reaching key r = record {
  withdrawn = [];
  announced = [];
  reached = key ∷ [];
  route = by_hop r None;
  reached_hop = r.next_hop;
}
