-- RIB records of routes as they are written (RFC 6396, 4.3.2 and 4.3.4; RFC 8050, 4).
use Rattle.std.specs.Prelude.{ℕ, ◌+◌, ◌^◌, ◌<◌, ◌≤◌, Bool, List, [], ◌∷◌, ◌++◌, length, map}
use Rattle.std.specs.List.{AllByRecursion}
use Rattle.byteorder.specs.Endian.{big_bytes}
use Rattle.bgp_prefix.specs.Prefixes.{IpPrefix, IsIpPrefix}
use Rattle.bgp_update.specs.declared.route.Route.{Route}
use Rattle.bgp_update.specs.Families.{FamilyOf, RouteRules, Rules}
use Rattle.bgp_update.specs.Attributes.{attributes_bytes}
use Rattle.peer_units.specs.declared.unit.PeerKey.{PeerKey}
use Rattle.peer_units.specs.Plain.{Unit as ReplayUnit}
use Rattle.mrt_body.specs.declared.record_place.RecordAt.{RecordAt}
use Rattle.mrt_body.specs.RibRecords.{WrittenEntry, RibForm, FitsIdentifier}
use Rattle.mrt_body.specs.Units.{rib_unit}
use Rattle.mrt_writing.specs.RouteAttributes.{entry_attributes, FitsEntryRoute}
use Rattle.mrt_writing.specs.Prefixes.{prefix_octets}

-- a route of a prefix: its peer's number, its path identifier, and what is kept of it
pub record PrefixRoute : Type 0 where
  pub peer : ℕ
  pub id : ℕ
  pub route : Route

-- the bytes of its attributes
abbrev pub entry_field : FamilyOf → Route → List ℕ
entry_field family route = attributes_bytes (entry_attributes family route)

abbrev pub written_entry : FamilyOf → ℕ → PrefixRoute → WrittenEntry
written_entry family originated e = record {
  peer = e.peer;
  originated = originated;
  identifier = e.id;
  attributes = entry_field family e.route;
}

-- what stands before so many entries: sequence 4, prefix, entry count 2
abbrev pub rib_head : ℕ → IpPrefix → ℕ → List ℕ
rib_head sequence prefix count = big_bytes 4 sequence ++ ((prefix.len ∷ prefix_octets prefix) ++ big_bytes 2 count)

-- a record of these routes of a prefix
abbrev pub written_rib : FamilyOf → ℕ → ℕ → IpPrefix → List PrefixRoute → RibForm
written_rib family originated sequence prefix entries = record {
  sequence = sequence;
  len = prefix.len;
  octets = prefix_octets prefix;
  entries = map (written_entry family originated) entries;
}

-- the route can be an entry beside an index of so many peers
pub record FitsPrefixRoute (rules : RouteRules) (add_path : Bool) (peers : ℕ) (e : PrefixRoute) : Type 0 where
  pub known : e.peer < peers
  pub peer : e.peer < 256 ^ 2
  pub id : FitsIdentifier add_path e.id
  pub route : FitsEntryRoute rules e.route

-- the record can be written
pub record FitsPrefixRecord (rules : RouteRules) (add_path : Bool) (peers originated sequence : ℕ) (prefix : IpPrefix)
    (entries : List PrefixRoute) : Type 0 where
  pub time : originated < 256 ^ 4
  pub numbered : sequence < 256 ^ 4
  pub formed : IsIpPrefix prefix
  pub short : prefix.len ≤ rules.family.width
  pub count : length entries < 256 ^ 2
  pub each : AllByRecursion (FitsPrefixRoute rules add_path peers) entries

-- the units of these routes, the first of which has this number
abbrev pub units_of_entries : Rules → RecordAt → List PeerKey → IpPrefix → ℕ → List PrefixRoute → List ReplayUnit
units_of_entries rules at peers prefix number [] = []
units_of_entries rules at peers prefix number (e ∷ entries) =
    rib_unit rules at peers number e.peer (record { prefix = prefix; id = e.id }) (entry_field rules.family e.route)
    ∷ units_of_entries rules at peers prefix (number + 1) entries
