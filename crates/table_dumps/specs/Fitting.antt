-- Which tables can be written, so that their dump is read as they are.
use Rattle.std.specs.Prelude.{◌≡◌, ◌^◌, ◌<◌, ◌≤◌, Bool, true, false, List, length}
use Rattle.std.specs.List.{AllByRecursion}
use Rattle.bgp_prefix.specs.Prefixes.{IsIpPrefix}
use Rattle.bgp_prefix.specs.Keys.{RouteKey}
use Rattle.bgp_update.specs.declared.route.Route.{Route}
use Rattle.bgp_update.specs.Families.{FamilyOf, RouteRules}
use Rattle.bgp_update.specs.Handling.{lacks_mandatory}
use Rattle.bgp_update.specs.Packing.{CanPack}
use Rattle.mrt_writing.specs.Heads.{FitsPeerKey}
use Rattle.mrt_writing.specs.RouteAttributes.{IsKeptBy, entry_most}
use Rattle.mrt_writing.specs.RibRecords.{entry_field}
use Rattle.mrt_writing.specs.Updates.{reaching, update_field, update_most}
use Rattle.mrt_writing.specs.Dumps.{HasRibKinds, has_identifier}
use Rattle.table_dumps.specs.Dumped.{is_entry}
use Rattle.table_dumps.specs.Checkpoints.{DumpedPeer, all_parts, record_split}

-- its attributes have no more bytes than those of an entry, or of an UPDATE
abbrev pub IsShort : Bool → FamilyOf → RouteKey × Route → Type 0
IsShort true family e = length (entry_field family e.1) ≤ entry_most
IsShort false family e = length (update_field family (has_identifier e.0) e.0 e.1) ≤ update_most

-- The key is one of the family; and the route's numbers have their widths, it keeps what these rules ask for, and it
-- isn't too long.
pub record FitsRoute (rules : RouteRules) (e : RouteKey × Route) : Type 0 where
  pub formed : IsIpPrefix e.0.prefix
  pub narrow : e.0.prefix.len ≤ rules.family.width
  pub id : e.0.id < 256 ^ 4
  pub packs : CanPack e.1
  pub kept : IsKeptBy rules.kept e.1.kept
  pub short : IsShort (is_entry rules.family e) rules.family e

pub record FitsPeer (rules : RouteRules) (p : DumpedPeer) : Type 0 where
  pub key : FitsPeerKey p.key
  pub routes : AllByRecursion (FitsRoute rules) p.table

-- no more peers than an index table has, and no more records of prefixes than there are sequence numbers
pub record FitsTables (rules : RouteRules) (peers : List DumpedPeer) : Type 0 where
  pub kinds : HasRibKinds rules.family
  pub few : length peers < 256 ^ 2
  pub each : AllByRecursion (FitsPeer rules) peers
  pub numbered : length (all_parts (record_split rules.family) rules.family peers) ≤ 256 ^ 4

-- A route that is written as an UPDATE has ORIGIN and AS_PATH. Without them the UPDATE is taken as a withdrawal where
-- damage is handled (RFC 7606, section 3 (d)).
abbrev pub HasMandatory : FamilyOf → RouteKey × Route → Type 0
HasMandatory family e = is_entry family e ≡ false → lacks_mandatory (reaching e.0 e.1) ≡ false

abbrev pub HaveMandatory : FamilyOf → DumpedPeer → Type 0
HaveMandatory family p = AllByRecursion (HasMandatory family) p.table
