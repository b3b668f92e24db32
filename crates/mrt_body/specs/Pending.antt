-- The index in force, and the entries that are still to be given of the RIB record read beside it.
use Rattle.std.specs.Prelude.{◌≤◌, ℕ, List, [], ◌∷◌, map, drop, length, Option, Some, None, ⊤}
use Rattle.std.specs.List.{All}
use Rattle.bgp_prefix.specs.Prefixes.{IpPrefix}
use Rattle.bgp_update.specs.Families.{Rules}
use Rattle.mrt_body.specs.declared.record_place.RecordAt.{RecordAt}
use Rattle.peer_units.specs.declared.unit.PeerKey.{PeerKey}
use Rattle.peer_units.specs.Plain.{Unit as ReplayUnit}
use Rattle.mrt_body.specs.declared.rib.ListedEntry.{ListedEntry}
use Rattle.mrt_body.specs.declared.entries.RibRecord.{RibRecord as RibRecordOf}
use Rattle.mrt_body.specs.RibRecords.{ReadEntry}
use Rattle.mrt_body.specs.Listed.{IsListed, read_listed}
use Rattle.mrt_body.specs.declared.lent_units.Lent.{Lent}
use Rattle.mrt_body.specs.declared.lent_units.Lent.TheVariants as lent
use Rattle.mrt_body.specs.Units.{rib_unit}

-- peers, and the units that are still to be given
pub record IndexState : Type 0 where
  pub peers : List PeerKey
  pub pending : List ReplayUnit

abbrev pub without_pending : IndexState → IndexState
without_pending index = record { peers = index.peers; pending = [] }

-- a record that is read, with the rules by which its entries are
abbrev pub RibRecord : Type 0
RibRecord = RibRecordOf IpPrefix Rules

-- the unit of the entry of this number
abbrev pub read_unit : Rules → RecordAt → List PeerKey → IpPrefix → ℕ → ReadEntry → ReplayUnit
read_unit rules at peers prefix number e =
    rib_unit rules at peers number e.peer (record { prefix = prefix; id = e.identifier }) e.attributes

-- the list has entries of the record
pub record AreListed (peers : List PeerKey) (list : List ListedEntry) (r : RibRecord) : Type 0 where
  pub given : r.given ≤ length list
  pub few : length list ≤ 65535
  pub within : All (IsListed (length peers) (length r.body)) list

-- the unit of an entry that is listed
abbrev pub listed_unit : Rules → RecordAt → List PeerKey → IpPrefix → List ℕ → ListedEntry → ReplayUnit
listed_unit rules at peers prefix body e = read_unit rules at peers prefix e.number (read_listed body e)

-- the units that are still to be given
abbrev pub units_left : List PeerKey → List ListedEntry → RibRecord → List ReplayUnit
units_left peers list r = map (listed_unit r.rules r.at peers r.prefix r.body) (drop r.given list)

abbrev pub ArePending : List PeerKey → List ListedEntry → Option RibRecord → Type 0
ArePending peers list None = ⊤
ArePending peers list (Some r) = AreListed peers list r

abbrev pub pending_of : List PeerKey → List ListedEntry → Option RibRecord → List ReplayUnit
pending_of peers list None = []
pending_of peers list (Some r) = units_left peers list r

-- the units that are lent
abbrev pub units_lent : Lent ReplayUnit (List ReplayUnit) → List ReplayUnit
units_lent lent.None = []
units_lent (lent.Unit unit) = unit ∷ []
units_lent (lent.Entries units) = units
