-- Lists of units, and how many units wait in a ring of lists.
use Rattle.std.specs.Prelude.{◌≡◌, ℕ, ◌-◌, ◌<◌, List, length, map, drop}
use Rattle.std.specs.List.{AllByRecursion, flat_map, sum_by}
use Rattle.peer_units.specs.Payloads.{IsSmallUnit}
use Rattle.unit_rings.specs.declared.peer_unit.PeerUnit.{PeerUnit}
use Rattle.unit_rings.specs.declared.unit_list.UnitList.{UnitList}
use Rattle.unit_rings.specs.ListedUnits.{unit_in}

module _ {P K : Type 0} where
  abbrev pub units_of : UnitList P K → List (PeerUnit (List ℕ) P K)
  units_of list = map (unit_in list.records.items list.peers.items list.bytes.items) list.listed.items

  -- the units of these lists, one list after the other
  abbrev pub units_of_lists : List (UnitList P K) → List (PeerUnit (List ℕ) P K)
  units_of_lists lists = flat_map (λ list. units_of list) lists

  abbrev pub AreSmall : List (PeerUnit (List ℕ) P K) → Type 0
  AreSmall items = AllByRecursion (λ item. IsSmallUnit item.unit) items

  -- a list that may pass through a ring
  abbrev pub IsUnitList : UnitList P K → Type 0
  IsUnitList list = (0 < length (units_of list)) × AreSmall (units_of list)

  abbrev pub list_length : UnitList P K → ℕ
  list_length list = length (units_of list)

  -- these are the lengths of the last of these lists
  abbrev pub AreLastLengths : List ℕ → List (UnitList P K) → Type 0
  AreLastLengths lengths lists =
      map (λ list. list_length list) (drop (length lists - length lengths) lists) ≡ lengths

abbrev pub total : List ℕ → ℕ
total lengths = sum_by (λ n. n) lengths
