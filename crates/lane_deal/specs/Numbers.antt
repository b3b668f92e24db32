-- Units with the numbers that their peers are given as the units come.
use Rattle.std.specs.Prelude.{List, map}
use Rattle.peer_units.specs.declared.unit.PeerKey.{PeerKey}
use Rattle.peer_units.specs.Plain.{Unit as ReplayUnit}
use Rattle.peer_tables.specs.Numbers.{number_in}
use Rattle.unit_rings.specs.Plain.{PeerUnit}

-- a unit with its peer's number
abbrev pub with_number : List PeerKey → ReplayUnit → PeerUnit
with_number keys unit = record { number = number_in keys unit.peer; unit = unit }

abbrev pub with_numbers : List PeerKey → List ReplayUnit → List PeerUnit
with_numbers keys units = map (with_number keys) units

abbrev pub without_numbers : List PeerUnit → List ReplayUnit
without_numbers items = map (λ item. item.unit) items
