-- The units that one record gives alike of several peers.
use Rattle.mrt_body.specs.declared.record_place.RecordAt.{RecordAt}
use Rattle.mrt_body.specs.declared.waiting.Told.{Told}
use Rattle.mrt_body.specs.declared.waiting.Told.TheVariants.{Clear, Change}
use Rattle.mrt_body.specs.Units.{change_unit, clear_unit}
use Rattle.peer_units.specs.declared.unit.PeerKey.{PeerKey}
use Rattle.peer_units.specs.Plain.{Unit as ReplayUnit}

abbrev pub told_unit : RecordAt → Told → PeerKey → ReplayUnit
told_unit at Clear peer = clear_unit at peer
told_unit at (Change change rule) peer = change_unit rule at change peer
