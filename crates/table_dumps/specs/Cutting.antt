-- A replay that is cut between two files: what it had is written, and the replay goes on from that.
use Rattle.std.specs.Prelude.{◌≡◌, ℕ, ◌-◌, ◌/◌, ◌^◌, ◌≤◌, min, max, true, List, [], ◌∷◌, map, length}
use Rattle.std.specs.List.{AllByRecursion, fold}
use Rattle.mrt_frame.specs.Cuts.{file_limit}
use Rattle.bgp_update.specs.ErrorRules.{is_handling}
use Rattle.bgp_update.specs.Families.{route_rules}
use Rattle.peer_units.specs.declared.state_peers.StatePeers.TheVariants.{Recorded}
use Rattle.peer_units.specs.declared.rib_rule.RibRule.TheVariants.{Add}
use Rattle.peer_units.specs.declared.state_rule.StateRule.{StateRule}
use Rattle.peer_units.specs.declared.unit.PeerKey.{PeerKey}
use Rattle.peer_units.specs.Choices.{UnitSelection}
use Rattle.peer_units.specs.Plain.{Unit as ReplayUnit}
use Rattle.adj_rib.specs.Steps.{is_up, is_established, steps_of}
use Rattle.adj_rib.specs.Tables.{table_of}
use Rattle.peer_tables.specs.Peers.{peers_of, units_of_peer}
use Rattle.mrt_body.specs.Units.{units_of}
use Rattle.mrt_writing.specs.Records.{records_bytes}
use Rattle.mrt_writing.specs.Dumps.{dump_records}
use Rattle.table_dumps.specs.Dumped.{is_as}
use Rattle.table_dumps.specs.Checkpoints.{DumpedPeer, keys_of, record_split, checkpoint_records}
use Rattle.table_dumps.specs.Fitting.{FitsTables, HaveMandatory}

-- a peer of these units, as it is behind them
abbrev pub dumped_peer : StateRule → List ReplayUnit → PeerKey → DumpedPeer
dumped_peer rule units q =
    let own = units_of_peer units q in
    record { key = q; up = is_as rule (is_up own) (is_established own); table = table_of (steps_of own) }

-- all of them, by their numbers
abbrev pub dumped_peers : StateRule → List ReplayUnit → List DumpedPeer
dumped_peers rule units = map (dumped_peer rule units) (peers_of units)

-- the second of the latest unit by its time, as far as four bytes say; 0 where there is none
abbrev pub latest_second : List ReplayUnit → ℕ
latest_second units = min (256 ^ 4 - 1) (fold (λ (latest : ℕ) (unit : ReplayUnit). max latest unit.time) 0 units / 1000000)

-- the bytes of a dump of what these units leave
unfoldable pub checkpoint_bytes : UnitSelection → List ReplayUnit → List ℕ
checkpoint_bytes selection units =
    let family = selection.rules.family in
    let peers = dumped_peers selection.states units in
    records_bytes
    (dump_records family (latest_second units) (keys_of peers) (checkpoint_records (record_split family) family peers))

-- what they leave can be written, and read in one file
pub record FitsCheckpoint (selection : UnitSelection) (units : List ReplayUnit) : Type 0 where
  pub tables : FitsTables (route_rules selection.rules) (dumped_peers selection.states units)
  pub bytes : length (checkpoint_bytes selection units) ≤ file_limit

-- Behind these files a replay can be cut: RIB dumps are added, each state change is the recorded peer's, no prefix is
-- named, damage is skipped or each route that is an UPDATE has ORIGIN and AS_PATH, and no route is left out.
pub record CanBeCut (selection : UnitSelection) (files : List (List ℕ)) : Type 0 where
  pub added : selection.ribs ≡ Add
  pub recorded : selection.state_peers ≡ Recorded
  pub whole : selection.prefixes ≡ []
  pub taken : is_handling selection.rules.errors ≡ true →
      AllByRecursion (HaveMandatory selection.rules.family) (dumped_peers selection.states (units_of selection files))
  pub fits : FitsCheckpoint selection (units_of selection files)

-- the units of the checkpoint of the first files, and of the others
abbrev pub resumed_units : UnitSelection → List (List ℕ) → List (List ℕ) → List ReplayUnit
resumed_units selection files others =
    units_of selection (checkpoint_bytes selection (units_of selection files) ∷ others)
