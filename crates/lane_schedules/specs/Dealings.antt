-- What dealings hold.
use Rattle.std.specs.Prelude.{ℕ, List}
use Rattle.lane_schedules.specs.declared.dealings.ByBlocks.{ByBlocks}
use Rattle.lane_schedules.specs.declared.dealings.ByList.{ByList}

-- how many peers in a row share a lane
abbrev pub peer_block_size : ByBlocks → ℕ
peer_block_size d = d.size

-- the lanes that a list names, by peer
abbrev pub listed_lanes : ByList → List ℕ
listed_lanes d = d.lanes.items
