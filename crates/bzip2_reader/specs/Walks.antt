-- Walks of links side by side.
use Rattle.std.specs.Prelude.{◌≡◌, ◌≤◌, ◌+◌, ℕ, List, All, length, drop}
use Rattle.bzip2_reader.specs.declared.walks.Front.{Front}
use Rattle.bzip2_reader.specs.declared.walks.Lane.{Lane}
use Rattle.bzip2_reader.specs.declared.walks.Segment.{Segment}
use Rattle.bzip2_reader.specs.declared.walks.Segments.{Segments}
use Rattle.bzip2_reader.specs.Links.{Walked, place_after}

-- a lane's bytes walk the links from its first row to the one where it is
pub record IsLane (links : List ℕ) (lane : Lane) : Type 0 where
  pub fits : lane.size ≤ length lane.bytes.items
  pub walk : Walked links lane.first lane.size lane.bytes.items
  pub row : lane.row ≡ place_after links lane.first lane.size

-- the bytes of a segment stand among these, and walk the links from its first row to the next
pub record IsSegment (links bytes : List ℕ) (segment : Segment) : Type 0 where
  pub fits : segment.from + segment.size ≤ length bytes
  pub walk : Walked links segment.first segment.size (drop segment.from bytes)
  pub row : segment.next ≡ place_after links segment.first segment.size

-- all are
abbrev pub AreSegments : List ℕ → Segments → Type 0
AreSegments links segments = All (IsSegment links segments.bytes.items) segments.all.items

-- the first bytes of a text walk the links from this row to the one that comes next
pub record IsFront (links : List ℕ) (first : ℕ) (text : List ℕ) (front : Front) : Type 0 where
  pub fits : front.done ≤ length text
  pub walk : Walked links first front.done text
  pub row : front.row ≡ place_after links first front.done
