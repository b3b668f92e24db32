-- The positions of a path that is written as bytes (RFC 4271, 4.3), from some position on.
use Rattle.std.specs.Prelude.{ℕ, ◌*◌, ◌≤◌, List, ◌++◌, map, drop, length}
use Rattle.bgp_update.specs.Segments.{numbers_in}
use Rattle.bgp_update.specs.Packing.{spelled_path, IsSpelled}
use Rattle.route_choice.specs.Positions.{alone, positions}

-- so many numbers of a sequence are left, behind which there are whole segments
unfoldable pub positions_left : ℕ → List ℕ → List (List ℕ)
positions_left left bytes = map alone (numbers_in 4 left bytes) ++ positions (spelled_path (drop (left * 4) bytes))

pub record IsCursor (left : ℕ) (bytes : List ℕ) : Type 0 where
  pub room : left * 4 ≤ length bytes
  pub spelled : IsSpelled (drop (left * 4) bytes)
