-- The positions of an AS path (RFC 4271, 4.3; RFC 5065, section 3), which a mask is matched with.
use Rattle.std.specs.Prelude.{ℕ, Bool, true, false, List, [], ◌∷◌, map, ◌||◌, ◌==◌, if◌then◌else◌}
use Rattle.std.specs.List.{flat_map}
use Rattle.bgp_update.specs.declared.path.SegmentKind.{SegmentKind}
use Rattle.bgp_update.specs.declared.path.SegmentKind.TheVariants.{AsSet, AsSequence, ConfedSequence, ConfedSet}
use Rattle.bgp_update.specs.Paths.{PathSegment}

-- AS_SET or AS_CONFED_SET
abbrev pub is_set : SegmentKind → Bool
is_set AsSet = true
is_set AsSequence = false
is_set ConfedSequence = false
is_set ConfedSet = true

-- the same by the number of its kind
abbrev pub is_set_number : ℕ → Bool
is_set_number number = number == 1 || number == 4

-- a position of one number
abbrev pub alone : ℕ → List ℕ
alone n = n ∷ []

-- each number of a sequence is a position, and a set is one with all its numbers
abbrev pub segment_positions : PathSegment → List (List ℕ)
segment_positions s = if is_set s.kind then s.numbers ∷ [] else map alone s.numbers

-- those of its segments in turn
abbrev pub positions : List PathSegment → List (List ℕ)
positions path = flat_map segment_positions path
