use Rattle.std.proofs.Common.{◌≡◌, ◌++◌, take, map}
use Rattle.std.specs.List.{flat_map}
use Rattle.peer_tables.specs.Seats.{seat_of}
use Rattle.checkpoint_writing.specs.Merging.{IsMerge}
use Rattle.checkpoint_writing.specs.Leaving.{kept_entries, left_entries}
use Rattle.checkpoint_writing.proofs.listing.list_seats.Given as goal

abbrev pub invariant-loop-seat : goal.invariant-loop-seat
invariant-loop-seat g l = record {
  merge : IsMerge l.merge;
  lists : l.merge.lists ≡ map (λ s. kept_entries g.F.Unicast.family (seat_of s).session.table) (take l.seat-index l.fn.seats);
  left : l.left.items ≡ l.fn.left.items ++ flat_map (λ s. left_entries g.F.Unicast.family (seat_of s)) (take l.seat-index l.fn.seats);
}
