use Rattle.std.proofs.Common.{take}
use Rattle.std.specs.List.{flat_map}
use Rattle.checkpoint_writing.specs.Dumping.{Grows}
use Rattle.checkpoint_writing.specs.Leaving.{update_bytes_of}
use Rattle.checkpoint_writing.proofs.peer_records.put_route_updates.Given as goal

abbrev pub invariant-loop-entry : goal.invariant-loop-entry
invariant-loop-entry g l =
    Grows (g.W.Sink.contents l.fn.out) l.fn.waiting.items (g.W.Sink.contents l.out) l.waiting.items
    (flat_map (update_bytes_of g.F.Unicast.family l.fn.seconds l.fn.peer) (take l.entry-index l.fn.listed))
