use Rattle.std.proofs.Common.{take}
use Rattle.std.specs.List.{flat_map}
use Rattle.peer_tables.specs.Seats.{seat_of}
use Rattle.checkpoint_writing.specs.Dumping.{Grows}
use Rattle.checkpoint_writing.specs.Leaving.{state_bytes}
use Rattle.checkpoint_writing.proofs.peer_records.put_states.Given as goal

abbrev pub invariant-loop-seat : goal.invariant-loop-seat
invariant-loop-seat g l =
    Grows (g.W.Sink.contents l.fn.out) l.fn.waiting.items (g.W.Sink.contents l.out) l.waiting.items
    (flat_map (λ s. state_bytes l.fn.rule g.F.Unicast.family l.fn.seconds (seat_of s)) (take l.seat-index l.fn.seats))
