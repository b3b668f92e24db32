use Rattle.std.proofs.Common.{◌<◌, List, ℕ, vec_len}
use Rattle.adj_rib.specs.Routes.{AreSlots}
use Rattle.adj_rib.proofs.routes.with_buckets.Given as goal

abbrev pub invariant-loop-slot : goal.invariant-loop-slot
invariant-loop-slot l = record { some : 0 < vec_len l.moved; slots : (bytes : List ℕ) → AreSlots bytes l.slots → AreSlots bytes l.moved.items }
