-- those of the watches so far
use Rattle.std.proofs.Common.{◌≡◌, ◌-◌, ◌^◌, length, take}
use Rattle.std.specs.Prelude.{min}
use Rattle.std.specs.List.{flat_map}
use Rattle.peer_tables.specs.Watching.{watch_in}
use Rattle.history_replay.specs.Tellings.{routes_chosen}
use Rattle.history_replay.proofs.history.count_routes.Given as goal

abbrev pub invariant-loop-watched : goal.invariant-loop-watched
invariant-loop-watched g l = l.count ≡ min (length (flat_map (λ w. routes_chosen l.routes (watch_in w).watch.table) (take l.watched-index l.watches))) (2 ^ 64 - 1)
