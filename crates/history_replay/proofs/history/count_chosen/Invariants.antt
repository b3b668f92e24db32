-- those of the entries so far
use Rattle.std.proofs.Common.{◌≡◌, ◌-◌, ◌^◌, length, take}
use Rattle.std.specs.Prelude.{min}
use Rattle.history_replay.specs.Tellings.{routes_chosen}
use Rattle.history_replay.proofs.history.count_chosen.Given as goal

abbrev pub invariant-loop-entry : goal.invariant-loop-entry
invariant-loop-entry g l = l.count ≡ min (length (routes_chosen l.routes (take l.entry-index l.entries))) (2 ^ 64 - 1)
