use Rattle.std.proofs.Common.{◌≡◌, List, length, take}
use Rattle.peer_units.specs.Plain.{Unit as ReplayUnit}
use Rattle.lane_schedules.specs.Schedules.{after_turns, start}
use Rattle.lane_schedules.specs.ShownLanes.{LanesShow}
use Rattle.lane_schedules.proofs.schedule.apply_all.Given as goal

abbrev pub invariant-loop-turn : goal.invariant-loop-turn
invariant-loop-turn g l =
    (length l.lanes ≡ length l.initial.lanes)
    × ((all : List ReplayUnit) → LanesShow all l.initial.undealt.items l.initial.lanes (start all) → LanesShow all l.undealt.items l.lanes (after_turns (λ number. g.D.Dealing.lane_of l.dealing number (length l.initial.lanes)) all (take l.turn-index l.turns)))
