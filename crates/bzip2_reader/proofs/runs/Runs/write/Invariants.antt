-- the bytes so far, and what is left
use Rattle.std.proofs.Common.{length, ◌-◌, ◌≡◌, ◌≤◌, ◌++◌, take}
use Rattle.bzip2_reader.specs.Runs.{IsSettled, left}
use Rattle.bzip2_reader.proofs.runs.Runs.write.Given as goal

abbrev pub invariant-loop-done : goal.invariant-loop-done
invariant-loop-done l = record {
  within : l.done ≤ length l.out;
  settled : IsSettled l.text l.self;
  written : left l.text l.initial.self ≡ take l.done l.out ++ left l.text l.self;
}

abbrev pub decreases-loop-done : goal.decreases-loop-done
decreases-loop-done l = length l.initial.out - l.done
