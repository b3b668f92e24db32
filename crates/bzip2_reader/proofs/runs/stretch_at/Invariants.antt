-- the bytes so far, and what follows them
use Rattle.std.proofs.Common.{◌≡◌, ◌<◌, ◌≤◌, ◌-◌, ◌++◌, take, drop}
use Rattle.bzip2_reader.specs.Runs.{written_from}
use Rattle.bzip2_reader.proofs.runs.stretch_at.Given as goal

abbrev pub invariant-loop-far : goal.invariant-loop-far
invariant-loop-far l = record {
  within : (l.from ≤ l.far.end) × (l.far.end ≤ l.to);
  few : l.far.same ≤ 4;
  begun : l.far.end ≡ l.from → l.far.same < 4;
  written : written_from l.last l.same (drop l.from l.text)
      ≡ take (l.far.end - l.from) (drop l.from l.text) ++ written_from l.far.last l.far.same (drop l.far.end l.text);
}

abbrev pub decreases-loop-far : goal.decreases-loop-far
decreases-loop-far l = l.to - l.far.end
