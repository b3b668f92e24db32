use Rattle.std.proofs.Common.{◌≡◌, length}
use Rattle.command_line.specs.Lists.{trimmed}
use Rattle.command_line.proofs.list.trimmed.Given as goal

abbrev pub invariant-loop-last : goal.invariant-loop-last
invariant-loop-last l = trimmed l.kept ≡ trimmed l.line

abbrev pub decreases-loop-last : goal.decreases-loop-last
decreases-loop-last l = length l.kept
