use Rattle.std.proofs.Common.{length}
use Rattle.command_line.proofs.Lines.{IsRead}
use Rattle.command_line.proofs.list.read_list.Given as goal
use Rattle.command_line.specs.Families.{SpellsIn}

abbrev pub invariant-lines : goal.invariant-lines
invariant-lines g l = IsRead (SpellsIn g.F.AddressText.FAMILY) g.F.Family.WIDTH l.text l.rest l.number l.choices.items

abbrev pub decreases-lines : goal.decreases-lines
decreases-lines g l = length l.rest
