use Rattle.std.proofs.Common.{length, map, string_bytes}
use Rattle.command_line.proofs.FileNames.{IsRead}
use Rattle.command_line.proofs.file_list.read_file_list.Given as goal

abbrev pub invariant-names : goal.invariant-names
invariant-names l = IsRead l.end l.text l.rest l.number (map string_bytes l.names.items)

abbrev pub decreases-names : goal.decreases-names
decreases-names l = length l.rest
