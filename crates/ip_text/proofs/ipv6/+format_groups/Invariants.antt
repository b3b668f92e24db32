use Rattle.std.proofs.Common.{length}
use Rattle.ip_text.proofs.ipv6.+format_groups.Given as goal

abbrev pub decreases-format_groups : goal.decreases-format_groups
decreases-format_groups l = length l.groups.now
