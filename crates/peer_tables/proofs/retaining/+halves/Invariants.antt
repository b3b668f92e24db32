use Rattle.std.proofs.Common.{◌+◌, ◌-◌, ◌*◌, length}
use Rattle.peer_tables.proofs.retaining.+halves.Given as goal

-- neither half is empty, so a call for both lies between that for the whole and that for each
abbrev pub decreases-retain_all : goal.decreases-retain_all
decreases-retain_all g l = 4 * length l.seats.now

abbrev pub decreases-retain_both : goal.decreases-retain_both
decreases-retain_both g l = 4 * (length l.front.now + length l.back.now) - 1

abbrev pub decreases-retain_both-retain_front : goal.decreases-retain_both-retain_front
decreases-retain_both-retain_front g l = 4 * length l.front.now + 1

abbrev pub decreases-retain_both-retain_back : goal.decreases-retain_both-retain_back
decreases-retain_both-retain_back g l = 4 * length l.back.now + 1
