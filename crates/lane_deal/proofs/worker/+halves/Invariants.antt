use Rattle.std.proofs.Common.{◌+◌, ◌-◌, ◌*◌, length}
use Rattle.lane_deal.proofs.worker.+halves.Given as goal

-- neither half is empty, so a call for both lies between that for the whole and that for each
abbrev pub decreases-run_all : goal.decreases-run_all
decreases-run_all g l = 4 * length l.workers.now

abbrev pub decreases-run_both : goal.decreases-run_both
decreases-run_both g l = 4 * (length l.front.now + length l.back.now) - 1

abbrev pub decreases-run_both-run_front : goal.decreases-run_both-run_front
decreases-run_both-run_front g l = 4 * length l.front.now + 1

abbrev pub decreases-run_both-run_back : goal.decreases-run_both-run_back
decreases-run_both-run_back g l = 4 * length l.back.now + 1
