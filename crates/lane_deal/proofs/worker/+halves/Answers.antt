use Rattle.lane_deal.proofs.Pairs.{all_zip_both_ok}
use Rattle.lane_deal.proofs.worker.+halves.Goals as goal

pub run_all-returns : goal.run_all-returns
run_all-returns g t c =
    rw c.split_at_mut-front.ensures.value (all_zip_both_ok _ _ _ _ _ _ c.run_both.ensures.front c.run_both.ensures.back)
