use Rattle.peer_tables.proofs.Retained.{both_halves_ok}
use Rattle.peer_tables.proofs.retaining.+halves.Goals as goal

pub retain_all-returns : goal.retain_all-returns
retain_all-returns g t c =
    rw c.split_at_mut-front.ensures.value (both_halves_ok _ _ _ _ _ _ c.retain_both.ensures.front c.retain_both.ensures.back)
