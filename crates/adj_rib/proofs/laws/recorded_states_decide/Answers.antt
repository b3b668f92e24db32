use Rattle.adj_rib.proofs.StateLaws.{no_break, breaks_not, up_by_last, established_if_up}
use Rattle.adj_rib.proofs.laws.recorded_states_decide.Goals as goal

pub returns : goal.returns
returns c = record {
  breaks = λ from to. (no_break from to, breaks_not from to);
  up = up_by_last;
  established = established_if_up;
}
