use Rattle.adj_rib.proofs.StateLaws.{one_is, breaks_one, always_up, idle_never}
use Rattle.adj_rib.proofs.laws.established_sessions_decide.Goals as goal

pub returns : goal.returns
returns c = record {
  breaks = λ from to. (one_is from to, breaks_one from to);
  up = always_up;
  idle = idle_never;
}
