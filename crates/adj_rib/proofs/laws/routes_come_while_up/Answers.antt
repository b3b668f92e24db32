use Rattle.adj_rib.proofs.SourceLaws.{comes_while_up, emptied_at_end}
use Rattle.adj_rib.proofs.laws.routes_come_while_up.Goals as goal

pub returns : goal.returns
returns c = record {
  source = λ units key route. comes_while_up key route units;
  emptied = emptied_at_end;
}
