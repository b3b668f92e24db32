use Rattle.std.proofs.Common.{subst, List}
use Rattle.adj_rib.specs.Keeping.{counted_in}
use Rattle.adj_rib.specs.Steps.{Step}
use Rattle.adj_rib.specs.Noting.{Takes}
use Rattle.adj_rib.proofs.UpdateSteps.{same_others}
use Rattle.adj_rib.proofs.counted_table.CountedTable.withdraw_update.Goals as goal

pub returns : goal.returns
returns g c =
    let update = c.args.update.now in
    subst (λ (steps : List Step). Takes g.N.Notes.keep (g.C.Chooses.is_chosen c.args.chosen.now) steps (counted_in c.args.self.now, g.N.Notes.kept c.args.notes.now) (counted_in c.withdraw_others.new.self, g.N.Notes.kept c.withdraw_others.new.notes))
    (same_others c.in_ok-announced.announced update.announced.now c.in_ok-reached.reached update.reached.now _ c.in_ok-announced.ensures c.in_ok-reached.ensures) c.in_ok-withdraw_others.ensures
