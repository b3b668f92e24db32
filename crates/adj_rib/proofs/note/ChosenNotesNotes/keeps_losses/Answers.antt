use Rattle.std.proofs.Common.{ap}
use Rattle.adj_rib.specs.Noting.{keep_beside}
use Rattle.adj_rib.proofs.NotingLaws.{lost_beside}
use Rattle.adj_rib.proofs.note.ChosenNotesNotes.keeps_losses.Goals as goal

pub returns : goal.returns
returns g c = record {
  none = λ none note lost.
      lost_beside (keep_beside g.N.Notes.keep) c.args.self.now.routes.now c.args.self.now.churn (c.args.self.now.notes.ghost_name, g.N.Notes.kept c.args.self.now.notes.now)
      (λ n l. ap (λ k. (c.args.self.now.notes.ghost_name, k)) (c.keeps_losses.ensures.none none n l)) note lost;
}
