use Rattle.std.proofs.Common.{sym}
use Rattle.adj_rib.specs.Keeping.{rib_state_in}
use Rattle.adj_rib.proofs.NotingLaws.{taken_by}
use Rattle.adj_rib.proofs.rib_in.RibIn.take.Goals as goal

pub returns : goal.returns
returns g c = λ unit means.
    rw (sym (taken_by g.N.Notes.keep (g.C.Chooses.is_chosen c.args.chosen.now) (rib_state_in c.args.self.now) (g.N.Notes.kept c.args.notes.now) unit _ _ _ means (c.clears_are_told.ensures unit.payload)), ← c.is_recorded.ensures, ← c.note_unit.ensures, ← c.give_back.ensures) c.follow.ensures
