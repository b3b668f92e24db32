use Rattle.std.proofs.Common.{◌∙◌}
use Rattle.adj_rib.proofs.SessionLaws.{session_after}
use Rattle.adj_rib.proofs.Taking.{arrived_told}
use Rattle.adj_rib.proofs.session.Session.take_event.Goals as goal

pub returns-in-Ok-clause-stands : goal.returns-in-Ok-clause-stands
returns-in-Ok-clause-stands g c = λ before unit h means.
    session_after _ before unit _ _ _ _ (c.in-Ok.ensures unit means) _ _ c.self.inside.spent c.if-self.false (c.self.view_is ∙ h)
    (rw c.is_recorded.ensures at c.note.ensures ∙ arrived_told unit c.args.place c.args.time _ means (c.clears_are_told.ensures unit.payload) c.self.inside.arrivals)
