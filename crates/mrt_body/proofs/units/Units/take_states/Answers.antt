use Rattle.std.proofs.Common.{refl}
use Rattle.mrt_body.specs.ToCome.{index_pending}
use Rattle.mrt_body.proofs.TellLaws.{states_taken}
use Rattle.mrt_body.proofs.units.Units.take_states.Goals as goal

pub returns-in-Ok-tell-clause-takes : goal.returns-in-Ok-tell-clause-takes
returns-in-Ok-tell-clause-takes g c =
    (states_taken _ c.args.self.now c.self.view_is c.requires.given c.self.inside.waiting (index_pending c.self.inside.index) refl
    c.args.at c.args.is_extended c.args.width c.args.body c.in-Ok.change (rw c.as_slice.ensures at c.in-Ok.ensures)
    c.tell.new.dumps c.tell.new.waiting c.in-Ok-tell.ensures.waiting c.in-Ok-tell.ensures.dumps c.in-Ok-tell.ensures.few).0

pub returns-in-Ok-tell-clause-few : goal.returns-in-Ok-tell-clause-few
returns-in-Ok-tell-clause-few g c =
    (states_taken _ c.args.self.now c.self.view_is c.requires.given c.self.inside.waiting (index_pending c.self.inside.index) refl
    c.args.at c.args.is_extended c.args.width c.args.body c.in-Ok.change (rw c.as_slice.ensures at c.in-Ok.ensures)
    c.tell.new.dumps c.tell.new.waiting c.in-Ok-tell.ensures.waiting c.in-Ok-tell.ensures.dumps c.in-Ok-tell.ensures.few).1
