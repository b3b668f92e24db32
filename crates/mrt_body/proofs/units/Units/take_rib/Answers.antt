use Rattle.std.proofs.Common.{◌≡◌, ◌≤◌, ◌+◌, ℕ, ◌++◌, length, sym, ap, subst}
use Rattle.mrt_body.specs.Pending.{IndexState}
use Rattle.mrt_body.specs.RibDumps.{dumps_with, may_begin}
use Rattle.mrt_body.specs.ToCome.{UnitsState}
use Rattle.mrt_body.specs.Units.{time_of}
use Rattle.mrt_body.proofs.HeardLaws.{few_behind}
use Rattle.mrt_body.proofs.units.Units.take_rib.Goals as goal

pub returns-in-Ok-follow-clause-few : goal.returns-in-Ok-follow-clause-few
returns-in-Ok-follow-clause-few g c =
    let in_force = c.self.inside in
    let begun = may_begin in_force.selection in_force.dumps.begun (time_of c.args.at 0) in
    let index : c.read.new.self ≡ c.in-Some-index.index = cc in
    let dumps : c.follow.new.dumps ≡ dumps_with in_force.selection.ribs begun in_force.dumps c.read.new.self.pending =
    subst (λ (i : IndexState). c.follow.new.dumps ≡ dumps_with in_force.selection.ribs begun in_force.dumps i.pending) (sym index) c.in-Ok-follow.ensures.dumps in
    let few = few_behind in_force.selection.ribs begun c.args.at in_force.dumps c.follow.new.dumps c.read.new.self.pending c.follow.new.waiting c.in-Ok-follow.ensures.waiting dumps c.read.ensures.few in
    let same : length in_force.dumps.heard ≡ length c.args.self.now.dumps.heard = ap (λ (u : UnitsState). length u.dumps.heard) c.self.view_is in
    subst (λ (n : ℕ). (0 + length (c.follow.new.waiting ++ c.read.new.self.pending)) + length c.follow.new.dumps.heard ≤ 131070 + n) same few
