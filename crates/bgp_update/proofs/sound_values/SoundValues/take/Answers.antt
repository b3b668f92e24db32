use Rattle.std.proofs.Common.{ℕ, false, sym, ap, ◌∙◌}
use Rattle.std.specs.Prelude.{slice_index_or}
use Rattle.bgp_update.specs.Families.{route_rules_of}
use Rattle.bgp_update.specs.Values.{as_written}
use Rattle.bgp_update.proofs.SoundSteps.{passes_unknown, passes_marked, takes_value, loses, leaves_out}
use Rattle.bgp_update.proofs.sound_values.SoundValues.take.Goals as goal

pub returns-in_default-clause-ok : goal.returns-in_default-clause-ok
returns-in_default-clause-ok g c = λ before h.
    passes_unknown c.args.errors (route_rules_of g.F.Unicast.family c.args.self.now.asked.asked) c.args.context c.args.width before (as_written c.args.found.now) c.args.self.now h (sym c.of_code.ensures ∙ c.in_default.is)

pub returns-then-self-value_index-clause-ok : goal.returns-then-self-value_index-clause-ok
returns-then-self-value_index-clause-ok g c = λ before h.
    passes_marked c.args.errors (route_rules_of g.F.Unicast.family c.args.self.now.asked.asked) c.args.context c.args.width before (as_written c.args.found.now) c.args.self.now h c.in-Some.attribute_type (sym c.of_code.ensures ∙ c.in-Some.is) (ap (λ (n : ℕ). slice_index_or c.args.self.now.malformed n false) (sym c.value_index.ensures.index) ∙ c.if-self-value_index.true)

pub returns-then-refuses_repeat-clause-err : goal.returns-then-refuses_repeat-clause-err
returns-then-refuses_repeat-clause-err g c = λ before h.
    loses c.args.errors (route_rules_of g.F.Unicast.family c.args.self.now.asked.asked) c.args.context c.args.width before (as_written c.args.found.now) c.args.self.now h c.in-Some.attribute_type (sym c.of_code.ensures ∙ c.in-Some.is) (ap (λ (n : ℕ). slice_index_or c.args.self.now.malformed n false) (sym c.value_index.ensures.index) ∙ c.if-self-value_index.false)
    c.in-Err.fault (sym c.refuses_repeat.ensures ∙ c.if-refuses_repeat.true) c.in-Err.ensures.err

pub returns-in-Ok-clause-ok : goal.returns-in-Ok-clause-ok
returns-in-Ok-clause-ok g c = λ before h.
    takes_value c.args.errors (route_rules_of g.F.Unicast.family c.args.self.now.asked.asked) c.args.context c.args.width before (as_written c.args.found.now) c.args.self.now h c.in-Some.attribute_type (sym c.of_code.ensures ∙ c.in-Some.is) (ap (λ (n : ℕ). slice_index_or c.args.self.now.malformed n false) (sym c.value_index.ensures.index) ∙ c.if-self-value_index.false)
    c.take_found.new.first c.take_found.new.self c.in-Ok.ensures.ok

pub returns-else-refuses_repeat-clause-ok : goal.returns-else-refuses_repeat-clause-ok
returns-else-refuses_repeat-clause-ok g c = λ before h.
    leaves_out c.args.errors (route_rules_of g.F.Unicast.family c.args.self.now.asked.asked) c.args.context c.args.width before (as_written c.args.found.now) c.args.self.now h c.in-Some.attribute_type (sym c.of_code.ensures ∙ c.in-Some.is) (ap (λ (n : ℕ). slice_index_or c.args.self.now.malformed n false) (sym c.value_index.ensures.index) ∙ c.if-self-value_index.false)
    c.in-Err.fault (sym c.refuses_repeat.ensures ∙ c.if-refuses_repeat.false) c.in-Err.ensures.err c.leave_out.new.self c.requires.marks (c.leave_out.ensures.first ∙ c.in-Err.ensures.same) (c.leave_out.ensures.asked ∙ c.in-Err.ensures.same_asked) c.leave_out.ensures.malformed c.leave_out.ensures.grave
