use Rattle.std.proofs.Common.{Some, [], ◌∷◌, ◌<◌, sym, ap, ◌∙◌}
use Rattle.mrt_frame.specs.declared.cut.Cut.{Cut}
use Rattle.bgp_update.specs.Families.{FamilyOf}
use Rattle.mrt_body.specs.Units.{body_kind_of, refused_at, at_record}
use Rattle.mrt_frame.specs.Given.{told_map}
use Rattle.mrt_body.specs.ToCome.{UnitsState, CutsOne, Steps}
use Rattle.mrt_body.proofs.ToldLaws.{step_told}
use Rattle.mrt_body.proofs.StepLaws.{step_broken, step_records}
use Rattle.mrt_body.proofs.units.Units.step.Goals as goal

pub returns-in-Some-Broken-clause-gives : goal.returns-in-Some-Broken-clause-gives
returns-in-Some-Broken-clause-gives g c =
    rw c.refused.ensures (step_broken c.args.self.now c.cut.new.self (g.R.Source.remaining c.args.reader.now) (g.R.Source.remaining c.cut.new.reader) c.self.inside.file c.in-Some-Broken.offset c.in-Some-Broken.fault c.in_ok-cut.field-0
    (ap (λ (u : UnitsState). u.file) c.self.view_is)
    (c.in-Some-Broken.is ∙ ap (λ (x : Cut). Some x) c.in-Some-Broken.field-0-is)
    (rw c.reuse_record.ensures at c.in_ok-cut.ensures.gives.cuts))

pub returns-in-Some-Whole-clause-gives : goal.returns-in-Some-Whole-clause-gives
returns-in-Some-Whole-clause-gives g c =
    step_records c.args.self.now c.self.inside.file c.in-Some-Whole.record c.cut.new.self c.take.new.self (g.R.Source.remaining c.args.reader.now) (g.R.Source.remaining c.cut.new.reader) c.take.result c.in_ok-cut.field-0
    (ap (λ (u : UnitsState). u.file) c.self.view_is)
    (c.in-Some-Whole.is ∙ ap (λ (x : Cut). Some x) c.in-Some-Whole.field-0-is)
    (rw c.reuse_record.ensures at c.in_ok-cut.ensures.gives.cuts)
    (rw (c.is_extended.ensures, c.body_kind_of-content.ensures ∙ ap (λ (family : FamilyOf). body_kind_of family c.in-Some-Whole.record.kind c.in-Some-Whole.record.subtype) (sym c.is_known.ensures)) at c.take.ensures.takes)

-- ---- the same of each telling that agrees with what was read

pub returns-in-Some-Broken-clause-told : goal.returns-in-Some-Broken-clause-told
returns-in-Some-Broken-clause-told g c =
    rw c.refused.ensures (told_map g.R.Source.reads c.args.reader.now c.cut.new.reader (c.args.self.now.file < c.cut.new.self.file) (c.args.self.now.file < c.cut.new.self.file)
    (λ told left. CutsOne c.args.self.now told c.cut.new.self left c.in_ok-cut.field-0)
    (λ told left. Steps c.args.self.now told c.cut.new.self left (refused_at (at_record c.self.inside.file c.in-Some-Broken.offset 0) c.in-Some-Broken.fault ∷ []))
    (λ e. e)
    (λ told left. step_broken c.args.self.now c.cut.new.self told left c.self.inside.file c.in-Some-Broken.offset c.in-Some-Broken.fault c.in_ok-cut.field-0
    (ap (λ (u : UnitsState). u.file) c.self.view_is)
    (c.in-Some-Broken.is ∙ ap (λ (x : Cut). Some x) c.in-Some-Broken.field-0-is))
    (rw c.reuse_record.ensures at c.in_ok-cut.ensures.told))

pub returns-in-Some-Whole-clause-told : goal.returns-in-Some-Whole-clause-told
returns-in-Some-Whole-clause-told g c =
    step_told g.R.Source.reads c.args.reader.now c.cut.new.reader c.args.self.now c.self.inside.file c.in-Some-Whole.record c.cut.new.self c.take.new.self c.take.result c.in_ok-cut.field-0
    (ap (λ (u : UnitsState). u.file) c.self.view_is)
    (c.in-Some-Whole.is ∙ ap (λ (x : Cut). Some x) c.in-Some-Whole.field-0-is)
    (rw (c.is_extended.ensures, c.body_kind_of-content.ensures ∙ ap (λ (family : FamilyOf). body_kind_of family c.in-Some-Whole.record.kind c.in-Some-Whole.record.subtype) (sym c.is_known.ensures)) at c.take.ensures.takes)
    (rw c.reuse_record.ensures at c.in_ok-cut.ensures.told)
