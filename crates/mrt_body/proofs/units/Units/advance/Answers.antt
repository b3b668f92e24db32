use Rattle.std.proofs.Common.{rules, [], ◌<◌, Some, None, refl, ap, ◌∙◌, sym, arith, length}
use Rattle.std.proofs.lemmas.List.{length-set}
use Rattle.mrt_body.specs.ToCome.{UnitsState, refusals}
use Rattle.mrt_body.proofs.ToldLaws.{told_step, told_start, told_stop, ends_here}
use Rattle.mrt_body.proofs.FilesLaws.{gives_more, stops_then, bounded_still}
use Rattle.mrt_body.proofs.units.Units.advance.Goals as goal

pub returns-in-Ok-Some-clause-gives : goal.returns-in-Ok-Some-clause-gives
returns-in-Ok-Some-clause-gives g c =
    let file = ap (λ (u : UnitsState). u.file) c.step.view_is in
    let file' = ap (λ (u : UnitsState). u.file) c.self-in-files.view_is in
    let count = ap (λ (u : UnitsState). u.count) c.self-in-files.view_is in
    let within : c.step.inside.file < length c.files.files = omega (arith, file, file', count, c.files.invariant.files, c.self-in-files.invariant.file_in, c.if-self.false) in
    gives_more g.R.Source.remaining g.R.Failures.failure_count c.args.self.now c.files.self c.step-in-files.new.self c.args.files.now c.files.files c.step.inside.file c.index-files-self.result c.step-in-files.new.reader (Some c.in-Ok-Some.damage)
    c.files.invariant.gives (c.if-is_pending.ensures.0 refl) file within (rw c.in-Ok-Some.field-0-is at c.in-Ok-Some.ensures.gives) (rw c.in-Ok-Some.field-0-is at c.in-Ok-Some.ensures.lowers)

pub returns-in-Ok-Some-clause-bounds : goal.returns-in-Ok-Some-clause-bounds
returns-in-Ok-Some-clause-bounds g c =
    bounded_still c.args.self.now c.files.self c.step-in-files.new.self c.args.files.now c.files.files c.step.inside.file c.step-in-files.new.reader c.files.invariant.bounds (ap (λ (u : UnitsState). u.file) c.step.view_is) c.step-in-files.ensures.bounds

pub returns-in-Err-clause-stops : goal.returns-in-Err-clause-stops
returns-in-Err-clause-stops g c =
    let file = ap (λ (u : UnitsState). u.file) c.step.view_is in
    let file' = ap (λ (u : UnitsState). u.file) c.self-in-files.view_is in
    let count = ap (λ (u : UnitsState). u.count) c.self-in-files.view_is in
    let within : c.step.inside.file < length c.files.files = omega (arith, file, file', count, c.files.invariant.files, c.self-in-files.invariant.file_in, c.if-self.false) in
    stops_then g.R.Source.remaining g.R.Failures.failure_count c.args.self.now c.files.self c.step-in-files.new.self c.args.files.now c.files.files c.step.inside.file c.index-files-self.result c.step-in-files.new.reader c.in-Err.error
    c.files.invariant.gives c.files.invariant.bounds.plan.1 file within c.in-Err.ensures.stops

pub returns-in-Err-clause-bounds : goal.returns-in-Err-clause-bounds
returns-in-Err-clause-bounds g c =
    bounded_still c.args.self.now c.files.self c.step-in-files.new.self c.args.files.now c.files.files c.step.inside.file c.step-in-files.new.reader c.files.invariant.bounds (ap (λ (u : UnitsState). u.file) c.step.view_is) c.step-in-files.ensures.bounds

pub files-preserved : goal.files-preserved
files-preserved g c =
    let file = ap (λ (u : UnitsState). u.file) c.step.view_is in
    let file' = ap (λ (u : UnitsState). u.file) c.self-in-files.view_is in
    let count = ap (λ (u : UnitsState). u.count) c.self-in-files.view_is in
    let within : c.step.inside.file < length c.files.files = omega (arith, file, file', count, c.files.invariant.files, c.self-in-files.invariant.file_in, c.if-self.false) in
    record {
      files = length-set c.files.files c.step.inside.file c.step-in-files.new.reader ∙ c.files.invariant.files ∙ sym c.step-in-files.ensures.bounds.plan.0;
      gives = gives_more g.R.Source.remaining g.R.Failures.failure_count c.args.self.now c.files.self c.step-in-files.new.self c.args.files.now c.files.files c.step.inside.file c.index-files-self.result c.step-in-files.new.reader None
          c.files.invariant.gives (c.if-is_pending.ensures.0 refl) file within (rw c.in-Ok-None.field-0-is at c.in-Ok-None.ensures.gives) (rw c.in-Ok-None.field-0-is at c.in-Ok-None.ensures.lowers);
      told = told_step g.R.Source.reads g.met.R.Source.reads_more c.args.files.now c.files.files c.step.inside.file c.index-files-self.result c.step-in-files.new.reader c.args.self.now c.files.self c.step-in-files.new.self []
          c.files.invariant.told file within c.step-in-files.ensures.bounds.onward (c.if-is_pending.ensures.0 refl) (rw c.in-Ok-None.field-0-is at c.in-Ok-None.ensures.told);
      bounds = bounded_still c.args.self.now c.files.self c.step-in-files.new.self c.args.files.now c.files.files c.step.inside.file c.step-in-files.new.reader c.files.invariant.bounds file c.step-in-files.ensures.bounds;
      ended = λ h.
          let still = (c.files.invariant.ended h).0 in
          absurd (omega (arith, file', count, ap (λ (u : UnitsState). u.file) still, ap (λ (u : UnitsState). u.count) still, h.1, c.if-self.false));
    }

pub returns-in-Ok-Some-clause-told : goal.returns-in-Ok-Some-clause-told
returns-in-Ok-Some-clause-told g c =
    let file = ap (λ (u : UnitsState). u.file) c.step.view_is in
    let file' = ap (λ (u : UnitsState). u.file) c.self-in-files.view_is in
    let count = ap (λ (u : UnitsState). u.count) c.self-in-files.view_is in
    let within : c.step.inside.file < length c.files.files = omega (arith, file, file', count, c.files.invariant.files, c.self-in-files.invariant.file_in, c.if-self.false) in
    told_step g.R.Source.reads g.met.R.Source.reads_more c.args.files.now c.files.files c.step.inside.file c.index-files-self.result c.step-in-files.new.reader c.args.self.now c.files.self c.step-in-files.new.self (refusals (Some c.in-Ok-Some.damage))
    c.files.invariant.told file within c.step-in-files.ensures.bounds.onward (c.if-is_pending.ensures.0 refl) (rw c.in-Ok-Some.field-0-is at c.in-Ok-Some.ensures.told)

pub files-init : goal.files-init
files-init g c = record {
  files = c.requires;
  gives = search rules;
  told = told_start g.R.Source.reads g.met.R.Source.reads_none c.args.files.now c.args.self.now;
  bounds = search rules;
  ended = λ h. (refl, refl);
}

pub returns-then-self-clause-ends : goal.returns-then-self-clause-ends
returns-then-self-clause-ends g c _ none =
    ends_here g.R.Source.remaining g.R.Failures.failure_count c.args.self.now c.files.self c.args.files.now c.files.files c.files.invariant.gives c.files.invariant.files
    (sym (ap (λ (u : UnitsState). u.file) c.self-in-files.view_is) ∙ c.if-self.true ∙ ap (λ (u : UnitsState). u.count) c.self-in-files.view_is) none

pub returns-in-Err-clause-stops_told : goal.returns-in-Err-clause-stops_told
returns-in-Err-clause-stops_told g c _ =
    let file = ap (λ (u : UnitsState). u.file) c.step.view_is in
    let file' = ap (λ (u : UnitsState). u.file) c.self-in-files.view_is in
    let count = ap (λ (u : UnitsState). u.count) c.self-in-files.view_is in
    let within : c.step.inside.file < length c.files.files = omega (arith, file, file', count, c.files.invariant.files, c.self-in-files.invariant.file_in, c.if-self.false) in
    told_stop g.R.Source.reads g.met.R.Source.reads_more c.args.files.now c.files.files c.step.inside.file c.index-files-self.result c.step-in-files.new.reader c.args.self.now c.files.self c.step-in-files.new.self c.in-Err.error
    c.files.invariant.told file within c.step-in-files.ensures.bounds.onward c.files.invariant.bounds.plan.1 c.in-Err.ensures.stops_told
