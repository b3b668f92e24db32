use Rattle.std.proofs.Common.{◌≡◌, Some, IfOk, IfSome, ap, subst, ◌∙◌, arith, rules, refl, Ok, length}
use Rattle.mrt_frame.specs.declared.cut.Cut.TheVariants.{Whole}
use Rattle.mrt_frame.specs.declared.read_state.ReadState.TheVariants.{Ended}
use Rattle.mrt_frame.specs.Frames.{state_after, StandsAt}
use Rattle.mrt_frame.specs.Given.{ReadsFirst}
use Rattle.mrt_frame.proofs.NextRead.{next-whole_by, next-last_by, next-part_by}
use Rattle.mrt_frame.proofs.frame_reader.FrameReader.advance.Goals as goal

pub returns-in-Ok-Some-Whole-clause-told : goal.returns-in-Ok-Some-Whole-clause-told
returns-in-Ok-Some-Whole-clause-told g c =
    let is : c.read_cut-result.result ≡ Ok (Some (Whole c.in-Ok-Some-Whole.record)) = search rules in
    next-whole_by g.R.Source.reads c.args.self.now _ c.args.reader.now c.read_cut-result.new.reader c.in-Ok-Some-Whole.record c.read_cut-result.result is c.requires
    (subst (λ n. IfOk c.read_cut-result.result (ReadsFirst g.R.Source.reads n c.args.reader.now c.read_cut-result.new.reader)) (ap (λ p. p.offset) c.self.view_is) c.read_cut-result.ensures.read)
    (subst (λ n. IfOk c.read_cut-result.result (λ cut. IfSome cut (StandsAt n))) (ap (λ p. p.offset) c.self.view_is) c.read_cut-result.ensures.place)
    (ap (λ p. p.state) c.self.view_is ∙ c.requires)
    (omega (arith, ap (λ p. p.offset) c.self.view_is, c.from.ensures, ap (λ l. length l) c.as_slice.ensures))

pub returns-in-Ok-clause-told : goal.returns-in-Ok-clause-told
returns-in-Ok-clause-told g c =
    let last : IfOk c.read_cut-result.result (λ cut. state_after cut ≡ Ended) = search rules in
    next-last_by g.R.Source.reads c.args.self.now _ c.args.reader.now c.read_cut-result.new.reader c.read_cut-result.result c.requires
    (subst (λ n. IfOk c.read_cut-result.result (ReadsFirst g.R.Source.reads n c.args.reader.now c.read_cut-result.new.reader)) (ap (λ p. p.offset) c.self.view_is) c.read_cut-result.ensures.read)
    last refl

pub returns-in-Err-clause-part : goal.returns-in-Err-clause-part
returns-in-Err-clause-part g c =
    next-part_by g.R.Source.reads c.args.self.now c.self.inside.offset c.args.reader.now c.read_cut-result.new.reader c.read_cut-result.result (ap (λ p. p.offset) c.self.view_is) c.read_cut-result.ensures.stopped
