use Rattle.std.proofs.Common.{◌≡◌, ap, ◌∙◌, ◌++◌}
use Rattle.mrt_frame.specs.declared.read_state.ReadState.TheVariants.{Ended}
use Rattle.mrt_frame.specs.Frames.{TakesCuts}
use Rattle.mrt_frame.specs.Given.{NextIs, PartIs, told_known}
use Rattle.mrt_frame.proofs.FrameLaws.{TakesCuts-more}
use Rattle.mrt_frame.proofs.NextRead.{told_more, takes_nothing}
use Rattle.mrt_frame.proofs.laws.tellings_are_of_what_was_read.Goals as goal

pub returns-clause-joined : goal.returns-clause-joined
returns-clause-joined g c a b d x y z first second taken more p q stays =
    told_more g.R.Source.reads g.met.R.Source.reads_more x y z (b.state ≡ Ended) (d.state ≡ Ended) (λ told left. TakesCuts a told b left taken) (λ told left. TakesCuts b told d left more) (λ told left. TakesCuts a told d left (taken ++ more))
    (λ told mid left. TakesCuts-more a b d told mid left taken more) p q
    (λ e. let same = stays e in (same.1, ap (λ s. s.state) same.0 ∙ e, λ left. takes_nothing b d left more same.0 same.2))

pub returns-clause-cut : goal.returns-clause-cut
returns-clause-cut g c old new device left cut = told_known g.R.Source.remaining g.R.Source.reads g.met.R.Source.reads_known device left (new.state ≡ Ended) (NextIs old new cut)

pub returns-clause-part : goal.returns-clause-part
returns-clause-part g c old device left error = told_known g.R.Source.remaining g.R.Source.reads g.met.R.Source.reads_known device left ⊥ (PartIs old error)
