use Rattle.std.proofs.Common.{map, refl, sym, ◌∙◌}
use Rattle.std.proofs.lemmas.List.{length-map}
use Rattle.history_replay.specs.Tellings.{Tells}
use Rattle.history_replay.proofs.FilesTaken.{taken_none, taken_more, taken_all}
use Rattle.history_replay.proofs.told.tell.Goals as goal

pub files-init : goal.files-init
files-init g c = record {
  files = c.requires.files;
  reading = c.requires.reading;
  plan = (refl, refl, refl);
  counts = refl;
  far = taken_none (Tells c.args.chosen.now c.args.listing) c.args.units.now (map g.R.Source.remaining c.args.files.now) c.args.told.now;
}

pub files-preserved : goal.files-preserved
files-preserved g c =
    let inv = c.files.invariant in
    let plan = c.in-Ok-Some.ensures.bounds.plan in
    let gives = rw c.in-Ok-Some.field-0-is at c.in-Ok-Some.ensures.gives in
    record {
      files = c.next.auto.files ∙ inv.files ∙ sym plan.0;
      reading = c.in-Ok-Some.ensures.gives.state;
      plan = (plan.0 ∙ inv.plan.0, plan.1 ∙ inv.plan.1, plan.2 ∙ inv.plan.2);
      counts = c.in-Ok-Some.ensures.gives.counted ∙ inv.counts;
      far = taken_more (Tells c.args.chosen.now c.args.listing) _ _ _ _ _ _ _ _ inv.far c.in-Ok-Some.found c.take.new.self
          gives.found gives.few
          c.in-Ok.ensures;
    }

pub returns-in-Ok-None-clause-told : goal.returns-in-Ok-None-clause-told
returns-in-Ok-None-clause-told g c =
    let inv = c.files.invariant in
    let gives = rw c.in-Ok-None.field-0-is at c.in-Ok-None.ensures.gives in
    let ends = c.in-Ok-None.ensures.ends c.in-Ok-None.field-0-is in
    taken_all (Tells c.args.chosen.now c.args.listing) _ _ _ _ _ _ _ _ inv.far
    gives.found ends.nothing ends.ended.1
    (length-map c.next.new.files g.R.Source.remaining ∙ c.next.auto.files ∙ inv.files ∙ sym c.in-Ok-None.ensures.bounds.plan.0)
