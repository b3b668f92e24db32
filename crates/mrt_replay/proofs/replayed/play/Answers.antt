use Rattle.std.proofs.Common.{Ok, map, refl, sym, ap, ◌∙◌}
use Rattle.std.proofs.lemmas.List.{length-map}
use Rattle.lane_deal.specs.Playing.{shown}
use Rattle.mrt_replay.proofs.RoundsTaken.{SoFar-none, SoFar-more, HasPlayed-from, falls, runs_on}
use Rattle.mrt_replay.proofs.replayed.play.Goals as goal

pub rounds-init : goal.rounds-init
rounds-init g c = record {
  files = c.requires.files;
  running = c.requires.running;
  plan = refl;
  dealing = refl;
  counts = refl;
  far = SoFar-none (g.D.Dealing.lane_of c.args.replayer.now.dealer.dealing) c.args.replayer.now.plan (shown c.args.replayer.now) c.args.units.now (map g.R.Source.remaining c.args.files.now) c.args.replayer.now.rounds;
}

pub rounds-smaller : goal.rounds-smaller
rounds-smaller g c =
    let inv = c.rounds.invariant in
    let p = rw (inv.dealing, inv.plan) at (c.in-Ok.ensures.played inv.running) in
    let up = c.in-Ok.ensures.forks inv.running in
    falls _ _ _ _ _ _ _ _ _ _ _ _ _ _ (rw inv.dealing at c.lanes_are_below.ensures) inv.far c.in-Ok.step p p.takes up c.requires.plan (c.is_end.ensures.more c.if-is_end.false)

pub rounds-preserved : goal.rounds-preserved
rounds-preserved g c =
    let inv = c.rounds.invariant in
    let p = rw (inv.dealing, inv.plan) at (c.in-Ok.ensures.played inv.running) in
    let up = c.in-Ok.ensures.forks inv.running in
    let ne = c.is_end.ensures.more c.if-is_end.false in
    record {
      files = c.round.auto.files ∙ inv.files ∙ sym c.in-Ok.ensures.count;
      running = c.in-Ok.ensures.state inv.running ∙ runs_on c.in-Ok.step ne;
      plan = c.in-Ok.ensures.kept.0 ∙ inv.plan;
      dealing = c.in-Ok.ensures.kept.1 inv.running ∙ inv.dealing;
      counts = (c.in-Ok.ensures.reads inv.running).sound ∙ inv.counts;
      far = SoFar-more _ _ _ _ _ _ _ _ _ _ _ _ _ _ (rw inv.dealing at c.lanes_are_below.ensures) inv.far c.in-Ok.step p p.takes up ne;
    }

pub returns-then-is_end-clause-played : goal.returns-then-is_end-clause-played
returns-then-is_end-clause-played g c =
    let inv = c.rounds.invariant in
    let p = rw (inv.dealing, inv.plan) at (c.in-Ok.ensures.played inv.running) in
    let up = c.in-Ok.ensures.forks inv.running in
    let is = c.is_end.ensures.end c.if-is_end.true in
    HasPlayed-from _ _ _ _ _ _ _ _ _ _ _ _ _ _ (rw inv.dealing at c.lanes_are_below.ensures) inv.far c.in-Ok.step p p.takes up c.requires.plan is
    (c.in-Ok.ensures.at_end inv.running (ap (λ x. Ok x) is)) (length-map c.round.new.files g.R.Source.remaining ∙ c.round.auto.files ∙ inv.files ∙ sym c.in-Ok.ensures.count)

pub returns-then-is_end-clause-sound : goal.returns-then-is_end-clause-sound
returns-then-is_end-clause-sound g c = let inv = c.rounds.invariant in (c.in-Ok.ensures.reads inv.running).sound ∙ inv.counts
