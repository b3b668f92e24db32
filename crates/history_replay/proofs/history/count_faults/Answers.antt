use Rattle.std.proofs.Common.{◌≡◌, ◌+◌, ◌-◌, ◌^◌, ◌++◌, ◌∙◌, refl, sym, ap, length, map, take, length-append, arith}
use Rattle.std.specs.Prelude.{min}
use Rattle.std.specs.List.{flat_map}
use Rattle.peer_tables.specs.Histories.{PeerWatch}
use Rattle.peer_tables.specs.Watching.{watch_in}
use Rattle.peer_tables.proofs.RowLaws.{pieces_of_all, pieces_more}
use Rattle.history_replay.proofs.history.count_faults.Goals as goal

pub loop-watched-preserved : goal.loop-watched-preserved
loop-watched-preserved g c =
    let watched = c.watched-item.result in
    let before = flat_map (λ w. (watch_in w).watch.faults) (take c.loop-watched.watched-index c.args.watches.now) in
    let own = (watch_in watched).watch.faults in
    let size : length own ≡ length c.faults.result.now = ap length (sym c.faults.ensures) in
    let more = pieces_more (λ w. (watch_in w).watch.faults) c.args.watches.now c.loop-watched.watched-index watched before (before ++ own) c.loop-watched-test.true c.watched-item.is refl refl in
    let counted : min (c.loop-watched.count + length c.faults.result.now) (2 ^ 64 - 1) ≡ min (c.args.refusals + length (before ++ own)) (2 ^ 64 - 1) = omega (arith, c.loop-watched.invariant, length-append before own, size) in
    c.saturating_add-count.ensures ∙ counted ∙ ap (λ l. min (c.args.refusals + length l) (2 ^ 64 - 1)) more

pub returns : goal.returns
returns g c =
    c.loop-watched.invariant
    ∙ ap (λ l. min (c.args.refusals + length l) (2 ^ 64 - 1)) (pieces_of_all watch_in (λ (p : PeerWatch). p.watch.faults) c.args.watches.now (map watch_in c.args.watches.now) c.loop-watched.watched-index c.loop-watched-test.false refl)
