use Rattle.std.proofs.Common.{◌≡◌, ◌+◌, ◌-◌, ◌^◌, ◌++◌, ◌∙◌, List, refl, sym, ap, length, map, take, length-append, arith}
use Rattle.std.specs.Prelude.{min}
use Rattle.std.specs.List.{flat_map}
use Rattle.bgp_prefix.specs.Keys.{RouteKey}
use Rattle.bgp_update.specs.declared.route.Route.{Route}
use Rattle.peer_tables.specs.Histories.{PeerWatch}
use Rattle.peer_tables.specs.Watching.{watch_in}
use Rattle.peer_tables.proofs.RowLaws.{pieces_of_all, pieces_more}
use Rattle.history_replay.specs.Tellings.{routes_chosen}
use Rattle.history_replay.proofs.history.count_routes.Goals as goal

pub loop-watched-preserved : goal.loop-watched-preserved
loop-watched-preserved g c =
    let choice = c.args.routes.now in
    let watched = c.watched-item.result in
    let before = flat_map (λ w. routes_chosen choice (watch_in w).watch.table) (take c.loop-watched.watched-index c.args.watches.now) in
    let own = routes_chosen choice (watch_in watched).watch.table in
    let size : c.in_ok-more.more ≡ min (length own) (2 ^ 64 - 1) = c.in_ok-more.ensures ∙ ap (λ (es : List (RouteKey × Route)). min (length (routes_chosen choice es)) (2 ^ 64 - 1)) c.table.ensures in
    let more = pieces_more (λ w. routes_chosen choice (watch_in w).watch.table) c.args.watches.now c.loop-watched.watched-index watched before (before ++ own) c.loop-watched-test.true c.watched-item.is refl refl in
    let counted : min (c.loop-watched.count + c.in_ok-more.more) (2 ^ 64 - 1) ≡ min (length (before ++ own)) (2 ^ 64 - 1) = omega (arith, c.loop-watched.invariant, length-append before own, size) in
    c.saturating_add-count.ensures ∙ counted ∙ ap (λ l. min (length l) (2 ^ 64 - 1)) more

pub returns : goal.returns
returns g c =
    let choice = c.args.routes.now in
    c.loop-watched.invariant
    ∙ ap (λ l. min (length l) (2 ^ 64 - 1)) (pieces_of_all watch_in (λ (p : PeerWatch). routes_chosen choice p.watch.table) c.args.watches.now (map watch_in c.args.watches.now) c.loop-watched.watched-index c.loop-watched-test.false refl)
