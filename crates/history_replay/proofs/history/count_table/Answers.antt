use Rattle.std.proofs.Common.{◌≡◌, ◌-◌, ◌^◌, ◌∙◌, List, ap, arith, length, sym}
use Rattle.std.specs.Prelude.{min}
use Rattle.std.specs.FinMap as finite
use Rattle.bgp_prefix.specs.Keys.{RouteKey}
use Rattle.bgp_update.specs.declared.route.Route.{Route}
use Rattle.history_replay.specs.Tellings.{routes_chosen}
use Rattle.history_replay.proofs.CountedRoutes.{all_chosen}
use Rattle.history_replay.proofs.history.count_table.Goals as goal

pub returns-then-is_open : goal.returns-then-is_open
returns-then-is_open g c =
    let entries = finite.entries c.args.table.now in
    let all = ap (λ (es : List (RouteKey × Route)). length es) (all_chosen c.args.routes.now (c.is_open.ensures.all c.if-is_open.true) entries) in
    let size = finite.len-entries c.args.table.now in
    let len = c.len.ensures in
    omega (arith, all, size, len)

pub returns : goal.returns
returns g c =
    c.count_chosen.ensures
    ∙ ap (λ (es : List (RouteKey × Route)). min (length (routes_chosen c.args.routes.now es)) (2 ^ 64 - 1)) (c.as_slice.ensures.value ∙ c.in_ok-entries.ensures)
