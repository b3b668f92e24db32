use Rattle.std.proofs.Common.{◌∙◌, Option, ap, sym, subst}
use Rattle.std.specs.Option.{IfSome}
use Rattle.adj_rib.specs.declared.routes.RouteId.{RouteId}
use Rattle.adj_rib.specs.Applied.{RouteMap}
use Rattle.adj_rib.specs.Noting.{applied_noting}
use Rattle.adj_rib.specs.Steps.{withdraw}
use Rattle.adj_rib.proofs.NamedRoutes.{AreNamed-remove, IsId, withdrawn}
use Rattle.adj_rib.proofs.route_table.RouteTable.withdraw.Goals as goal

pub route_of-route-requires : goal.route_of-route-requires
route_of-route-requires g c = subst (λ (o : Option RouteId). IfSome o (IsId c.self.inside.routes)) (sym c.remove-old.ensures.before) (c.self.invariant c.args.key.now)

pub invariant_of-self : goal.invariant_of-self
invariant_of-self g c =
    AreNamed-remove c.self.inside.routes (g.M.PrefixMap.contents c.self.inside.map) (g.M.PrefixMap.contents c.remove-old.new.self) c.args.key.now c.remove-old.ensures.removed c.self.invariant

pub invariant_of-self-2 : goal.invariant_of-self-2
invariant_of-self-2 g c =
    AreNamed-remove c.self.inside.routes (g.M.PrefixMap.contents c.self.inside.map) (g.M.PrefixMap.contents c.remove-old.new.self) c.args.key.now c.remove-old.ensures.removed c.self.invariant

pub returns : goal.returns
returns g c =
    let keep = g.N.Notes.keep in
    let kept = g.N.Notes.kept c.args.notes.now in
    withdrawn keep c.self.inside.routes (g.M.PrefixMap.contents c.self.inside.map) (g.M.PrefixMap.contents c.remove-old.new.self) c.args.key.now c.remove-old.result c.remove-old.ensures.before c.outcome_without-outcome.result c.args.churn.now c.count.new.self c.count.ensures kept (g.N.Notes.kept c.note.new.self) c.remove-old.ensures.removed c.outcome_without-outcome.ensures
    (c.in_ok-note.ensures ∙ (λ i. keep kept (record { what = c.what.ensures i; key = c.args.key.now; route = c.route_of-route.ensures i; before = c.route_of-route.ensures i })))
    ∙ ap (λ (m : RouteMap). applied_noting keep ((m, c.args.churn.now), kept) (withdraw c.args.key.now)) c.self.view_is
