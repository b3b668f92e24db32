use Rattle.std.proofs.Common.{◌≡◌, ◌∙◌, map}
use Rattle.std.specs.List.{fold}
use Rattle.adj_rib.specs.Steps.{announce}
use Rattle.adj_rib.specs.Noting.{applied_noting}
use Rattle.adj_rib.specs.Selecting.{selected_steps}
use Rattle.adj_rib.specs.Routes.{named_routes, route_at}
use Rattle.adj_rib.proofs.NamedRoutes.{AreNamed-grown, stays}
use Rattle.adj_rib.proofs.route_table.RouteTable.announce_chosen.Goals as goal

pub invariant_of-self : goal.invariant_of-self
invariant_of-self g c = AreNamed-grown c.self.inside.routes c.intern.new.self (g.M.PrefixMap.contents c.self.inside.map) c.intern.ensures.grows c.self.invariant

pub put_chosen-requires-clause-all : goal.put_chosen-requires-clause-all
put_chosen-requires-clause-all g c = AreNamed-grown c.self.inside.routes c.intern.new.self (g.M.PrefixMap.contents c.self.inside.map) c.intern.ensures.grows c.self.invariant

pub returns : goal.returns
returns g c =
    let before : named_routes c.intern.new.self (g.M.PrefixMap.contents c.self.inside.map) ≡ c.args.self.now =
    stays c.self.inside.routes c.intern.new.self (g.M.PrefixMap.contents c.self.inside.map) c.args.self.now c.intern.ensures.grows c.self.invariant c.self.view_is in
    let route : route_at c.intern.new.self c.in_ok-id.id.at ≡ c.args.hashed.now.route = c.in_ok-id.ensures.names.is in
    c.in_ok-put_chosen.ensures.ok ∙ (λ i. fold (applied_noting g.N.Notes.keep) ((before i, c.args.churn.now), g.N.Notes.kept c.args.notes.now) (selected_steps (g.C.Chooses.is_chosen c.args.chosen.now) (map (λ key. announce key (route i)) c.args.keys.now)))
