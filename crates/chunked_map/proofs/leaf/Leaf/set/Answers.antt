use Rattle.std.proofs.Common.{◌∙◌, ap, set, arith, get_or}
use Rattle.chunked_map.specs.ChunkedMaps.{routes_in}
use Rattle.chunked_map.proofs.LeafLaws.{sized, value_is, routes_set}
use Rattle.chunked_map.proofs.leaf.Leaf.set.Goals as goal

pub exchange-requires : goal.exchange-requires
exchange-requires g c = omega (arith, c.requires, c.self.invariant.values, sized _ _ _ _ c.self.invariant c.self.view_is)

pub returns-clause-before : goal.returns-clause-before
returns-clause-before g c = λ d. value_is _ _ _ _ c.self.invariant c.self.view_is c.args.at c.exchange.result d c.requires c.exchange.ensures.before

pub returns-clause-set : goal.returns-clause-set
returns-clause-set g c =
    let a = c.self.inside in
    λ d. ap (λ vs. routes_in a.keys.items a.ids.items vs) c.exchange.ensures.after ∙ routes_set a.keys.items a.ids.items a.values.items c.args.at c.args.value d ∙ ap (λ es. set es c.args.at ((get_or es c.args.at d).0, c.args.value)) c.self.view_is
