use Rattle.std.proofs.Common.{◌∙◌, ap, drop, List, ℕ}
use Rattle.bgp_update.specs.Packing.{unpacked}
use Rattle.adj_rib.specs.Routes.{front_of, route_at}
use Rattle.adj_rib.proofs.routes.Routes.route.Goals as goal

pub returns : goal.returns
unfolding route_at
returns c =
    c.of_bytes.ensures ∙ ap unpacked (c.bytes_at.ensures ∙ ap (λ (b : List ℕ). front_of (drop c.args.id.at b)) (c.as_slice.ensures.value ∙ c.self.view_is))
