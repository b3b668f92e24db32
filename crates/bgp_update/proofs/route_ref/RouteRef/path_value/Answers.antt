use Rattle.std.proofs.Common.{◌≡◌, ◌∙◌, ap, arith, List, ℕ, Some}
use Rattle.std.specs.Prelude.{option_map}
use Rattle.bgp_update.specs.declared.route.Route.{Route}
use Rattle.bgp_update.specs.declared.route_ref.Starts.{Starts}
use Rattle.bgp_update.specs.Packing.{part_bit}
use Rattle.bgp_update.specs.Segments.{path_bytes}
use Rattle.bgp_update.proofs.Packings.{packed_ends, path_slice, path_spelled}
use Rattle.bgp_update.proofs.route_ref.RouteRef.path_value.Goals as goal

pub path_end-requires-clause-kept : goal.path_end-requires-clause-kept
path_end-requires-clause-kept c = (packed_ends c.self.inside.bytes.now c.self.invariant).room

pub returns-then-bytes-eq1 : goal.returns-then-bytes-eq1
returns-then-bytes-eq1 c =
    let inside : List ℕ = c.self.inside.bytes.now in
    let bit : part_bit 1 inside ≡ 1 = omega (arith, c.if-bytes-eq1.true) in
    let slice = path_slice inside c.starts_in.result.path c.path_end.result c.self.invariant (ap (λ (s : Starts). s.path) c.starts_in.ensures) c.path_end.ensures in
    ap (λ (b : List ℕ). Some b) slice ∙ path_spelled inside c.self.invariant bit ∙ ap (λ (r : Route). option_map (path_bytes 4) r.path) c.self.view_is
