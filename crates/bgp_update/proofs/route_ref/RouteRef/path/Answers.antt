use Rattle.std.proofs.Common.{◌≡◌, ◌∙◌, sym, ap, subst, arith, List, ℕ, Some}
use Rattle.bgp_update.specs.declared.route.Route.{Route}
use Rattle.bgp_update.specs.declared.route_ref.Starts.{Starts}
use Rattle.bgp_update.specs.Paths.{PathSegment}
use Rattle.bgp_update.specs.Packing.{IsSpelled, part_bit, spelled_path}
use Rattle.bgp_update.proofs.Packings.{packed_ends, packed_path, path_slice, path_there}
use Rattle.bgp_update.proofs.route_ref.RouteRef.path.Goals as goal

pub path_end-requires-clause-kept : goal.path_end-requires-clause-kept
path_end-requires-clause-kept c = (packed_ends c.self.inside.bytes.now c.self.invariant).room

pub of_bytes-requires : goal.of_bytes-requires
of_bytes-requires c =
    let inside : List ℕ = c.self.inside.bytes.now in
    let bit : part_bit 1 inside ≡ 1 = omega (arith, c.if-bytes-eq1.true) in
    subst IsSpelled (sym (path_slice inside c.starts_in.result.path c.path_end.result c.self.invariant (ap (λ (s : Starts). s.path) c.starts_in.ensures) c.path_end.ensures)) (packed_path inside c.self.invariant bit)

pub returns-then-bytes-eq1 : goal.returns-then-bytes-eq1
returns-then-bytes-eq1 c =
    let inside : List ℕ = c.self.inside.bytes.now in
    let bit : part_bit 1 inside ≡ 1 = omega (arith, c.if-bytes-eq1.true) in
    let slice = path_slice inside c.starts_in.result.path c.path_end.result c.self.invariant (ap (λ (s : Starts). s.path) c.starts_in.ensures) c.path_end.ensures in
    ap (λ (path : List PathSegment). Some path) (c.of_bytes.ensures ∙ ap spelled_path slice) ∙ path_there inside bit ∙ ap (λ (r : Route). r.path) c.self.view_is
