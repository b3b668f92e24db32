use Rattle.std.proofs.Common.{◌∷◌, ◌∙◌, sym, ap}
use Rattle.bgp_update.specs.Paths.{PathSegment}
use Rattle.bgp_update.specs.Packing.{spelled_path}
use Rattle.bgp_update.proofs.PackedPaths.{field_with, field_is_next, no_fault}
use Rattle.bgp_update.proofs.packed_path.first_of.Goals as goal

pub segment_of-requires : goal.segment_of-requires
segment_of-requires c =
    let f = c.in-Ok.field in
    (field_is_next c.args.bytes.now (field_with f.kind f.count f.octets.now) c.in-Ok.rest.now c.requires.spelled c.in-Ok.ensures).room

pub unreachable-requires : goal.unreachable-requires
unreachable-requires c = no_fault c.args.bytes.now c.in-Err.field-0 c.requires.spelled c.requires.some c.in-Err.ensures

pub returns : goal.returns
returns c =
    let f = c.in-Ok.field in
    let next = field_is_next c.args.bytes.now (field_with f.kind f.count f.octets.now) c.in-Ok.rest.now c.requires.spelled c.in-Ok.ensures in
    record { first = next.first ∙ ap (λ (s : PathSegment). s ∷ spelled_path c.in-Ok.rest.now) (sym c.segment_of.ensures); rest = next.spelled }
