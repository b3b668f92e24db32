use Rattle.std.proofs.Common.{◌∙◌, sym, ap, Option, ℕ}
use Rattle.bgp_update.proofs.PackedPaths.{origin_goes_on, origin_after}
use Rattle.bgp_update.proofs.packed_path.PackedSegments.origin_as.Goals as goal

pub loop-segment-preserved : goal.loop-segment-preserved
loop-segment-preserved c =
    ap (λ (o : Option ℕ). origin_after o c.next.new.self) c.origin-origin.ensures
    ∙ origin_goes_on c.loop-segment.origin c.in-Some.segment c.next.new.self ∙ ap (origin_after c.loop-segment.origin) (sym c.in-Some.ensures) ∙ c.loop-segment.invariant
