use Rattle.bgp_update.proofs.RouteEquality.{decides_kept}
use Rattle.bgp_update.proofs.kept_values.KeptBlock.is_same.Goals as goal

pub returns : goal.returns
returns c = decides_kept c.has_same_bytes.result c.args.self.now c.args.other.now c.has_same_bytes.ensures.0 c.has_same_bytes.ensures.1
