use Rattle.bgp_update.proofs.PackedPaths.{number_read}
use Rattle.bgp_update.proofs.packed_path.PackedSegment.number.Goals as goal

pub returns : goal.returns
returns c = number_read c.self.inside.kind c.self.inside.count c.self.inside.octets.now c.args.self.now c.args.i c.read_u32.result c.self.view_is c.requires c.read_u32.ensures
