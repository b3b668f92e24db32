use Rattle.bgp_prefix.proofs.SortedMaps.{start_of_found, start_of_gap}
use Rattle.prefix_maps.proofs.flat.Flat.start_of.Goals as goal

pub returns-in-Ok-clause-start : goal.returns-in-Ok-clause-start
returns-in-Ok-clause-start g c = start_of_found c.args.prefix.now c.args.self.now c.in-Ok.at c.in-Ok.ensures.sorted c.in-Ok.ensures.found

pub returns-in-Err-clause-start : goal.returns-in-Err-clause-start
returns-in-Err-clause-start g c = start_of_gap c.args.prefix.now c.args.self.now c.in-Err.at c.in-Err.ensures.absent
