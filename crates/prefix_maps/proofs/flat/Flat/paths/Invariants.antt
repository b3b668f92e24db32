use Rattle.std.proofs.Common.{◌≡◌, map, take}
use Rattle.bgp_prefix.specs.Maps.{paths_of}
use Rattle.prefix_maps.proofs.flat.Flat.paths.Given as goal

abbrev pub invariant-loop-item : goal.invariant-loop-item
invariant-loop-item g l = map (λ e. (e.0, e.1.now)) l.all.items ≡ paths_of l.prefix (take l.item-index l.item-items)
