use Rattle.std.proofs.Common.{sym, ◌∙◌}
use Rattle.chunked_map.specs.ChunkedMaps.{routes_of}
use Rattle.prefix_maps.proofs.MapLaws.{found}
use Rattle.chunked_map.proofs.chunked_map.ChunkedMapPrefixMap.get.Goals as goal

pub returns : goal.returns
returns g c = rw (← c.self.view_is) (c.get.ensures ∙ sym (found (routes_of (λ r. r) c.self.inside.branches.nodes.items) c.args.key.now))
