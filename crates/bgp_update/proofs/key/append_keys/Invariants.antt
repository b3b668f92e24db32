use Rattle.std.proofs.Common.{◌≡◌, length}
use Rattle.bgp_update.specs.Decoded.{IsGrown}
use Rattle.bgp_update.specs.Families.{form_of}
use Rattle.bgp_update.specs.Keys.{route_keys_in, with_keys}
use Rattle.bgp_update.proofs.key.append_keys.Given as goal

abbrev pub invariant-loop-rest : goal.invariant-loop-rest
invariant-loop-rest g l = record {
  so_far : with_keys l.keys.items (route_keys_in (form_of g.F.Unicast.family l.add_path) l.rest) ≡ with_keys l.initial.keys.items (route_keys_in (form_of g.F.Unicast.family l.add_path) l.bytes);
  grown : IsGrown l.initial.keys.items l.keys.items;
}

abbrev pub decreases-loop-rest : goal.decreases-loop-rest
decreases-loop-rest g l = length l.rest
