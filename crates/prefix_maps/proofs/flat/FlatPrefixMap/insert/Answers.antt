use Rattle.std.proofs.Common.{◌≡◌}
use Rattle.std.specs.FinMap.{put}
use Rattle.bgp_prefix.specs.Keys.{key_cmp}
use Rattle.prefix_maps.proofs.Outcomes.{ok_then}
use Rattle.prefix_maps.proofs.MapLaws.{found, inserted, Changes-put}
use Rattle.prefix_maps.proofs.flat.FlatPrefixMap.insert.Goals as goal

pub returns-clause-before : goal.returns-clause-before
returns-clause-before g c = rw (found c.args.self.now c.args.key.now) c.insert.ensures.before

pub returns-clause-ok : goal.returns-clause-ok
returns-clause-ok g c =
    ok_then {P = c.insert.new.self ≡ put key_cmp c.args.key.now c.args.value c.args.self.now} _ c.insert.ensures.ok (λ is. inserted c.args.self.now c.insert.new.self c.args.key.now c.args.value (Changes-put c.args.self.now c.insert.new.self c.args.key.now c.args.value is))
