use Rattle.std.proofs.Common.{◌≡◌, map, take}
use Rattle.mrt_body.specs.RibDumps.{heard_of}
use Rattle.mrt_body.specs.Pending.{listed_unit}
use Rattle.peer_units.specs.declared.rib_rule.RibRule.TheVariants.{Replace}
use Rattle.mrt_body.proofs.entries.RibRecord+Prefix+F+Rules+F.hear.Given as goal

abbrev pub invariant-loop-entry : goal.invariant-loop-entry
invariant-loop-entry g l =
    l.dumps ≡ record l.initial.dumps {
      heard = heard_of Replace l.initial.dumps.heard (map (listed_unit l.self.rules l.self.at l.peers l.self.prefix l.self.body) (take l.entry-index l.entry-items));
    }
