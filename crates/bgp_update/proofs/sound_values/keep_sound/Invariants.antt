use Rattle.std.proofs.Common.{◌≡◌, List, length}
use Rattle.bgp_update.specs.Attributes.{WrittenAttribute}
use Rattle.bgp_update.specs.Families.{route_rules_of}
use Rattle.bgp_update.specs.Handling.{front_attributes}
use Rattle.bgp_update.specs.SoundValues.{HasPlaces, HoldsSound}
use Rattle.bgp_update.proofs.SoundFields.{joined}
use Rattle.bgp_update.proofs.sound_values.keep_sound.Given as goal

abbrev pub invariant-loop-rest : goal.invariant-loop-rest
invariant-loop-rest g l = record {
  asked : l.values.asked.asked ≡ l.fn.asked;
  places : HasPlaces l.values;
  before : List WrittenAttribute;
  holds : HoldsSound l.errors (route_rules_of g.F.Unicast.family l.fn.asked) l.context l.width before l.values;
  front : front_attributes l.bytes ≡ joined before (front_attributes l.rest);
}

abbrev pub decreases-loop-rest : goal.decreases-loop-rest
decreases-loop-rest g l = length l.rest
