use Rattle.std.proofs.Common.{◌≡◌, ◌≤◌, ◌<◌, ◌+◌, ◌-◌, ◌*◌, ◌^◌}
use Rattle.byteorder.specs.Endian.{big_from, big_number}
use Rattle.bgp_update.proofs.octets.each_octet.Given as goal

abbrev pub invariant-loop-at : goal.invariant-loop-at
invariant-loop-at l = record {
  inside : l.at ≤ 16;
  small : l.number < 256 ^ l.at;
  so_far : l.number * 256 ^ (16 - l.at) + big_from l.at (16 - l.at) l.octets ≡ big_number 16 l.octets;
}

abbrev pub decreases-loop-at : goal.decreases-loop-at
decreases-loop-at l = 16 - l.at
