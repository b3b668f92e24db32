use Rattle.std.proofs.Common.{◌≡◌, ◌++◌, ◌∷◌, length, take}
use Rattle.std.specs.List.{flat_map}
use Rattle.byteorder.specs.Endian.{big_bytes}
use Rattle.bgp_update.specs.Segments.{kind_number}
use Rattle.bgp_update.proofs.path_writing.push_segment.Given as goal

abbrev pub invariant-loop-n : goal.invariant-loop-n
invariant-loop-n l = record {
  so_far : l.out.items ≡ l.fn.out.items ++ kind_number l.segment.kind ∷ length l.segment.numbers ∷ flat_map (big_bytes 4) (take l.n-index l.numbers);
  numbers : l.numbers ≡ l.segment.numbers;
}
