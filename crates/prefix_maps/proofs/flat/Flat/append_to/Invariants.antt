use Rattle.std.proofs.Common.{◌≡◌, ◌+◌, ◌++◌, map, take, vec_len, vec_capacity}
use Rattle.prefix_maps.proofs.flat.Flat.append_to.Given as goal

abbrev pub invariant-loop-item : goal.invariant-loop-item
invariant-loop-item g l = record {
  listed : map (λ e. (e.0, e.1.now)) l.all.items ≡ map (λ e. (e.0, e.1.now)) l.initial.all.items ++ take l.item-index l.item-items;
  len : vec_len l.all ≡ vec_len l.initial.all + l.item-index;
  capacity : vec_capacity l.all ≡ vec_capacity l.initial.all;
}
