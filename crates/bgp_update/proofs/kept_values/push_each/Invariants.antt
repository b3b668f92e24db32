use Rattle.std.proofs.Common.{◌≡◌, ◌++◌, take}
use Rattle.std.specs.List.{flat_map}
use Rattle.bgp_update.specs.KeptAttributes.{asked_item}
use Rattle.bgp_update.specs.KeptBytes.{kept_bytes}
use Rattle.bgp_update.specs.Values.{asked_value}
use Rattle.bgp_update.proofs.kept_values.push_each.Given as goal

abbrev pub invariant-loop-attribute : goal.invariant-loop-attribute
invariant-loop-attribute l =
    l.out.items ≡ l.fn.out.items ++ flat_map (λ a. kept_bytes (asked_item l.fn.kept.asked (asked_value l.fn.kept) a)) (take l.attribute-index l.fn.attributes)
