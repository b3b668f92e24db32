use Rattle.std.proofs.Common.{◌≡◌, length}
use Rattle.bgp_update.specs.KeptAttributes.{kept_code, value_kept}
use Rattle.bgp_update.specs.KeptBytes.{AreKeptBytes, spelled_values}
use Rattle.bgp_update.proofs.kept_values.KeptValues.value.Given as goal

abbrev pub invariant-loop-rest : goal.invariant-loop-rest
invariant-loop-rest l = record {
  code : l.code ≡ kept_code l.fn.attribute;
  kept : AreKeptBytes l.rest;
  same : value_kept l.code (spelled_values l.rest) ≡ value_kept l.code l.self;
}

abbrev pub decreases-loop-rest : goal.decreases-loop-rest
decreases-loop-rest l = length l.rest
