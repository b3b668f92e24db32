use Rattle.std.proofs.Common.{[]}
use Rattle.bgp_update.proofs.KeptLaws.{no_kept_bytes, spelled_values-bytes}
use Rattle.bgp_update.proofs.kept_values.KeptValues.none.Goals as goal

pub invariant_of-result : goal.invariant_of-result
invariant_of-result c = no_kept_bytes

pub returns : goal.returns
returns c = spelled_values-bytes [] tt
