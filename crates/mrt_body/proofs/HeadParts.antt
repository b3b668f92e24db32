-- The head of a RIB record is a sequence number, a length, a prefix of this length and a count.
use Rattle.std.proofs.Common.{◌≡◌, ℕ, List, Ok}
use Rattle.bgp_prefix.specs.Prefixes.{IpPrefix}
use Rattle.mrt_frame.specs.declared.fault.Fault.TheVariants.{ShortRecord}
use Rattle.mrt_frame.specs.Fields.{Reading, ◌>>=◌, byte_at, number_at}
use Rattle.bgp_update.specs.Keys.{prefix_at}
use Rattle.bgp_update.specs.Families.{FamilyOf}
use Rattle.bgp_update.proofs.Readings.{bind_assoc}
use Rattle.mrt_body.specs.RibRecords.{RibSummary, rib_head_at, read_head_at}

abbrev after_prefix : IpPrefix × List ℕ → Reading RibSummary
after_prefix prefix = number_at ShortRecord 2 prefix.1 >>= λ count. Ok (record { prefix = prefix.0; count = count.0 }, count.1)

pub head_parts : (family : FamilyOf) (bytes : List ℕ) → read_head_at family bytes ≡ (number_at ShortRecord 4 bytes >>= λ sequence. byte_at ShortRecord sequence.1 >>= λ len. prefix_at family.width len.0 len.1 >>= after_prefix)
unfolding read_head_at rib_head_at
head_parts family bytes = simp bind_assoc
