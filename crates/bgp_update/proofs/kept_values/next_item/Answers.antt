use Rattle.std.proofs.Common.{ℕ, List}
use Rattle.bgp_update.specs.KeptAttributes.{KeptValue}
use Rattle.bgp_update.specs.KeptBytes.{spelled_values}
use Rattle.bgp_update.proofs.KeptLaws.{first_is_short, next_kept, no_kept_fault}
use Rattle.bgp_update.proofs.kept_values.next_item.Goals as goal

pub unreachable-requires : goal.unreachable-requires
unreachable-requires c = no_kept_fault c.args.bytes.now c.in-Err.field-0 c.requires.kept c.requires.some c.in-Err.ensures

abbrev item : ℕ → List ℕ → KeptValue
item code value = record { code = code; value = value }

pub returns-clause-first : goal.returns-clause-first
returns-clause-first c = (next_kept c.args.bytes.now (item c.in-Ok.item.code c.in-Ok.item.value.now) c.in-Ok.rest.now c.requires.kept c.in-Ok.ensures c.requires.some).first

pub returns-clause-short : goal.returns-clause-short
returns-clause-short c =
    let k = item c.in-Ok.item.code c.in-Ok.item.value.now in
    first_is_short c.args.bytes.now k (spelled_values c.in-Ok.rest.now) c.requires.kept (next_kept c.args.bytes.now k c.in-Ok.rest.now c.requires.kept c.in-Ok.ensures c.requires.some).first

pub returns-clause-rest : goal.returns-clause-rest
returns-clause-rest c = (next_kept c.args.bytes.now (item c.in-Ok.item.code c.in-Ok.item.value.now) c.in-Ok.rest.now c.requires.kept c.in-Ok.ensures c.requires.some).kept

pub returns-clause-shorter : goal.returns-clause-shorter
returns-clause-shorter c = (next_kept c.args.bytes.now (item c.in-Ok.item.code c.in-Ok.item.value.now) c.in-Ok.rest.now c.requires.kept c.in-Ok.ensures c.requires.some).shorter
