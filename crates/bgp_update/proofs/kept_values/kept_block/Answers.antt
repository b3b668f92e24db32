use Rattle.std.proofs.Common.{◌∙◌}
use Rattle.bgp_update.proofs.PackedReadings.{written_kept}
use Rattle.bgp_update.proofs.kept_values.kept_block.Goals as goal

pub of_bytes-requires : goal.of_bytes-requires
of_bytes-requires c = (written_kept c.args.kept.now c.requires.short c.new-bytes.ensures.items c.in_ok-push_kept.ensures).0

pub returns : goal.returns
returns c = c.of_bytes.ensures ∙ (written_kept c.args.kept.now c.requires.short c.new-bytes.ensures.items c.in_ok-push_kept.ensures).1
