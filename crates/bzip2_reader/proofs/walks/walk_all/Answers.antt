use Rattle.bzip2_reader.proofs.walks.walk_all.Goals as goal

pub loop-init : goal.loop-init
loop-init c = record { lanes = c.begin_all-next.ensures c.args.links.now; segments = c.requires }
