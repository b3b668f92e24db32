use Rattle.std.proofs.Common.{map, ap, ◌∙◌}
use Rattle.peer_tables.specs.Watching.{watch_in}
use Rattle.peer_tables.proofs.WatchLaws.{watches_none}
use Rattle.peer_tables.proofs.watches.Watches.new.Goals as goal

pub returns : goal.returns
returns g c = λ since choices. ap (map watch_in) c.new.ensures.items ∙ watches_none since choices
