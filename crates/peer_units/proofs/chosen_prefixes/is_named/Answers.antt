use Rattle.std.proofs.Common.{◌∙◌}
use Rattle.peer_units.proofs.NamedLaws.{found_named}
use Rattle.peer_units.proofs.chosen_prefixes.is_named.Goals as goal

pub returns : goal.returns
returns g c = c.is_ok.ensures.value ∙ found_named c.args.names.now c.args.prefix.now c.requires _ c.binary_search.ensures.bound c.binary_search.ensures.position
