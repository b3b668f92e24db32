-- Selections that choose less.
use Rattle.std.specs.Prelude.{None, []}
use Rattle.peer_units.specs.Choices.{UnitSelection}

-- all peers are taken
abbrev pub of_all_peers : UnitSelection → UnitSelection
of_all_peers selection = record selection { peers = []; share = None }

-- all prefixes are taken
abbrev pub of_all_prefixes : UnitSelection → UnitSelection
of_all_prefixes selection = record selection { prefixes = [] }
