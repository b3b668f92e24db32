-- What is to be dealt.
use Rattle.std.specs.Prelude.{List, ◌++◌, map, Option, option_to_list}
use Rattle.peer_units.specs.Plain.{Found, Unit as ReplayUnit}
use Rattle.peer_units.specs.declared.unit.Found.TheVariants as found

-- what is to be dealt and listed: the blocked unit, if there is one, and then what the files still give
abbrev pub to_deal : Option ReplayUnit → List Found → List Found
to_deal blocked_unit coming = map (λ unit. found.Unit unit) (option_to_list blocked_unit) ++ coming
