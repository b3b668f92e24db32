-- What lanes hand in.
use Rattle.std.specs.Prelude.{List, map}
use Rattle.std.specs.List.{flat_map}
use Rattle.peer_tables.specs.declared.tables.Gathered.{Gathered}
use Rattle.peer_tables.specs.Tables.{Seat}
use Rattle.peer_tables.specs.Seats.{seat_of}

-- lane after lane
abbrev pub gathered_seats : {M A : Type 0} → Gathered M A → List Seat
gathered_seats gathered = flat_map (λ lane. map seat_of lane) gathered.lanes
