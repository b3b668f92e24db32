-- A seat, as definitions see it.
use Rattle.peer_tables.specs.declared.tables.Seated.{Seated}
use Rattle.peer_tables.specs.Tables.{Seat}

abbrev pub seat_of : {M A : Type 0} → Seated M A → Seat
seat_of s = record { number = s.number; key = s.key; session = s.session }
