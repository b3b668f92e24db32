-- Three seats in two lanes, by their numbers.
use Rattle.std.proofs.Common.{◌≡◌, List, [], ◌∷◌, nat_eq, sym, subst, map}
use Rattle.std.specs.List.{IsDistinct, flat_map}
use Rattle.std.proofs.lemmas.Bool.{ne_eqb}
use Rattle.peer_tables.specs.declared.tables.Seated.{Seated}
use Rattle.peer_tables.specs.declared.tables.Gathered.{Gathered}
use Rattle.peer_tables.specs.Gathers.{gathered_seats}
use Rattle.peer_tables.specs.Seats.{seat_of}
use Rattle.peer_tables.specs.Tables.{Seat}

pub three_numbers : {M A : Type 0} (gathered : Gathered M A) (first second third : Seated M A)
    → gathered.lanes ≡ (first ∷ []) ∷ (second ∷ third ∷ []) ∷ []
    → (first.number ≡ second.number → ⊥) → (first.number ≡ third.number → ⊥) → (second.number ≡ third.number → ⊥)
    → IsDistinct nat_eq (map (λ seat. seat.number) (gathered_seats gathered))
unfolding IsDistinct
three_numbers {M} {A} gathered first second third lanes one two three =
    subst (λ (ls : List (List (Seated M A))). IsDistinct nat_eq (map (λ (seat : Seat). seat.number) (flat_map (λ lane. map seat_of lane) ls))) (sym lanes)
    ((ne_eqb first.number second.number one, (ne_eqb first.number third.number two, tt)), ((ne_eqb second.number third.number three, tt), (tt, tt)))
