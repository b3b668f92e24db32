-- What the sessions of a lane hold.
use Rattle.std.specs.Prelude.{◌≡◌, ℕ, ◌<◌, ◌⊎◌, true, false, Option, Some, List, [], ◌∷◌, ◌++◌, map, length, slice_get, slice_index_or, slice_set, ◌==◌}
use Rattle.std.specs.List.{AllByRecursion, list_any}
use Rattle.peer_units.specs.declared.unit.PeerKey.{PeerKey}
use Rattle.peer_units.specs.Plain.{Unit as ReplayUnit}
use Rattle.adj_rib.specs.Sessions.{session_of}
use Rattle.peer_tables.specs.Peers.{peer_eq, peers_of, units_of_peer}
use Rattle.peer_tables.specs.Tables.{Seat}
use Rattle.unit_rings.specs.Plain.{PeerUnit}
use Rattle.lane_deal.specs.Numbers.{without_numbers}

abbrev pub seat_by : (PeerKey → ℕ) → List ReplayUnit → PeerKey → Seat
seat_by number units q = record { number = number q; key = q; session = session_of (units_of_peer units q) }

-- one session for each peer of the units, in the order in which they first come
abbrev pub seats_by : (PeerKey → ℕ) → List ReplayUnit → List Seat
seats_by number units = map (seat_by number units) (peers_of units)

-- each unit has its peer's number, and different peers have different ones
pub record AreNumbered (number : PeerKey → ℕ) (items : List PeerUnit) : Type 0 where
  pub each : AllByRecursion (λ item. number item.unit.peer ≡ item.number) items
  pub apart : (p q : PeerKey) → list_any (λ u. peer_eq u.peer p) (without_numbers items) ≡ true →
      list_any (λ u. peer_eq u.peer q) (without_numbers items) ≡ true → number p ≡ number q → p ≡ q

-- the sessions stand for these units, where their numbers are those of their peers
abbrev pub HoldsUnits : List Seat → List PeerUnit → Type 0
HoldsUnits seats items = (number : PeerKey → ℕ) → AreNumbered number items → seats_by number (without_numbers items) ≡ seats

abbrev pub new_seat : ℕ → PeerKey → Seat
new_seat number key = record { number = number; key = key; session = session_of [] }

-- the session of this number stands there: it was found, or there was none and it is new
abbrev pub SeatFor : List Seat → List Seat → ℕ → PeerKey → ℕ → Type 0
SeatFor old new number key position =
    ((new ≡ old) × (position < length old) × ((d : Seat) → (slice_index_or old position d).number ≡ number))
    ⊎ ((list_any (λ s. s.number == number) old ≡ false) × (position ≡ length old) ×
    (new ≡ old ++ new_seat number key ∷ []))

-- the session there took one unit more
abbrev pub TakenAt : List Seat → List Seat → ℕ → ReplayUnit → Type 0
TakenAt old new position unit =
    (before : List ReplayUnit) (d : Seat) → (slice_index_or old position d).session ≡ session_of before
    → new ≡ slice_set old position
    (record {
      number = (slice_index_or old position d).number;
      key = (slice_index_or old position d).key;
      session = session_of (before ++ unit ∷ []);
    })

-- each session's position is remembered under its number
abbrev pub AreIndexed : List (Option ℕ) → List ℕ → Type 0
AreIndexed positions numbers = (at number : ℕ) → slice_get numbers at ≡ Some number →
    slice_get positions number ≡ Some (Some at)
