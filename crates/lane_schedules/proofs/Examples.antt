-- A schedule of events, by computation.
use Rattle.std.proofs.Common.{◌≡◌, ℕ, ◌%◌, None, List, [], ◌∷◌, refl}
use Rattle.peer_units.specs.declared.state_rule.StateRule.TheVariants.{Recorded}
use Rattle.peer_units.specs.declared.unit.PeerAddr.TheVariants.{V4}
use Rattle.peer_units.specs.declared.unit.PeerKey.{PeerKey}
use Rattle.peer_units.specs.declared.unit.Payload.TheVariants.{State}
use Rattle.peer_units.specs.Plain.{Unit as ReplayUnit}
use Rattle.peer_tables.specs.Peers.{peers_of}
use Rattle.lane_schedules.specs.declared.turn.Turn.TheVariants.{Deal, Take}
use Rattle.lane_deal.specs.Lanes.{lane_units}
use Rattle.lane_schedules.specs.Schedules.{LanesState, after_turns}

abbrev peer_at : ℕ → PeerKey
peer_at addr = record { asn = 65000; addr = V4 addr }

-- the unit at an offset, of the peer at an address
abbrev unit_at : ℕ → ℕ → ReplayUnit
unit_at offset addr = record { place = record { file = 0; offset = offset; entry = None }; time = 0; peer = peer_at addr; payload = State 5 6 Recorded }

-- of three peers, which take turns at two lanes
abbrev five_units : List ReplayUnit
five_units = unit_at 0 1 ∷ unit_at 1 2 ∷ unit_at 2 1 ∷ unit_at 3 3 ∷ unit_at 4 2 ∷ []

abbrev by_turns : ℕ → ℕ
by_turns number = number % 2

peers : peers_of five_units ≡ peer_at 1 ∷ peer_at 2 ∷ peer_at 3 ∷ []
unfolding peers_of
peers = refl

first_lane : lane_units by_turns five_units 0 ≡ unit_at 0 1 ∷ unit_at 2 1 ∷ unit_at 3 3 ∷ []
unfolding peers_of
first_lane = refl

second_lane : lane_units by_turns five_units 1 ≡ unit_at 1 2 ∷ unit_at 4 2 ∷ []
unfolding peers_of
second_lane = refl

-- taking from an empty ring, or from a lane past the last, changes nothing
abbrev after_seven : LanesState
after_seven = after_turns by_turns five_units (Take 0 ∷ Deal ∷ Deal ∷ Take 1 ∷ Deal ∷ Take 0 ∷ Take 7 ∷ [])

left : after_seven.undealt ≡ unit_at 3 3 ∷ unit_at 4 2 ∷ []
unfolding peers_of
left = refl

waiting : after_seven.ring 0 ∷ after_seven.ring 1 ∷ [] ≡ (unit_at 2 1 ∷ []) ∷ [] ∷ []
unfolding peers_of
waiting = refl

taken : after_seven.taken 0 ∷ after_seven.taken 1 ∷ after_seven.taken 7 ∷ [] ≡ (unit_at 0 1 ∷ []) ∷ (unit_at 1 2 ∷ []) ∷ [] ∷ []
unfolding peers_of
taken = refl
