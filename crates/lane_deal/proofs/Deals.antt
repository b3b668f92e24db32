-- What the dealer pushed, item by item.
use Rattle.std.proofs.Common.{◌≡◌, ℕ, zero, suc, ◌+◌, ◌<◌, ◌≤◌, List, [], ◌∷◌, ◌++◌, length, slice_index_or, set, refl, sym, arith}
use Rattle.std.proofs.lemmas.List.{append-nil}
use Rattle.std.proofs.lemmas.List.Elements.{filter-append}
use Rattle.unit_rings.specs.UnitRings.{known_free, sent}
use Rattle.unit_rings.specs.Plain.{PeerUnit}
use Rattle.lane_deal.specs.Plain.{LaneSender}
use Rattle.lane_deal.specs.LaneSenders.{Dealt, in_lane, room_of}
use Rattle.unit_rings.proofs.Lists.{some_item}

-- the room of a lane is that of its ring
pub room_at : (senders : List LaneSender) (lane : ℕ) (d : LaneSender) → lane < length senders → room_of senders lane ≡ known_free (slice_index_or senders lane d).producer
room_at [] lane d l = absurd (omega arith)
room_at (sender ∷ senders) zero d l = refl
room_at (sender ∷ senders) (suc lane) d l = room_at senders lane d (omega arith)

-- a lane that is set has the room of its ring
pub room_set : (senders : List LaneSender) (lane : ℕ) (sender : LaneSender) → lane < length senders → room_of (set senders lane sender) lane ≡ known_free sender.producer
room_set [] lane sender l = absurd (omega arith)
room_set (first ∷ senders) zero sender l = refl
room_set (first ∷ senders) (suc lane) sender l = room_set senders lane sender (omega arith)

module _ (lane_of : ℕ → ℕ) where
  pub in_lane-append : (lane : ℕ) (xs ys : List PeerUnit) → in_lane lane_of lane (xs ++ ys) ≡ in_lane lane_of lane xs ++ in_lane lane_of lane ys
  in_lane-append lane xs ys = filter-append _ xs ys

  pub Dealt-none : (a : List LaneSender) → Dealt lane_of a a []
  Dealt-none a = record { lanes = refl; each = λ lane d l. record { ring = ((refl, refl, refl, refl), refl); sent = sym (append-nil _); free = omega arith } }

  -- what was received took no more room than it counts
  pub Dealt-room : (a b : List LaneSender) (xs : List PeerUnit) (lane : ℕ) → lane < length a → Dealt lane_of a b xs → room_of a lane ≤ room_of b lane + length (in_lane lane_of lane xs)
  Dealt-room a b xs lane l p =
      let d = some_item a lane l in
      let free = (p.each lane d l).free in
      let before = room_at a lane d l in
      let after = room_at b lane d (let n = p.lanes in omega arith) in omega (arith, free, before, after)
