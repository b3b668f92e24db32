-- What the dealer does in a round.
use Rattle.std.specs.Prelude.{◌≡◌, ℕ, ◌+◌, ◌-◌, ◌^◌, ◌≤◌, min, Bool, List, [], ◌∷◌, ◌++◌, length, Option, Some, None, option_to_list, Result, Ok, IfOk, IfSome, OnOk, OnErr, true, false, if◌then◌else◌}
use Rattle.std.specs.List.{AllByRecursion, filter_map, list_any}
use Rattle.mrt_frame.specs.declared.error.ReplayError.{ReplayError}
use Rattle.peer_units.specs.declared.unit.PeerKey.{PeerKey}
use Rattle.peer_units.specs.Plain.{Found, Unit as ReplayUnit}
use Rattle.mrt_body.specs.Units.{unit_of, damage_of}
use Rattle.mrt_body.specs.ToCome.{UnitsState, as_found}
use Rattle.peer_tables.specs.Peers.{peer_eq, peers_of}
use Rattle.lane_deal.specs.Dealers.{Dealer}
use Rattle.unit_rings.specs.Plain.{PeerUnit}
use Rattle.lane_deal.specs.Plain.{LaneSender}
use Rattle.lane_deal.specs.declared.step.Step.{Step}
use Rattle.lane_deal.specs.declared.step.Step.TheVariants.{Blocked, FullBatch, End}
use Rattle.lane_deal.specs.Results.{IfAnswered}
use Rattle.lane_deal.specs.Asking.{TakesUnits, ReadsOn, GivesFront, GivesAll, StopsBehind}
use Rattle.lane_deal.specs.LaneSenders.{Dealt, in_lane, room_of}
use Rattle.peer_tables.specs.Numbers.{NumbersPeer, number_in}
use Rattle.lane_deal.specs.Numbers.{with_numbers}
use Rattle.lane_deal.specs.ToDeal.{to_deal}

module _ {D : Type 0} where
  -- Of the blocked unit and those that the files gave these were dealt or listed, in order, and the next is blocked.
  pub record Handles (old new : Dealer D) (given done : List Found) : Type 0 where
    pub dealing : new.dealing ≡ old.dealing
    pub order : to_deal old.blocked_unit given ≡ done ++ to_deal new.blocked_unit []
    pub refused : new.refused.items ≡ old.refused.items ++ filter_map damage_of done
    pub counted : new.dealt ≡ min (old.dealt + length (filter_map unit_of done)) (2 ^ 64 - 1)
    pub listed : AllByRecursion (λ u. list_any (peer_eq u.peer) new.peers ≡ true) (filter_map unit_of done)
    pub more : List PeerKey
    pub peers : new.peers ≡ old.peers ++ more
    pub keys : (before : List ReplayUnit) → old.peers ≡ peers_of (before ++ option_to_list old.blocked_unit) →
        new.peers ≡ peers_of ((before ++ filter_map unit_of done) ++ option_to_list new.blocked_unit)

  -- the same, with what was dealt received
  pub record HandsOn {K : Type 0} (gets : K → K → List PeerUnit → Type 0) (to to' : K) (old new : Dealer D)
      (given done : List Found) : Type 0 where
    pub handles : Handles old new given done
    pub received : gets to to' (with_numbers new.peers (filter_map unit_of done))

  -- a unit was dealt to the lane of its peer, or that had no room
  pub record DealsUnit {K : Type 0} (gets : K → K → List PeerUnit → Type 0) (lane_of room : ℕ → ℕ) (to to' : K)
      (old new : Dealer D) (unit : ReplayUnit) (dealt : Bool) : Type 0 where
    pub number : ℕ
    pub numbers : NumbersPeer old.peers new.peers unit.peer number
    pub dealing : new.dealing ≡ old.dealing
    pub blocked_unit : new.blocked_unit ≡ old.blocked_unit
    pub refused : new.refused ≡ old.refused
    pub counted : new.dealt ≡ (if dealt then min (old.dealt + 1) (2 ^ 64 - 1) else old.dealt)
    pub received : gets to to' (if dealt then record { number = number; unit = unit } ∷ [] else [])
    pub full : dealt ≡ false → room (lane_of number) ≡ 0

  -- a unit is blocked: at least as many as its lane had room for were dealt to it
  pub record IsFull (lane_of room : ℕ → ℕ) (new : Dealer D) (dealt : List ReplayUnit) : Type 0 where
    pub unit : ReplayUnit
    pub blocked_unit : new.blocked_unit ≡ Some unit
    pub full : room (lane_of (number_in new.peers unit.peer)) ≤ length (in_lane lane_of
        (lane_of (number_in new.peers unit.peer)) (with_numbers new.peers dealt))

  -- the blocked unit was dealt, if there was one, unless its lane had no room
  pub record DealsBlocked {K : Type 0} (gets : K → K → List PeerUnit → Type 0) (lane_of room : ℕ → ℕ) (to to' : K)
      (old new : Dealer D) (dealt : ℕ) : Type 0 where
    pub done : List ReplayUnit
    pub dealt_is : length done ≡ dealt
    pub few : dealt ≤ 1
    pub hands : HandsOn gets to to' old new [] (as_found done)
    pub full : IfSome new.blocked_unit (λ _. IsFull lane_of room new done)

  -- The first of these units were dealt, and the next is blocked where its lane had no room. So many were taken in all.
  pub record DealsFront {K : Type 0} (gets : K → K → List PeerUnit → Type 0) (lane_of room : ℕ → ℕ) (to to' : K)
      (old new : Dealer D) (units : List ReplayUnit) (taken : ℕ) : Type 0 where
    pub given : List ReplayUnit
    pub rest : List ReplayUnit
    pub done : List ReplayUnit
    pub parts : units ≡ given ++ rest
    pub taken_is : length given ≡ taken
    pub hands : HandsOn gets to to' old new (as_found given) (as_found done)
    pub full : IfSome new.blocked_unit (λ _. IsFull lane_of room new done)

  -- why the dealer stopped
  abbrev pub StopsDealing : (ℕ → ℕ) → ℕ → (ℕ → ℕ) → Dealer D → UnitsState → List (Option (List ℕ)) → List Found →
      List ReplayUnit → Step → Type 0
  StopsDealing lane_of batch room new u known given dealt Blocked = IsFull lane_of room new dealt
  StopsDealing lane_of batch room new u known given dealt FullBatch = length dealt ≡ batch
  StopsDealing lane_of batch room new u known given dealt End = (new.blocked_unit ≡ None) × GivesAll u known given

  -- what the dealer did in a round, at whose beginning each lane had this room
  pub record Deals (lane_of : ℕ → ℕ) (batch : ℕ) (room : ℕ → ℕ) (old new : Dealer D) (u : UnitsState)
      (known : List (Option (List ℕ))) (u' : UnitsState) (known' : List (Option (List ℕ)))
      (result : Result Step ReplayError) : Type 0 where
    pub given : List Found
    pub done : List Found
    pub gives : GivesFront u known given
    pub takes : OnOk result (TakesUnits u known u' known' given)
    pub handles : Handles old new given done
    pub few : length (filter_map unit_of done) ≤ batch
    pub stops : IfOk result (StopsDealing lane_of batch room new u known given (filter_map unit_of done))
    pub nothing_kept : OnErr result (new.blocked_unit ≡ None)
    pub behind : OnErr result (StopsBehind u known u' known' given)

  -- the same, with what was dealt received
  pub record DealsTo {K : Type 0} (gets : K → K → List PeerUnit → Type 0) (lane_of : ℕ → ℕ) (batch : ℕ)
      (room : ℕ → ℕ) (to to' : K) (old new : Dealer D) (u : UnitsState) (known : List (Option (List ℕ)))
      (u' : UnitsState) (known' : List (Option (List ℕ))) (result : Result Step ReplayError) : Type 0 where
    pub deals : Deals lane_of batch room old new u known u' known' result
    pub received : gets to to' (with_numbers new.peers (filter_map unit_of deals.done))

  -- what the dealer did in a round, and what became of the reading
  pub record DealsOn (lane_of : ℕ → ℕ) (batch : ℕ) (senders senders' : List LaneSender) (old new : Dealer D) (u : UnitsState)
      (known : List (Option (List ℕ))) (before : List ℕ) (u' : UnitsState) (known' : List (Option (List ℕ)))
      (after : List ℕ) (result : Result Step ReplayError) : Type 0 where
    pub lanes : length senders' ≡ length senders
    pub reads : ReadsOn u known before u' after result
    pub at_end : result ≡ Ok End → u'.file ≡ u'.count
    pub deals : IfAnswered result
        (DealsTo (Dealt lane_of) lane_of batch (room_of senders) senders senders' old new u known u' known' result)
