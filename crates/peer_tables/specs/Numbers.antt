-- Peers by number: the position of each among the different ones, by first appearance.
use Rattle.std.specs.Prelude.{◌≡◌, ◌↔◌, ℕ, List, [], ◌∷◌, ◌++◌, Option, Some, slice_get, if◌then◌else◌}
use Rattle.std.specs.List.{list_any, position_or_len}
use Rattle.peer_units.specs.declared.unit.PeerKey.{PeerKey}
use Rattle.peer_tables.specs.Peers.{peer_eq}

-- the number of a peer among these
abbrev pub number_in : List PeerKey → PeerKey → ℕ
number_in keys q = position_or_len (peer_eq q) keys

-- a peer that is new gets the next number
pub record NumbersPeer (old new : List PeerKey) (peer : PeerKey) (number : ℕ) : Type 0 where
  pub number_is : number ≡ number_in new peer
  pub keys : new ≡ old ++ (if list_any (peer_eq peer) old then [] else peer ∷ [])

-- no peer stands there twice: each one's position is the first at which it stands
abbrev pub AreApart : List PeerKey → Type 0
AreApart keys = (number : ℕ) (key : PeerKey) → slice_get keys number ≡ Some key → number_in keys key ≡ number

-- a peer's number is found exactly where the peer stands
abbrev pub FindsIndexIn : (PeerKey → Option ℕ) → List PeerKey → Type 0
FindsIndexIn find keys = (peer : PeerKey) (number : ℕ) → (find peer ≡ Some number) ↔ (slice_get keys number ≡ Some peer)
