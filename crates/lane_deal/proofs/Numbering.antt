-- The peers of units stand in the order of their numbers.
use Rattle.std.proofs.Common.{◌≡◌, ℕ, suc, ◌+◌, ◌||◌, if◌then◌else◌, true, false, List, [], ◌∷◌, ◌++◌, refl, sym, ap, ◌∙◌, subst, append_assoc, arith, map, length, length-append}
use Rattle.std.proofs.lemmas.List.{append-nil}
use Rattle.std.specs.List.{list_any, position_or_len, enumerate_from, range_with_len}
use Rattle.std.specs.List.Sorted.{IsStrictlyIncreasing}
use Rattle.std.proofs.lemmas.List.FromFn.{length-range_with_len, get_or-range_with_len}
use Rattle.peer_units.specs.declared.unit.PeerKey.{PeerKey}
use Rattle.peer_units.specs.Plain.{Unit as ReplayUnit}
use Rattle.peer_tables.specs.Peers.{peer_eq, peers_of}
use Rattle.lane_deal.specs.Lanes.{number_of_peer}
use Rattle.peer_tables.proofs.PeerPositions.{other_peer, place_behind}
use Rattle.lane_deal.proofs.Peers.{is_seen, new_peer, new_peers, peers_of-append}

-- a peer of none of the units is none of their peers
unseen_from : (before xs : List ReplayUnit) (q : PeerKey) → is_seen xs q ≡ false → list_any (peer_eq q) (new_peers before xs) ≡ false
unseen_from before [] q e = refl
unseen_from before (x ∷ xs) q e =
    elim (peer_eq x.peer q) as (λ b. peer_eq x.peer q ≡ b → (b || is_seen xs q) ≡ false → list_any (peer_eq q) (new_peers before (x ∷ xs)) ≡ false) [
      | true ↦ λ _ clash. cc
      | false ↦ λ apart other.
          let later = unseen_from (before ++ x ∷ []) xs q other in
          elim (is_seen before x.peer) as (λ b. list_any (peer_eq q) ((if b then [] else x.peer ∷ []) ++ new_peers (before ++ x ∷ []) xs) ≡ false) [
            | true ↦ later
            | false ↦ ap (λ b. b || list_any (peer_eq q) (new_peers (before ++ x ∷ []) xs)) (other_peer x.peer q apart) ∙ later
          ]
    ] refl e

pub unlisted : (units : List ReplayUnit) (q : PeerKey) → is_seen units q ≡ false → list_any (peer_eq q) (peers_of units) ≡ false
unfolding peers_of
unlisted units q e = unseen_from [] units q e

module _ {S : Type 0} (seat : ℕ → PeerKey → S) where
  -- the peers behind those before are numbered on
  numbered_from : (before xs : List ReplayUnit) → map (λ q. seat (position_or_len (peer_eq q) (peers_of before ++ new_peers before xs)) q) (new_peers before xs) ≡ map (λ e. seat e.0 e.1) (enumerate_from (length (peers_of before)) (new_peers before xs))
  numbered_from before [] = refl
  numbered_from before (x ∷ xs) =
      let next = before ++ x ∷ [] in
      let more : peers_of next ≡ peers_of before ++ new_peer before x = peers_of-append before (x ∷ []) ∙ ap (λ l. peers_of before ++ l) (append-nil (new_peer before x)) in
      let later = numbered_from next xs in
      elim (is_seen before x.peer) as (λ b. is_seen before x.peer ≡ b
      → peers_of next ≡ peers_of before ++ (if b then [] else x.peer ∷ [])
      → map (λ q. seat (position_or_len (peer_eq q) (peers_of before ++ ((if b then [] else x.peer ∷ []) ++ new_peers next xs))) q) ((if b then [] else x.peer ∷ []) ++ new_peers next xs)
      ≡ map (λ e. seat e.0 e.1) (enumerate_from (length (peers_of before)) ((if b then [] else x.peer ∷ []) ++ new_peers next xs))) [
        | true ↦ λ _ same.
            let is : peers_of next ≡ peers_of before = same ∙ append-nil (peers_of before) in
            subst (λ ps. map (λ q. seat (position_or_len (peer_eq q) (ps ++ new_peers next xs)) q) (new_peers next xs) ≡ map (λ e. seat e.0 e.1) (enumerate_from (length ps) (new_peers next xs))) is later
        | false ↦ λ new grown.
            let all : peers_of next ++ new_peers next xs ≡ peers_of before ++ x.peer ∷ new_peers next xs = ap (λ l. l ++ new_peers next xs) grown ∙ append_assoc (peers_of before) (x.peer ∷ []) (new_peers next xs) in
            let count : length (peers_of next) ≡ length (peers_of before) + 1 = ap length grown ∙ length-append (peers_of before) (x.peer ∷ []) in
            let first = place_behind (peers_of before) x.peer (new_peers next xs) (unlisted before x.peer new) in
            let others = ap (λ ps. map (λ q. seat (position_or_len (peer_eq q) ps) q) (new_peers next xs)) (sym all) ∙ later ∙ ap (λ n. map (λ e. seat e.0 e.1) (enumerate_from n (new_peers next xs))) count in
            ap (λ n. seat n x.peer ∷ map (λ q. seat (position_or_len (peer_eq q) (peers_of before ++ x.peer ∷ new_peers next xs)) q) (new_peers next xs)) first
            ∙ ap (λ l. seat (length (peers_of before)) x.peer ∷ l) others
      ] refl more

  -- each peer's number is its position
  pub numbered_peers : (units : List ReplayUnit) → map (λ q. seat (number_of_peer units q) q) (peers_of units) ≡ map (λ e. seat e.0 e.1) (enumerate_from 0 (peers_of units))
  unfolding peers_of
  numbered_peers units = numbered_from [] units

-- ---- numbers that rise

pub numbers_of_positions : {X : Type 0} (n : ℕ) (xs : List X) → map (λ e. e.0) (enumerate_from n xs) ≡ range_with_len n (length xs)
numbers_of_positions n [] = refl
numbers_of_positions n (x ∷ xs) = ap (λ l. n ∷ l) (numbers_of_positions (n + 1) xs) ∙ ap (range_with_len n) {x = suc (length xs)} {y = length (x ∷ xs)} (omega arith)

pub range_rises : (first count : ℕ) → IsStrictlyIncreasing (range_with_len first count)
range_rises first count = λ k inside.
    let many = length-range_with_len first count in
    omega (arith, get_or-range_with_len first count k 0 (omega (arith, many)), get_or-range_with_len first count (k + 1) 0 (omega (arith, many)))

pub positions_rise : {X : Type 0} (xs : List X) → IsStrictlyIncreasing (map (λ e. e.0) (enumerate_from 0 xs))
positions_rise xs = subst IsStrictlyIncreasing (sym (numbers_of_positions 0 xs)) (range_rises 0 (length xs))
