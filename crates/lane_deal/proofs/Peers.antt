-- Peers of units, and their numbers.
use Rattle.std.proofs.Common.{◌≡◌, ◌||◌, if◌then◌else◌, Bool, true, false, cond, List, [], ◌∷◌, ◌++◌, refl, sym, ap, ◌∙◌, subst, append_assoc}
use Rattle.std.proofs.lemmas.List.{append-nil}
use Rattle.std.specs.List.{filter, list_any, position_or_len, AllByRecursion}
use Rattle.std.proofs.Math.Bool.{or-true}
use Rattle.std.proofs.lemmas.List.Elements.{filter-append}
use Rattle.std.proofs.lemmas.List.Folds.{list_any-append}
use Rattle.std.proofs.lemmas.Map.Views.{any-filter_same}
use Rattle.mrt_frame.specs.Positions.{flat_map_after}
use Rattle.peer_units.specs.declared.unit.PeerKey.{PeerKey}
use Rattle.peer_units.specs.Plain.{Unit as ReplayUnit}
use Rattle.peer_tables.specs.Peers.{peer_eq, peers_of, units_of_peer}
use Rattle.peer_tables.proofs.ShareLaws.{same_peer}
use Rattle.peer_tables.proofs.PeerPositions.{first_position, peer_itself}
use Rattle.lane_deal.specs.Lanes.{number_of_peer}
use Rattle.unit_rings.proofs.Lists.{all_more}

-- ---- peers, one unit after the other

-- a unit of the peer is among these
abbrev pub is_seen : List ReplayUnit → PeerKey → Bool
is_seen units q = list_any (λ u. peer_eq u.peer q) units

-- the peer of a unit, where it is new
abbrev pub new_peer : List ReplayUnit → ReplayUnit → List PeerKey
new_peer before unit = if is_seen before unit.peer then [] else unit.peer ∷ []

-- the peers that appear first in the later units
abbrev pub new_peers : List ReplayUnit → List ReplayUnit → List PeerKey
new_peers before units = flat_map_after new_peer before units

new_peers-append : (before xs ys : List ReplayUnit) → new_peers before (xs ++ ys) ≡ new_peers before xs ++ new_peers (before ++ xs) ys
new_peers-append before [] ys = ap (λ b. new_peers b ys) (sym (append-nil before))
new_peers-append before (x ∷ xs) ys =
    ap (λ l. new_peer before x ++ l) (new_peers-append (before ++ x ∷ []) xs ys)
    ∙ sym (append_assoc (new_peer before x) (new_peers (before ++ x ∷ []) xs) (new_peers ((before ++ x ∷ []) ++ xs) ys))
    ∙ ap (λ b. (new_peer before x ++ new_peers (before ++ x ∷ []) xs) ++ new_peers b ys) (append_assoc before (x ∷ []) xs)

-- the peers of more units
pub peers_of-append : (xs ys : List ReplayUnit) → peers_of (xs ++ ys) ≡ peers_of xs ++ new_peers xs ys
unfolding peers_of
peers_of-append xs ys = new_peers-append [] xs ys

seen-push : (before : List ReplayUnit) (x : ReplayUnit) (q : PeerKey) → is_seen (before ++ x ∷ []) q ≡ (is_seen before q || (peer_eq x.peer q || false))
seen-push before x q = list_any-append (λ u. peer_eq u.peer q) before (x ∷ [])

any_later : (p : PeerKey → Bool) (xs ys : List PeerKey) → list_any p ys ≡ true → list_any p (xs ++ ys) ≡ true
any_later p xs ys e = list_any-append p xs ys ∙ ap (λ b. list_any p xs || b) e ∙ or-true (list_any p xs)

-- a peer of these units that is new is among their new peers
listed_when_new : (before xs : List ReplayUnit) (q : PeerKey) → is_seen xs q ≡ true → is_seen before q ≡ false → list_any (peer_eq q) (new_peers before xs) ≡ true
listed_when_new before [] q seen new = cc
listed_when_new before (x ∷ xs) q seen new =
    elim (peer_eq x.peer q) as (λ b. peer_eq x.peer q ≡ b → (b || is_seen xs q) ≡ true → list_any (peer_eq q) (new_peers before (x ∷ xs)) ≡ true) [
      | true ↦ λ same _.
          let is : x.peer ≡ q = same_peer x.peer q same in
          let front : new_peer before x ≡ x.peer ∷ [] = ap (λ b. if b then [] else x.peer ∷ []) (ap (is_seen before) is ∙ new) in
          ap (λ l. list_any (peer_eq q) (l ++ new_peers (before ++ x ∷ []) xs)) front
          ∙ ap (λ b. b || list_any (peer_eq q) (new_peers (before ++ x ∷ []) xs)) (ap (peer_eq q) is ∙ peer_itself q)
      | false ↦ λ apart later.
          any_later (peer_eq q) (new_peer before x) (new_peers (before ++ x ∷ []) xs)
          (listed_when_new (before ++ x ∷ []) xs q later (seen-push before x q ∙ ap (λ b. b || (peer_eq x.peer q || false)) new ∙ ap (λ b. b || false) apart))
    ] refl seen

-- a peer of these units is listed
pub listed_peer : (units : List ReplayUnit) (q : PeerKey) → is_seen units q ≡ true → list_any (peer_eq q) (peers_of units) ≡ true
unfolding peers_of
listed_peer units q seen = listed_when_new [] units q seen refl

-- ---- numbers

-- more units leave the number of a peer as it is
pub number_stays : (units more : List ReplayUnit) (q : PeerKey) → is_seen units q ≡ true → number_of_peer (units ++ more) q ≡ number_of_peer units q
number_stays units more q seen = ap (position_or_len (peer_eq q)) (peers_of-append units more) ∙ first_position (peer_eq q) (peers_of units) (new_peers units more) (listed_peer units q seen)

pub seen_after : (before xs : List ReplayUnit) → AllByRecursion (λ u. is_seen (before ++ xs) u.peer ≡ true) xs
seen_after before [] = tt
seen_after before (x ∷ xs) = (
  list_any-append (λ u. peer_eq u.peer x.peer) before (x ∷ xs) ∙ ap (λ b. is_seen before x.peer || (b || is_seen xs x.peer)) (peer_itself x.peer) ∙ or-true (is_seen before x.peer),
  subst (λ l. AllByRecursion (λ u. is_seen l u.peer ≡ true) xs) (append_assoc before (x ∷ []) xs) (seen_after (before ++ x ∷ []) xs),
)

-- more units leave the numbers of all peers as they are
pub numbers_stay : (units more : List ReplayUnit) → AllByRecursion (λ u. number_of_peer (units ++ more) u.peer ≡ number_of_peer units u.peer) units
numbers_stay units more = all_more units (λ u. number_stays units more u.peer) (seen_after [] units)

-- ---- peers of some of the units

filter_within : {X : Type 0} (p r : X → Bool) (xs : List X) → ((x : X) → p x ≡ true → r x ≡ true) → filter p (filter r xs) ≡ filter p xs
filter_within p r [] h = refl
filter_within p r (x ∷ xs) h =
    elim (r x) as (λ b. r x ≡ b → filter p (cond b (x ∷ filter r xs) (filter r xs)) ≡ filter p (x ∷ xs)) [
      | true ↦ λ _. ap (λ l. cond (p x) (x ∷ l) l) (filter_within p r xs h)
      | false ↦ λ out.
          elim (p x) as (λ b. p x ≡ b → filter p (filter r xs) ≡ cond b (x ∷ filter p xs) (filter p xs)) [
            | true ↦ λ passes. let clash : false ≡ true = sym out ∙ h x passes in cc
            | false ↦ λ _. filter_within p r xs h
          ] refl
    ] refl

module _ (chosen : PeerKey → Bool) where
  -- the units of the peers that are chosen
  abbrev pub chosen_units : List ReplayUnit → List ReplayUnit
  chosen_units units = filter (λ u. chosen u.peer) units

  -- a chosen peer has the same units among those that are chosen
  pub units_of_chosen : (units : List ReplayUnit) (q : PeerKey) → chosen q ≡ true → units_of_peer (chosen_units units) q ≡ units_of_peer units q
  units_of_chosen units q e = filter_within (λ u. peer_eq u.peer q) (λ u. chosen u.peer) units (λ u same. ap chosen (same_peer u.peer q same) ∙ e)

  seen_chosen : (units : List ReplayUnit) (q : PeerKey) → chosen q ≡ true → is_seen (chosen_units units) q ≡ is_seen units q
  seen_chosen units q e = any-filter_same (λ u. peer_eq u.peer q) (λ u. chosen u.peer) true (λ u same. ap chosen (same_peer u.peer q same) ∙ e) units

  one_chosen : (before : List ReplayUnit) (x : ReplayUnit) → chosen x.peer ≡ true → new_peer (chosen_units before) x ≡ filter chosen (new_peer before x)
  one_chosen before x e =
      ap (λ b. if b then [] else x.peer ∷ []) (seen_chosen before x.peer e)
      ∙ elim (is_seen before x.peer) as (λ b. (if b then [] else x.peer ∷ []) ≡ filter chosen (if b then [] else x.peer ∷ [])) [
        | true ↦ refl
        | false ↦ ap (λ b. cond b (x.peer ∷ []) []) (sym e)
      ]

  none_chosen : (before : List ReplayUnit) (x : ReplayUnit) → chosen x.peer ≡ false → filter chosen (new_peer before x) ≡ []
  none_chosen before x e =
      elim (is_seen before x.peer) as (λ b. filter chosen (if b then [] else x.peer ∷ []) ≡ []) [
        | true ↦ refl
        | false ↦ ap (λ b. cond b (x.peer ∷ []) []) e
      ]

  new_chosen : (before xs : List ReplayUnit) → new_peers (chosen_units before) (chosen_units xs) ≡ filter chosen (new_peers before xs)
  new_chosen before [] = refl
  new_chosen before (x ∷ xs) =
      let later = new_chosen (before ++ x ∷ []) xs in
      let grown = filter-append (λ u. chosen u.peer) before (x ∷ []) in
      let parts = filter-append chosen (new_peer before x) (new_peers (before ++ x ∷ []) xs) in
      elim (chosen x.peer) as (λ b. chosen x.peer ≡ b → new_peers (chosen_units before) (cond b (x ∷ chosen_units xs) (chosen_units xs)) ≡ filter chosen (new_peer before x ++ new_peers (before ++ x ∷ []) xs)) [
        | true ↦ λ e.
            let same : chosen_units (before ++ x ∷ []) ≡ chosen_units before ++ x ∷ [] = grown ∙ ap (λ b. chosen_units before ++ cond b (x ∷ []) []) e in
            ap (λ l. l ++ new_peers (chosen_units before ++ x ∷ []) (chosen_units xs)) (one_chosen before x e)
            ∙ ap (λ b. filter chosen (new_peer before x) ++ new_peers b (chosen_units xs)) (sym same) ∙ ap (λ l. filter chosen (new_peer before x) ++ l) later ∙ sym parts
        | false ↦ λ e.
            let same : chosen_units (before ++ x ∷ []) ≡ chosen_units before = grown ∙ ap (λ b. chosen_units before ++ cond b (x ∷ []) []) e ∙ append-nil (chosen_units before) in
            ap (λ b. new_peers b (chosen_units xs)) (sym same) ∙ later ∙ ap (λ l. l ++ filter chosen (new_peers (before ++ x ∷ []) xs)) (sym (none_chosen before x e)) ∙ sym parts
      ] refl

  -- the peers of the chosen units are the chosen peers
  pub peers_of_chosen : (units : List ReplayUnit) → peers_of (chosen_units units) ≡ filter chosen (peers_of units)
  unfolding peers_of
  peers_of_chosen units = new_chosen [] units
