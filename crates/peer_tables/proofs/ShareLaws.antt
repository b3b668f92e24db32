-- The units of some peers alone give these peers the same tables, in the same order.
use Rattle.std.proofs.Common.{◌≡◌, Bool, true, false, cond, List, [], ◌∷◌, refl, sym, ap, ◌∙◌}
use Rattle.std.specs.List.{filter, list_any}
use Rattle.std.proofs.lemmas.Bool.{and_parts, eqb-true}
use Rattle.std.proofs.lemmas.Map.Views.{any-filter_same}
use Rattle.peer_units.specs.declared.unit.PeerAddr.{PeerAddr}
use Rattle.peer_units.specs.declared.unit.PeerAddr.TheVariants.{V4, V6}
use Rattle.peer_units.specs.declared.unit.PeerKey.{PeerKey}
use Rattle.peer_units.specs.Plain.{Unit as ReplayUnit}
use Rattle.adj_rib.proofs.Positions.{after_filter, filter_after}
use Rattle.peer_tables.specs.Peers.{addr_eq, peer_eq, peers_of, units_of_peer}
use Rattle.peer_tables.specs.Shares.{units_where}

same_addr : (a b : PeerAddr) → addr_eq a b ≡ true → a ≡ b
same_addr (V4 a) (V4 b) e = ap V4 (eqb-true a b e)
same_addr (V6 a) (V6 b) e = ap V6 (eqb-true a b e)
same_addr (V4 a) (V6 b) e = cc
same_addr (V6 a) (V4 b) e = cc

pub same_peer : (p q : PeerKey) → peer_eq p q ≡ true → p ≡ q
same_peer p q e =
    let parts = and_parts _ _ e in
    let asn : p.asn ≡ q.asn = eqb-true _ _ parts.0 in
    let addr = same_addr p.addr q.addr parts.1 in
    λ i. record { asn = asn i; addr = addr i }

-- ---- a filter that leaves all that another one finds

misses : {X : Type 0} (p t : X → Bool) (x : X) → (p x ≡ true → t x ≡ true) → t x ≡ false → p x ≡ false
misses p t x h left =
    elim (p x) as (λ b. p x ≡ b → b ≡ false) [
      | true ↦ λ taken. absurd (let clash : true ≡ false = sym (h taken) ∙ left in cc)
      | false ↦ λ _. refl
    ] refl

filter_within : {X : Type 0} (p t : X → Bool) → ((x : X) → p x ≡ true → t x ≡ true) → (xs : List X) → filter p (filter t xs) ≡ filter p xs
filter_within p t h [] = refl
filter_within p t h (x ∷ xs) =
    elim (t x) as (λ b. t x ≡ b → filter p (cond b (x ∷ filter t xs) (filter t xs)) ≡ filter p (x ∷ xs)) [
      | true ↦ λ _. ap (λ l. cond (p x) (x ∷ l) l) (filter_within p t h xs)
      | false ↦ λ left. filter_within p t h xs ∙ ap (λ b. cond b (x ∷ filter p xs) (filter p xs)) (sym (misses p t x (h x) left))
    ] refl

-- ---- some peers

module _ (takes : PeerKey → Bool) where
  taken_alike : (q : PeerKey) → takes q ≡ true → (u : ReplayUnit) → peer_eq u.peer q ≡ true → takes u.peer ≡ true
  taken_alike q h u e = ap takes (same_peer u.peer q e) ∙ h

  -- a peer that is taken has all its units
  pub units_of_peer-where : (units : List ReplayUnit) (q : PeerKey) → takes q ≡ true → units_of_peer (units_where takes units) q ≡ units_of_peer units q
  units_of_peer-where units q h = filter_within (λ u. peer_eq u.peer q) (λ u. takes u.peer) (taken_alike q h) units

  abbrev first_peer : List ReplayUnit → ReplayUnit → List PeerKey
  first_peer before unit = cond (list_any (λ u. peer_eq u.peer unit.peer) before) [] (unit.peer ∷ [])

  if_new : (b : Bool) (q : PeerKey) → takes q ≡ true → cond b [] (q ∷ []) ≡ filter takes (cond b [] (q ∷ []))
  if_new true q h = refl
  if_new false q h = rw h refl

  none_new : (b : Bool) (q : PeerKey) → takes q ≡ false → [] ≡ filter takes (cond b [] (q ∷ []))
  none_new true q h = refl
  none_new false q h = rw h refl

  first_taken : (before : List ReplayUnit) (u : ReplayUnit) → cond (takes u.peer) (first_peer (units_where takes before) u) [] ≡ filter takes (first_peer before u)
  first_taken before u =
      let seen = list_any (λ (v : ReplayUnit). peer_eq v.peer u.peer) before in
      elim (takes u.peer) as (λ b. takes u.peer ≡ b → cond b (first_peer (units_where takes before) u) [] ≡ filter takes (first_peer before u)) [
        | true ↦ λ taken. ap (λ b. cond b [] (u.peer ∷ [])) (any-filter_same (λ (v : ReplayUnit). peer_eq v.peer u.peer) (λ v. takes v.peer) true (taken_alike u.peer taken) before) ∙ if_new seen u.peer taken
        | false ↦ λ left. none_new seen u.peer left
      ] refl

  -- the peers that are taken, in the same order
  pub peers_of-where : (units : List ReplayUnit) → peers_of (units_where takes units) ≡ filter takes (peers_of units)
  unfolding peers_of
  peers_of-where units = after_filter (λ (u : ReplayUnit). takes u.peer) first_peer (λ b u. filter takes (first_peer b u)) first_taken [] units ∙ sym (filter_after takes first_peer [] units)
