-- The chosen ones of the peers that were heard are those that a reading of the chosen peers hears.
use Rattle.std.proofs.Common.{◌≡◌, Bool, true, false, cond, List, [], ◌∷◌, refl, sym, ◌∙◌, ap}
use Rattle.std.proofs.lemmas.List.Elements.{All-nil, All-cons, All-head, All-tail, All-filter}
use Rattle.std.proofs.lemmas.Map.Views.{All-insert_key}
use Rattle.std.specs.List.{All, filter}
use Rattle.std.specs.Ordering.{match_ordering, ordering_reverse}
use Rattle.std.specs.declared.cmp.Ordering.{Ordering}
use Rattle.std.specs.declared.cmp.Ordering.TheVariants.{Less, Equal, Greater}
use Rattle.peer_units.specs.declared.rib_rule.RibRule.{RibRule}
use Rattle.peer_units.specs.declared.rib_rule.RibRule.TheVariants.{Add, Replace}
use Rattle.peer_units.specs.declared.unit.PeerKey.{PeerKey}
use Rattle.peer_units.specs.Plain.{Unit as ReplayUnit}
use Rattle.mrt_body.specs.RibDumps.{hear, heard_of, peer_cmp}
use Rattle.selection_laws.proofs.PeerOrder.{peer_same, peer_total}

abbrev pub Before : PeerKey → PeerKey → Type 0
Before q p = peer_cmp q p ≡ Less

-- each is before those behind it
abbrev pub Rise : List PeerKey → Type 0
Rise [] = Unit {0}
Rise (q ∷ peers) = All (Before q) peers × Rise peers

all_after : (q x : PeerKey) (peers : List PeerKey) → Before q x → All (Before x) peers → All (Before q) peers
all_after q x [] less all = All-nil (Before q)
all_after q x (p ∷ peers) less all =
    All-cons (Before q) p peers (peer_total.trans q x p less (All-head (Before x) p peers all)) (all_after q x peers less (All-tail (Before x) p peers all))

turned : (q x : PeerKey) → peer_cmp q x ≡ Greater → Before x q
turned q x e = peer_total.antisymm x q ∙ ap ordering_reverse e

-- one more among them
rise_by : (o : Ordering) (q x : PeerKey) (peers : List PeerKey) → peer_cmp q x ≡ o → Rise (x ∷ peers) → Rise (hear peers q) →
    Rise (match_ordering o (q ∷ x ∷ peers) (x ∷ peers) (x ∷ hear peers q))
rise_by Less q x peers e rise more = (All-cons (Before q) x peers e (all_after q x peers e rise.0), rise)
rise_by Equal q x peers e rise more = rise
rise_by Greater q x peers e rise more = (All-insert_key peer_cmp q (Before x) peers rise.0 (turned q x e), more)

pub rise_more : (peers : List PeerKey) (q : PeerKey) → Rise peers → Rise (hear peers q)
rise_more [] q rise = (All-nil (Before q), tt)
rise_more (x ∷ peers) q rise = rise_by (peer_cmp q x) q x peers refl rise (rise_more peers q rise.1)

module _ (takes : PeerKey → Bool) where
  -- the first of them is taken, or isn't
  abbrev first : Bool → PeerKey → List PeerKey → List PeerKey
  first b x peers = cond b (x ∷ peers) peers

  -- a peer that isn't taken
  other_by : (o : Ordering) (x : PeerKey) (peers : List PeerKey) (q : PeerKey) → takes q ≡ false → filter takes (hear peers q) ≡ filter takes peers →
      filter takes (match_ordering o (q ∷ x ∷ peers) (x ∷ peers) (x ∷ hear peers q)) ≡ filter takes (x ∷ peers)
  other_by Less x peers q none same = ap (λ (b : Bool). first b q (filter takes (x ∷ peers))) none
  other_by Equal x peers q none same = refl
  other_by Greater x peers q none same = ap (first (takes x) x) same

  hear_other : (peers : List PeerKey) (q : PeerKey) → takes q ≡ false → filter takes (hear peers q) ≡ filter takes peers
  hear_other [] q none = ap (λ (b : Bool). first b q []) none
  hear_other (x ∷ peers) q none = other_by (peer_cmp q x) x peers q none (hear_other peers q none)

  -- a peer before all
  hear_first : (peers : List PeerKey) (q : PeerKey) → All (Before q) peers → hear peers q ≡ q ∷ peers
  hear_first [] q all = refl
  hear_first (x ∷ peers) q all = ap (λ (o : Ordering). match_ordering o (q ∷ x ∷ peers) (x ∷ peers) (x ∷ hear peers q)) (All-head (Before q) x peers all)

  -- a peer that is taken
  taken_by : (b : Bool) (o : Ordering) (x : PeerKey) (peers : List PeerKey) (q : PeerKey) → takes q ≡ true → takes x ≡ b → peer_cmp q x ≡ o → All (Before x) peers →
      hear (filter takes peers) q ≡ filter takes (hear peers q) →
      hear (first b x (filter takes peers)) q ≡ filter takes (match_ordering o (q ∷ x ∷ peers) (x ∷ peers) (x ∷ hear peers q))
  taken_by true Less x peers q is_taken t e after same =
      ap (λ (o : Ordering). match_ordering o (q ∷ x ∷ filter takes peers) (x ∷ filter takes peers) (x ∷ hear (filter takes peers) q)) e
      ∙ sym (ap (λ (b : Bool). first b q (filter takes (x ∷ peers))) is_taken ∙ ap (λ (b : Bool). q ∷ first b x (filter takes peers)) t)
  taken_by true Equal x peers q is_taken t e after same =
      ap (λ (o : Ordering). match_ordering o (q ∷ x ∷ filter takes peers) (x ∷ filter takes peers) (x ∷ hear (filter takes peers) q)) e
      ∙ sym (ap (λ (b : Bool). first b x (filter takes peers)) t)
  taken_by true Greater x peers q is_taken t e after same =
      ap (λ (o : Ordering). match_ordering o (q ∷ x ∷ filter takes peers) (x ∷ filter takes peers) (x ∷ hear (filter takes peers) q)) e
      ∙ ap (λ (l : List PeerKey). x ∷ l) same
      ∙ sym (ap (λ (b : Bool). first b x (filter takes (hear peers q))) t)
  taken_by false Less x peers q is_taken t e after same =
      hear_first (filter takes peers) q (All-filter takes (Before q) peers (all_after q x peers e after))
      ∙ sym (ap (λ (b : Bool). first b q (filter takes (x ∷ peers))) is_taken ∙ ap (λ (b : Bool). q ∷ first b x (filter takes peers)) t)
  taken_by false Equal x peers q is_taken t e after same = absurd (let s = sym is_taken ∙ ap takes (peer_same q x e) ∙ t in cc)
  taken_by false Greater x peers q is_taken t e after same = same ∙ sym (ap (λ (b : Bool). first b x (filter takes (hear peers q))) t)

  hear_taken : (peers : List PeerKey) (q : PeerKey) → takes q ≡ true → Rise peers → hear (filter takes peers) q ≡ filter takes (hear peers q)
  hear_taken [] q is_taken rise = sym (ap (λ (b : Bool). first b q []) is_taken)
  hear_taken (x ∷ peers) q is_taken rise = taken_by (takes x) (peer_cmp q x) x peers q is_taken refl refl rise.0 (hear_taken peers q is_taken rise.1)

  abbrev pub of_taken : ReplayUnit → Bool
  of_taken unit = takes unit.peer

  kept_by : (b : Bool) (heard : List PeerKey) (u : ReplayUnit) (units : List ReplayUnit) → Rise heard → takes u.peer ≡ b →
      heard_of Replace (filter takes (hear heard u.peer)) (filter of_taken units) ≡ filter takes (heard_of Replace (hear heard u.peer) units) →
      heard_of Replace (filter takes heard) (cond b (u ∷ filter of_taken units) (filter of_taken units)) ≡ filter takes (heard_of Replace (hear heard u.peer) units)
  kept_by true heard u units rise t behind = ap (λ (l : List PeerKey). heard_of Replace l (filter of_taken units)) (hear_taken heard u.peer t rise) ∙ behind
  kept_by false heard u units rise t behind = ap (λ (l : List PeerKey). heard_of Replace l (filter of_taken units)) (sym (hear_other heard u.peer t)) ∙ behind

  -- all that give units
  pub heard_kept : (ribs : RibRule) (heard : List PeerKey) (units : List ReplayUnit) → Rise heard →
      heard_of ribs (filter takes heard) (filter of_taken units) ≡ filter takes (heard_of ribs heard units)
  heard_kept Add heard units rise = refl
  heard_kept Replace heard [] rise = refl
  heard_kept Replace heard (u ∷ units) rise =
      kept_by (takes u.peer) heard u units rise refl (heard_kept Replace (hear heard u.peer) units (rise_more heard u.peer rise))

pub rise_of : (ribs : RibRule) (heard : List PeerKey) (units : List ReplayUnit) → Rise heard → Rise (heard_of ribs heard units)
rise_of Add heard units rise = rise
rise_of Replace heard [] rise = rise
rise_of Replace heard (u ∷ units) rise = rise_of Replace (hear heard u.peer) units (rise_more heard u.peer rise)
