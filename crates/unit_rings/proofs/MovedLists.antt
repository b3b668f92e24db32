-- The lists that were moved to a ring made anew, list by list.
use Rattle.std.proofs.Common.{◌≡◌, ℕ, ◌+◌, take, drop, List, [], ◌∷◌, ◌++◌, length, sym, ap, ◌∙◌, subst, append_assoc, arith, length-append}
use Rattle.std.proofs.Math.Seq.{take-add}
use Rattle.unit_rings.specs.Plain.{UnitList, UnitProducer}
use Rattle.unit_rings.specs.UnitLists.{units_of, units_of_lists}
use Rattle.unit_rings.specs.UnitRings.{sent, known_free, SameProducer}
use Rattle.unit_rings.proofs.UnitLists.{units_pushed}

-- these lists were pushed to slots that were known to be free, and no list is being filled
pub record MovedLists (a b : UnitProducer) (lists : List UnitList) : Type 0 where
  pub ring : SameProducer a b
  pub sent : sent b ≡ sent a ++ units_of_lists lists
  pub free : known_free a ≡ known_free b + length (units_of_lists lists)
  pub open_list : units_of b.open_list ≡ []

pub MovedLists-push : (a b c : UnitProducer) (lists : List UnitList) (x : UnitList) → MovedLists a b lists → SameProducer b c → sent c ≡ sent b ++ units_of x → known_free b ≡ known_free c + length (units_of x) → units_of c.open_list ≡ [] → MovedLists a c (lists ++ x ∷ [])
MovedLists-push a b c lists x p ring more less none =
    let both = units_pushed lists x in
    record {
      ring = ((ring.0.0 ∙ p.ring.0.0, ring.0.1 ∙ p.ring.0.1, ring.0.2 ∙ p.ring.0.2, ring.0.3 ∙ p.ring.0.3), ring.1 ∙ p.ring.1);
      sent = more ∙ (ap (λ s. s ++ units_of x) p.sent ∙ (append_assoc (sent a) (units_of_lists lists) (units_of x) ∙ ap (λ l. sent a ++ l) (sym both)));
      free = (let f = p.free in let e = ap length both in let g = length-append (units_of_lists lists) (units_of x) in omega arith);
      open_list = none;
    }

-- one more of the lists that wait
pub MovedLists-next : (a b c : UnitProducer) (lists rest : List UnitList) (x : UnitList) (k : ℕ) → x ∷ rest ≡ drop k lists → MovedLists a b (take k lists) → SameProducer b c → sent c ≡ sent b ++ units_of x → known_free b ≡ known_free c + length (units_of x) → units_of c.open_list ≡ [] → MovedLists a c (take (k + 1) lists)
MovedLists-next a b c lists rest x k at p ring more less none =
    let P : List UnitList → Type 0 = MovedLists a c in
    subst P (ap (λ ys. take k lists ++ take 1 ys) at ∙ sym (take-add k 1 lists)) (MovedLists-push a b c (take k lists) x p ring more less none)
