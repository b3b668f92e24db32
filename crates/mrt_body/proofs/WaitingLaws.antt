-- What is still to be given: the units that wait, and behind them entries.
use Rattle.std.proofs.Common.{◌≡◌, ℕ, zero, suc, ◌-◌, ◌<◌, List, [], ◌∷◌, ◌++◌, drop, length, refl, ap, ◌∙◌, arith}
use Rattle.peer_units.specs.Plain.{Unit as ReplayUnit}

-- where nothing is, neither is
pub both_none : (waiting entries : List ReplayUnit) → waiting ++ entries ≡ [] → (waiting ≡ []) × (entries ≡ [])
both_none [] entries h = (refl, h)
both_none (unit ∷ waiting) entries h = absurd cc

-- what is left of both, where so many are left behind
pub drop_both : (n : ℕ) (waiting entries : List ReplayUnit) → drop n (waiting ++ entries) ≡ drop n waiting ++ drop (n - length waiting) entries
drop_both zero waiting entries = let none : 0 ≡ 0 - length waiting = omega arith in ap (λ m. waiting ++ drop m entries) none
drop_both (suc n) [] entries = let all : suc n ≡ suc n - 0 = omega arith in ap (λ m. drop m entries) all
drop_both (suc n) (unit ∷ waiting) entries =
    let one : n - length waiting ≡ suc n - length (unit ∷ waiting) = omega arith in drop_both n waiting entries ∙ ap (λ m. drop n waiting ++ drop m entries) one

-- where some are left, they are more than none
pub some_left : (units : List ReplayUnit) → (units ≡ [] → ⊥) → 0 < length units
some_left [] h = absurd (h refl)
some_left (unit ∷ units) h = omega arith
