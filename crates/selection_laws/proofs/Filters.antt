-- What is kept of what was kept.
use Rattle.std.proofs.Common.{◌≡◌, ◌&&◌, Bool, true, false, cond, List, [], ◌∷◌, map, refl, ◌∙◌, ap}
use Rattle.std.specs.List.{filter, filter_map}
use Rattle.peer_units.specs.Plain.{Unit as ReplayUnit, Found}
use Rattle.peer_units.specs.declared.unit.Found.TheVariants as found
use Rattle.mrt_body.specs.Units.{unit_of}

module _ {X : Type 0} (q k : X → Bool) where
  once_more : (b : Bool) (x : X) (ys : List X) → filter k (cond b (x ∷ ys) ys) ≡ cond (b && k x) (x ∷ filter k ys) (filter k ys)
  once_more true x ys = refl
  once_more false x ys = refl

  -- a filter behind a filter
  pub filter_twice : (xs : List X) → filter k (filter q xs) ≡ filter (λ x. q x && k x) xs
  filter_twice [] = refl
  filter_twice (x ∷ xs) = once_more (q x) x (filter q xs) ∙ ap (λ (l : List X). cond (q x && k x) (x ∷ l) l) (filter_twice xs)

-- a refusal is kept, and a unit where the test says so
abbrev pub keeps : (ReplayUnit → Bool) → Found → Bool
keeps keep (found.Unit unit) = keep unit
keeps keep (found.Refused damage) = true

abbrev pub as_found : ReplayUnit → Found
as_found unit = found.Unit unit

module _ (keep : ReplayUnit → Bool) where
  mapped : (b : Bool) (u : ReplayUnit) (us : List ReplayUnit) → cond b (as_found u ∷ map as_found us) (map as_found us) ≡ map as_found (cond b (u ∷ us) us)
  mapped true u us = refl
  mapped false u us = refl

  pub keeps_found : (us : List ReplayUnit) → filter (keeps keep) (map as_found us) ≡ map as_found (filter keep us)
  keeps_found [] = refl
  keeps_found (u ∷ us) = ap (λ (l : List Found). cond (keep u) (as_found u ∷ l) l) (keeps_found us) ∙ mapped (keep u) u (filter keep us)

  unit_first : (b : Bool) (u : ReplayUnit) (fs : List Found) → filter_map unit_of (cond b (as_found u ∷ fs) fs) ≡ cond b (u ∷ filter_map unit_of fs) (filter_map unit_of fs)
  unit_first true u fs = refl
  unit_first false u fs = refl

  pub keeps_units : (fs : List Found) → filter_map unit_of (filter (keeps keep) fs) ≡ filter keep (filter_map unit_of fs)
  keeps_units [] = refl
  keeps_units (found.Unit u ∷ fs) = unit_first (keep u) u (filter (keeps keep) fs) ∙ ap (λ (l : List ReplayUnit). cond (keep u) (u ∷ l) l) (keeps_units fs)
  keeps_units (found.Refused d ∷ fs) = keeps_units fs
