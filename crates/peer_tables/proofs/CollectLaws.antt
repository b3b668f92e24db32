-- Sessions out of the lanes, by their number.
use Rattle.std.proofs.Common.{◌≡◌, ℕ, ◌<◌, nat_eq, List, [], ◌∷◌, ◌++◌, refl, sym, ap, ◌∙◌, subst, append_assoc, append-nil, arith, length, map}
use Rattle.std.specs.List.{flat_map, IsDistinct}
use Rattle.std.specs.List.Sorted.{IsPermutation, IsNonDecreasing, IsNonDecreasingBy}
use Rattle.std.proofs.lemmas.List.{map-append, get_or-map, length-map}
use Rattle.std.proofs.lemmas.Cmp.{nat_eq_equiv}
use Rattle.std.proofs.lemmas.List.Concat.{flat_map-append}
use Rattle.std.proofs.lemmas.List.Sorted.{IsPermutation-trans, IsPermutation-map, IsPermutation-append_comm, IsPermutation-append_right}
use Rattle.std.proofs.lemmas.Map.Keys.{IsDistinct-IsPermutation, IsStrictlyIncreasing-from_distinct}
use Rattle.peer_units.specs.declared.unit.Damage.{Damage}
use Rattle.peer_tables.specs.Tables.{Seat, IsCollected}

abbrev pub flat : {X : Type 0} → List (List X) → List X
flat lanes = flat_map (λ lane. lane) lanes

pub flat_push : {X : Type 0} (rest : List (List X)) (lane : List X) → flat (rest ++ lane ∷ []) ≡ flat rest ++ lane
flat_push rest lane = flat_map-append (λ l. l) rest (lane ∷ []) ∙ ap (λ l. flat rest ++ l) (append-nil lane)

-- a loop's step: the last lane goes to the end
pub moved_more : {X : Type 0} (start : List X) (lanes rest : List (List X)) (lane all new : List X) → lanes ≡ rest ++ lane ∷ [] → new ≡ all ++ lane → IsPermutation start (flat lanes ++ all)
    → IsPermutation start (flat rest ++ new)
moved_more start lanes rest lane all new taken added before =
    let split : flat lanes ++ all ≡ flat rest ++ (lane ++ all) = ap (λ l. flat l ++ all) taken ∙ ap (λ l. l ++ all) (flat_push rest lane) ∙ append_assoc (flat rest) lane all in
    let step = IsPermutation-append_right (flat rest) (lane ++ all) (all ++ lane) (IsPermutation-append_comm lane all) in
    subst (λ l. IsPermutation start (flat rest ++ l)) (sym added) (IsPermutation-trans start _ _ (subst (IsPermutation start) split before) step)

pub flat_map_map : {S T : Type 0} (f : S → T) (lanes : List (List S)) → flat_map (λ lane. map f lane) lanes ≡ map f (flat lanes)
flat_map_map f [] = refl
flat_map_map f (lane ∷ lanes) = ap (λ l. map f lane ++ l) (flat_map_map f lanes) ∙ sym (map-append f lane (flat lanes))

-- the keys of a list that ascends by them
non_decreasing_keys : {S : Type 0} (key : S → ℕ) (xs : List S) → IsNonDecreasingBy key xs → IsNonDecreasing (map key xs)
non_decreasing_keys key [] up = λ i j d le lt. absurd (omega arith)
non_decreasing_keys key (x ∷ xs) up = λ i j d le lt.
    let short : j < length (x ∷ xs) = omega (arith, length-map (x ∷ xs) key) in
    omega (arith, get_or-map key (x ∷ xs) i x d (omega arith), get_or-map key (x ∷ xs) j x d short, up i j x le short)

by_seat : {S : Type 0} (seat : S → Seat) (xs : List S) → IsNonDecreasingBy (λ s. (seat s).number) xs → IsNonDecreasingBy (λ s. s.number) (map seat xs)
by_seat seat [] up = λ i j d le lt. absurd (omega arith)
by_seat seat (x ∷ xs) up = λ i j d le lt.
    let short : j < length (x ∷ xs) = omega (arith, length-map (x ∷ xs) seat) in
    let first = ap (λ s. s.number) (get_or-map seat (x ∷ xs) i x d (omega arith)) in
    let second = ap (λ s. s.number) (get_or-map seat (x ∷ xs) j x d short) in
    omega (arith, first, second, up i j x le short)

-- what a sort by number leaves of the sessions of all lanes
pub collected : {S : Type 0} (seat : S → Seat) (lanes : List (List S)) (moved sorted : List S) (refused kept : List Damage) → kept ≡ refused → IsPermutation (flat lanes ++ []) moved → IsPermutation moved sorted
    → IsNonDecreasingBy (λ s. (seat s).number) sorted → IsDistinct nat_eq (map (λ s. s.number) (flat_map (λ lane. map seat lane) lanes))
    → IsCollected (flat_map (λ lane. map seat lane) lanes) refused (record { seats = map seat sorted; refused = kept })
collected seat lanes moved sorted refused kept is_kept gathered ordered up distinct =
    let one : IsPermutation (flat lanes) sorted = IsPermutation-trans (flat lanes) moved sorted (subst (λ l. IsPermutation l moved) (append-nil (flat lanes)) gathered) ordered in
    let same : IsPermutation (flat_map (λ lane. map seat lane) lanes) (map seat sorted) = subst (λ l. IsPermutation l (map seat sorted)) (sym (flat_map_map seat lanes)) (IsPermutation-map seat (flat lanes) sorted one) in
    let number : Seat → ℕ = λ s. s.number in
    record {
      same = same;
      ascending = IsStrictlyIncreasing-from_distinct (map number (map seat sorted)) (non_decreasing_keys number (map seat sorted) (by_seat seat sorted up))
          (IsDistinct-IsPermutation nat_eq nat_eq_equiv.symm _ _ (IsPermutation-map number _ _ same) distinct);
      refused_kept = is_kept;
    }
