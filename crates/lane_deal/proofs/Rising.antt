-- Numbers that rise, some of them left out.
use Rattle.std.proofs.Common.{ℕ, ◌+◌, ◌<◌, Bool, List, length, map, get_or, nat_eq, arith}
use Rattle.std.specs.List.{filter, AllPairs, IsDistinct}
use Rattle.std.specs.List.Sorted.{IsStrictlyIncreasing}
use Rattle.std.proofs.lemmas.Bool.{ne_eqb}
use Rattle.std.proofs.lemmas.List.{get_or-map, length-map}
use Rattle.std.proofs.lemmas.List.Kept.{AllPairs-filter, AllPairs-from_increasing}
use Rattle.std.proofs.lemmas.Map.Keys.{IsDistinct-from_apart}
use Rattle.unit_rings.proofs.Lists.{some_item}

-- those of some items rise still
pub rise_filtered : {X : Type 0} (f : X → ℕ) (p : X → Bool) (xs : List X) → IsStrictlyIncreasing (map f xs) → IsStrictlyIncreasing (map f (filter p xs))
rise_filtered f p xs h k inside =
    let within : k + 1 < length (filter p xs) = omega (arith, inside, length-map (filter p xs) f) in
    let some = some_item (filter p xs) (k + 1) within in
    let pairs : AllPairs (λ x y. f x < f y) xs = λ i j d l m.
    omega (arith, AllPairs-from_increasing (map f xs) h i j 0 l (omega (arith, m, length-map xs f)), get_or-map f xs i d 0 (omega (arith, l, m)), get_or-map f xs j d 0 m) in
    omega (arith, AllPairs-filter (λ x y. f x < f y) p xs pairs k (k + 1) some (omega arith) within, get_or-map f (filter p xs) k some 0 (omega (arith, within)), get_or-map f (filter p xs) (k + 1) some 0 within)

pub distinct : (xs : List ℕ) → IsStrictlyIncreasing xs → IsDistinct nat_eq xs
distinct xs h = IsDistinct-from_apart nat_eq xs (λ i j d l m. ne_eqb (get_or xs i d) (get_or xs j d) (λ e. omega (arith, e, AllPairs-from_increasing xs h i j d l m)))
