-- Rows made one by one.
use Rattle.std.proofs.Common.{◌≡◌, ℕ, ◌+◌, ◌<◌, ◌≤◌, List, [], ◌∷◌, ◌++◌, refl, sym, ap, ◌∙◌, length, get_or, take, take_all, map, Option}
use Rattle.std.proofs.lemmas.List.{take_more, flat_map_more}
use Rattle.std.proofs.lemmas.List.Elements.{filter_map-append}
use Rattle.std.specs.List.{flat_map, filter_map}

pub map_twice : {X Y Z : Type 0} (f : X → Y) (g : Y → Z) (xs : List X) → map (λ x. g (f x)) xs ≡ map g (map f xs)
map_twice f g [] = refl
map_twice f g (x ∷ xs) = ap (λ l. g (f x) ∷ l) (map_twice f g xs)

pub flat_map_twice : {X Y Z : Type 0} (f : X → Y) (g : Y → List Z) (xs : List X) → flat_map (λ x. g (f x)) xs ≡ flat_map g (map f xs)
flat_map_twice f g [] = refl
flat_map_twice f g (x ∷ xs) = ap (λ l. g (f x) ++ l) (flat_map_twice f g xs)

-- after a loop, each item seen through f
pub rows_of_all : {X Y Z : Type 0} (f : X → Y) (g : Y → Z) (xs : List X) (ys : List Y) (n : ℕ) → length xs ≤ n → map f xs ≡ ys → map (λ x. g (f x)) (take n xs) ≡ map g ys
rows_of_all f g xs ys n all seen = ap (map (λ x. g (f x))) (take_all n xs all) ∙ map_twice f g xs ∙ ap (map g) seen

pub pieces_of_all : {X Y Z : Type 0} (f : X → Y) (g : Y → List Z) (xs : List X) (ys : List Y) (n : ℕ) → length xs ≤ n → map f xs ≡ ys → flat_map (λ x. g (f x)) (take n xs) ≡ flat_map g ys
pieces_of_all f g xs ys n all seen = ap (flat_map (λ x. g (f x))) (take_all n xs all) ∙ flat_map_twice f g xs ∙ ap (flat_map g) seen

-- a loop's step: the piece of one more item
pub pieces_more : {X Y : Type 0} (f : X → List Y) (xs : List X) (i : ℕ) (x : X) (old new : List Y) → i < length xs → x ≡ get_or xs i x → old ≡ flat_map f (take i xs) → new ≡ old ++ f x → new ≡ flat_map f (take (i + 1) xs)
pieces_more f xs i x old new below at before one =
    one ∙ ap (λ l. l ++ f x) before ∙ flat_map_more f [] (take i xs) x ∙ ap (λ y. flat_map f (take i xs ++ y ∷ [])) at ∙ sym (ap (flat_map f) (take_more xs i x below))

-- a loop's step: what h gives of one more item
pub kept_more : {X Y : Type 0} (h : X → Option Y) (xs : List X) (i : ℕ) (x : X) → i < length xs → x ≡ get_or xs i x → filter_map h (take (i + 1) xs) ≡ filter_map h (take i xs) ++ filter_map h (x ∷ [])
kept_more h xs i x below at = ap (filter_map h) (take_more xs i x below) ∙ filter_map-append h (take i xs) (get_or xs i x ∷ []) ∙ ap (λ y. filter_map h (take i xs) ++ filter_map h (y ∷ [])) (sym at)
