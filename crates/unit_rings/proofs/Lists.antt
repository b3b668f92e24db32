-- The items of lists: what holds of each, and what a test keeps of them.
use Rattle.std.proofs.Common.{◌≡◌, ℕ, ◌<◌, Bool, true, false, cond, List, [], ◌∷◌, ◌++◌, length, map, refl, ap, ◌∙◌, arith}
use Rattle.std.specs.List.{filter, AllByRecursion}
use Rattle.std.proofs.lemmas.List.Elements.{All-from_recursion, recursion_from_All, All-filter, All-map, All-weaker, filter_passes}

-- an item of a list that has one at this index
pub some_item : {X : Type 0} (xs : List X) (i : ℕ) → i < length xs → X
some_item [] i l = absurd (omega arith)
some_item (x ∷ xs) i l = x

pub all_of : {X : Type 0} {P : X → Type 0} (xs : List X) → ((x : X) → P x) → AllByRecursion P xs
all_of [] f = tt
all_of (x ∷ xs) f = (f x, all_of xs f)

pub all_more : {X : Type 0} {P Q : X → Type 0} (xs : List X) → ((x : X) → P x → Q x) → AllByRecursion P xs → AllByRecursion Q xs
all_more [] f h = tt
all_more (x ∷ xs) f h = (f x h.0, all_more xs f h.1)

pub all_both : {X : Type 0} (P Q R : X → Type 0) (xs : List X) → ((x : X) → P x → Q x → R x) → AllByRecursion P xs → AllByRecursion Q xs → AllByRecursion R xs
all_both P Q R [] f h k = tt
all_both P Q R (x ∷ xs) f h k = (f x h.0 k.0, all_both P Q R xs f h.1 k.1)

pub all_push : {X : Type 0} (P : X → Type 0) (xs ys : List X) → AllByRecursion P xs → AllByRecursion P ys → AllByRecursion P (xs ++ ys)
all_push P [] ys h k = k
all_push P (x ∷ xs) ys h k = (h.0, all_push P xs ys h.1 k)

pub front_of : {X : Type 0} (P : X → Type 0) (xs ys : List X) → AllByRecursion P (xs ++ ys) → AllByRecursion P xs
front_of P [] ys h = tt
front_of P (x ∷ xs) ys h = (h.0, front_of P xs ys h.1)

pub back_of : {X : Type 0} (P : X → Type 0) (xs ys : List X) → AllByRecursion P (xs ++ ys) → AllByRecursion P ys
back_of P [] ys h = h
back_of P (x ∷ xs) ys h = back_of P xs ys h.1

pub all_mapped : {X Y : Type 0} (f : X → Y) (P : Y → Type 0) (xs : List X) → AllByRecursion (λ x. P (f x)) xs → AllByRecursion P (map f xs)
all_mapped f P xs h = recursion_from_All P (map f xs) (All-map P f xs (All-from_recursion (λ x. P (f x)) xs h))

pub all_unmapped : {X Y : Type 0} (f : X → Y) (P : Y → Type 0) (xs : List X) → AllByRecursion P (map f xs) → AllByRecursion (λ x. P (f x)) xs
all_unmapped f P [] h = tt
all_unmapped f P (x ∷ xs) h = (h.0, all_unmapped f P xs h.1)

pub all_filtered : {X : Type 0} (P : X → Type 0) (p : X → Bool) (xs : List X) → AllByRecursion P xs → AllByRecursion P (filter p xs)
all_filtered P p xs h = recursion_from_All P (filter p xs) (All-filter p P xs (All-from_recursion P xs h))

-- what a test keeps passes it
pub kept_pass : {X : Type 0} (P : X → Type 0) (p : X → Bool) (xs : List X) → ((x : X) → p x ≡ true → P x) → AllByRecursion P (filter p xs)
kept_pass P p xs h = recursion_from_All P (filter p xs) (All-weaker (λ x. p x ≡ true) P h (filter p xs) (filter_passes p xs))

pub all_pass : {X : Type 0} (p : X → Bool) (xs : List X) → AllByRecursion (λ x. p x ≡ true) xs → filter p xs ≡ xs
all_pass p [] h = refl
all_pass p (x ∷ xs) h = ap (λ b. cond b (x ∷ filter p xs) (filter p xs)) h.0 ∙ ap (λ l. x ∷ l) (all_pass p xs h.1)

pub none_pass : {X : Type 0} (p : X → Bool) (xs : List X) → AllByRecursion (λ x. p x ≡ false) xs → filter p xs ≡ []
none_pass p [] h = refl
none_pass p (x ∷ xs) h = ap (λ b. cond b (x ∷ filter p xs) (filter p xs)) h.0 ∙ none_pass p xs h.1

-- two tests that agree on its items
pub filter_alike : {X : Type 0} (p q : X → Bool) (xs : List X) → AllByRecursion (λ x. p x ≡ q x) xs → filter p xs ≡ filter q xs
filter_alike p q [] h = refl
filter_alike p q (x ∷ xs) h = ap (λ b. cond b (x ∷ filter p xs) (filter p xs)) h.0 ∙ ap (λ l. cond (q x) (x ∷ l) l) (filter_alike p q xs h.1)

pub map_alike : {X Y : Type 0} (f g : X → Y) (xs : List X) → AllByRecursion (λ x. f x ≡ g x) xs → map f xs ≡ map g xs
map_alike f g [] h = refl
map_alike f g (x ∷ xs) h = ap (λ y. y ∷ map f xs) h.0 ∙ ap (λ l. g x ∷ l) (map_alike f g xs h.1)

pub filter_mapped : {X Y : Type 0} (p : Y → Bool) (f : X → Y) (xs : List X) → filter p (map f xs) ≡ map f (filter (λ x. p (f x)) xs)
filter_mapped p f [] = refl
filter_mapped p f (x ∷ xs) =
    elim (p (f x)) as (λ b. cond b (f x ∷ filter p (map f xs)) (filter p (map f xs)) ≡ map f (cond b (x ∷ filter (λ x. p (f x)) xs) (filter (λ x. p (f x)) xs))) [
      | true ↦ ap (λ l. f x ∷ l) (filter_mapped p f xs)
      | false ↦ filter_mapped p f xs
    ]
