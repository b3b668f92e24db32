-- What f makes of each item of a list and those before it: of some of the items, of some of what it makes, and of its
-- counts.
use Rattle.std.proofs.Common.{◌≡◌, ◌+◌, Bool, true, false, cond, List, [], ◌∷◌, ◌++◌, refl, sym, ap, ◌∙◌, append_assoc, append-nil}
use Rattle.std.specs.List.{count_by, filter}
use Rattle.std.proofs.lemmas.List.Elements.{filter-append}
use Rattle.std.proofs.lemmas.List.Sums.{sum_by-append}
use Rattle.mrt_frame.specs.Positions.{flat_map_after}

-- of a list in two
pub after_both : {A B : Type 0} (f : List A → A → List B) (before xs ys : List A) → flat_map_after f before (xs ++ ys) ≡ flat_map_after f before xs ++ flat_map_after f (before ++ xs) ys
after_both f before [] ys = ap (λ b. flat_map_after f b ys) (sym (append-nil before))
after_both f before (x ∷ xs) ys =
    ap (λ r. f before x ++ r) (after_both f (before ++ x ∷ []) xs ys)
    ∙ sym (append_assoc (f before x) (flat_map_after f (before ++ x ∷ []) xs) (flat_map_after f ((before ++ x ∷ []) ++ xs) ys))
    ∙ ap (λ b. (f before x ++ flat_map_after f (before ++ x ∷ []) xs) ++ flat_map_after f b ys) (append_assoc before (x ∷ []) xs)

-- of what f makes itself, where h is what it makes of all items before
pub after_twice : {A B C : Type 0} (f : List A → A → List B) (g : List B → B → List C) (h : List A → List B) (more : (b : List A) (x : A) → h (b ++ x ∷ []) ≡ h b ++ f b x) (before xs : List A)
    → flat_map_after (λ b x. flat_map_after g (h b) (f b x)) before xs ≡ flat_map_after g (h before) (flat_map_after f before xs)
after_twice f g h more before [] = refl
after_twice f g h more before (x ∷ xs) =
    ap (λ r. flat_map_after g (h before) (f before x) ++ r) (after_twice f g h more (before ++ x ∷ []) xs ∙ ap (λ b. flat_map_after g b (flat_map_after f (before ++ x ∷ []) xs)) (more before x))
    ∙ sym (after_both g (h before) (f before x) (flat_map_after f (before ++ x ∷ []) xs))

-- of some of the items
pub after_filter : {A B : Type 0} (p : A → Bool) (f g : List A → A → List B) (same : (b : List A) (x : A) → cond (p x) (f (filter p b) x) [] ≡ g b x) (before xs : List A)
    → flat_map_after f (filter p before) (filter p xs) ≡ flat_map_after g before xs
after_filter p f g same before [] = refl
after_filter p f g same before (x ∷ xs) =
    let on = filter-append p before (x ∷ []) in
    let rest = after_filter p f g same (before ++ x ∷ []) xs in
    elim (p x) as (λ b. p x ≡ b → flat_map_after f (filter p before) (cond b (x ∷ filter p xs) (filter p xs)) ≡ cond b (f (filter p before) x) [] ++ flat_map_after g (before ++ x ∷ []) xs) [
      | true ↦ λ taken. ap (λ l. f (filter p before) x ++ flat_map_after f l (filter p xs)) (ap (λ b. filter p before ++ cond b (x ∷ []) []) (sym taken) ∙ sym on) ∙ ap (λ l. f (filter p before) x ++ l) rest
      | false ↦ λ left. ap (λ l. flat_map_after f l (filter p xs)) (sym (append-nil (filter p before)) ∙ ap (λ b. filter p before ++ cond b (x ∷ []) []) (sym left) ∙ sym on) ∙ rest
    ] refl
    ∙ ap (λ l. l ++ flat_map_after g (before ++ x ∷ []) xs) (same before x)

-- some of what f makes
pub filter_after : {A B : Type 0} (q : B → Bool) (f : List A → A → List B) (before xs : List A) → filter q (flat_map_after f before xs) ≡ flat_map_after (λ b x. filter q (f b x)) before xs
filter_after q f before [] = refl
filter_after q f before (x ∷ xs) =
    filter-append q (f before x) (flat_map_after f (before ++ x ∷ []) xs) ∙ ap (λ l. filter q (f before x) ++ l) (filter_after q f (before ++ x ∷ []) xs)

-- as many of what f makes as of what g makes
pub counts_after : {A B C : Type 0} (p : B → Bool) (q : C → Bool) (f : List A → A → List B) (g : List A → A → List C) (same : (b : List A) (x : A) → count_by p (f b x) ≡ count_by q (g b x)) (before xs : List A)
    → count_by p (flat_map_after f before xs) ≡ count_by q (flat_map_after g before xs)
counts_after p q f g same before [] = refl
counts_after p q f g same before (x ∷ xs) =
    sum_by-append (λ y. cond (p y) 1 0) (f before x) (flat_map_after f (before ++ x ∷ []) xs)
    ∙ (λ i. same before x i + counts_after p q f g same (before ++ x ∷ []) xs i)
    ∙ sym (sum_by-append (λ y. cond (q y) 1 0) (g before x) (flat_map_after g (before ++ x ∷ []) xs))

pub after_itself : {A : Type 0} (before xs : List A) → flat_map_after (λ _ x. x ∷ []) before xs ≡ xs
after_itself before [] = refl
after_itself {A = A} before (x ∷ xs) = ap (λ (l : List A). x ∷ l) (after_itself (before ++ x ∷ []) xs)
