-- Moves to the front.
use Rattle.std.proofs.Common.{◌≡◌, ℕ, zero, suc, ◌+◌, ◌-◌, ◌<◌, ◌≤◌, List, [], ◌∷◌, ◌++◌, length, get_or, set, take, drop, refl, sym, ◌∙◌, ap, arith}
use Rattle.std.specs.List.{copy_within}
use Rattle.bzip2_reader.specs.Codes.{to_front}

-- one byte more was moved on
pub moved_at : (v : ℕ) (xs : List ℕ) (i : ℕ) → i < length xs → get_or (take i (v ∷ xs) ++ drop i xs) i 0 ≡ get_or xs i 0
moved_at v [] i h = absurd (omega (arith, h))
moved_at v (x ∷ xs) zero h = refl
moved_at v (x ∷ xs) (suc i) h = moved_at x xs i (omega (arith, h))

pub moved_more : (v : ℕ) (xs : List ℕ) (i : ℕ) → i < length xs → set (take i (v ∷ xs) ++ drop i xs) i (get_or (v ∷ xs) i 0) ≡ take (suc i) (v ∷ xs) ++ drop (suc i) xs
moved_more v [] i h = absurd (omega (arith, h))
moved_more v (x ∷ xs) zero h = refl
moved_more v (x ∷ xs) (suc i) h = ap (λ l. v ∷ l) (moved_more x xs i (omega (arith, h)))

pub moved_size : (v : ℕ) (xs : List ℕ) (i : ℕ) → i ≤ length xs → length (take i (v ∷ xs) ++ drop i xs) ≡ length xs
moved_size v xs zero h = refl
moved_size v [] (suc i) h = absurd (omega (arith, h))
moved_size v (x ∷ xs) (suc i) h = omega (arith, moved_size x xs i (omega (arith, h)))

pub moved_block : (v : ℕ) (xs : List ℕ) (place : ℕ) → place < length xs → set (copy_within xs 0 place 1) 0 v ≡ v ∷ (take place xs ++ drop (suc place) xs)
moved_block v [] place h = absurd (omega (arith, h))
moved_block v (x ∷ xs) place h =
    let e : place - 0 ≡ place = omega arith in
    let f : 1 + place ≡ suc place = omega arith in
    ap (λ n. v ∷ (take n (x ∷ xs) ++ drop (1 + n) (x ∷ xs))) e ∙ ap (λ n. v ∷ (take place (x ∷ xs) ++ drop n (x ∷ xs))) f

pub front_at : (n place : ℕ) (xs : List ℕ) → place < n → get_or (take n xs) place 0 ≡ get_or xs place 0
front_at zero place xs h = absurd (omega (arith, h))
front_at (suc n) place [] h = refl
front_at (suc n) zero (x ∷ xs) h = refl
front_at (suc n) (suc place) (x ∷ xs) h = front_at n place xs (omega (arith, h))

front_without : (m place : ℕ) (xs : List ℕ) → place ≤ m → suc m ≤ length xs → take m (take place xs ++ drop (suc place) xs) ≡ take place (take (suc m) xs) ++ drop (suc place) (take (suc m) xs)
front_without m place [] h fits = absurd (omega (arith, fits))
front_without m zero (x ∷ xs) h fits = refl
front_without zero (suc place) (x ∷ xs) h fits = absurd (omega (arith, h))
front_without (suc m) (suc place) (x ∷ xs) h fits = ap (λ l. x ∷ l) (front_without m place xs (omega (arith, h)) (omega (arith, fits)))

-- the front of a list in which a place of the front was moved
pub front_moved : (n place : ℕ) (xs : List ℕ) → place < n → n ≤ length xs → take n (to_front xs place) ≡ to_front (take n xs) place
front_moved zero place xs h fits = absurd (omega (arith, h))
front_moved (suc m) place xs h fits =
    ap (λ l. get_or xs place 0 ∷ l) (front_without m place xs (omega (arith, h)) fits)
    ∙ ap (λ v. v ∷ (take place (take (suc m) xs) ++ drop (suc place) (take (suc m) xs))) (sym (front_at (suc m) place xs h))
