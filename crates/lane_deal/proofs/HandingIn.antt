-- Sessions that are handed in, or given back.
use Rattle.std.proofs.Common.{◌≡◌, ℕ, suc, ◌+◌, ◌<◌, List, [], ◌∷◌, ◌++◌, length, map, get_or, refl, sym, ap, ◌∙◌, arith, take, drop}
use Rattle.std.proofs.Math.Seq.{take-append_seam}
use Rattle.std.specs.List.{flat_map}
use Rattle.std.proofs.lemmas.List.{get_or_default}
use Rattle.std.proofs.lemmas.List.Folds.{flat_map-map}
use Rattle.lane_deal.specs.Collecting.{Exchanged}
use Rattle.lane_deal.specs.Pairs.{ChangedBelow}

-- lists whose items give the same
pub map_each : {X Y Z : Type 0} (f : X → Z) (g : Y → Z) (xs : List X) (ys : List Y) → length xs ≡ length ys → ((k : ℕ) (d : X) (e : Y) → k < length xs → f (get_or xs k d) ≡ g (get_or ys k e)) → map f xs ≡ map g ys
map_each f g [] [] e h = refl
map_each f g [] (y ∷ ys) e h = absurd (omega arith)
map_each f g (x ∷ xs) [] e h = absurd (omega arith)
map_each f g (x ∷ xs) (y ∷ ys) e h =
    ap (λ z. z ∷ map f xs) (h 0 x y (omega arith)) ∙ ap (λ l. g y ∷ l) (map_each f g xs ys (omega arith) (λ k a b l. h (suc k) a b (omega arith)))

pub flat_each : {X Y Z : Type 0} (f : X → List Z) (g : Y → List Z) (xs : List X) (ys : List Y) → length xs ≡ length ys → ((k : ℕ) (d : X) (e : Y) → k < length xs → f (get_or xs k d) ≡ g (get_or ys k e)) → flat_map f xs ≡ flat_map g ys
flat_each f g xs ys e h = sym (flat_map-map (λ l. l) f xs) ∙ ap (flat_map (λ l. l)) (map_each f g xs ys e h) ∙ flat_map-map (λ l. l) g ys

module _ {L S X : Type 0} (state : L → S) (held : S → List X) (with_held : S → List X → S) where
  -- what is handed in is what the lanes held
  pub handed_in : {Y : Type 0} (seat : X → Y) (ws ws' : List L) (ls ls' : List (List X)) → length ls ≡ length ws → ChangedBelow (Exchanged state held with_held) (length ws) ws ws' ls ls' → flat_map (λ l. map seat l) ls' ≡ flat_map (λ w. map seat (held (state w))) ws
  handed_in seat ws ws' ls ls' e p =
      flat_each (λ l. map seat l) (λ w. map seat (held (state w))) ls' ws (p.seconds_count ∙ e)
      (λ k d x l. ap (map seat) (p.each k x d (let c = p.seconds_count in omega arith)).given)

  -- and is given back
  pub given_back : ((s : S) (l : List X) → with_held (with_held s l) (held s) ≡ s) → (ws ws' ws₂ : List L) (ls ls' ls₂ : List (List X)) → length ls ≡ length ws
      → ChangedBelow (Exchanged state held with_held) (length ws) ws ws' ls ls' → ChangedBelow (Exchanged state held with_held) (length ws') ws' ws₂ ls' ls₂ → map state ws₂ ≡ map state ws
  given_back back ws ws' ws₂ ls ls' ls₂ e p q =
      map_each state state ws₂ ws (q.firsts_count ∙ p.firsts_count)
      (λ k d x l.
      let a : k < length ws = (let c = p.firsts_count in let c' = q.firsts_count in omega arith) in
      let b : k < length ws' = (let c = p.firsts_count in omega arith) in
      let one = p.each k x [] a in
      let two = q.each k d [] b in
      let same : get_or ws' k d ≡ get_or ws' k x = get_or_default ws' k d x b in
      two.got ∙ ap (with_held (state (get_or ws' k d))) one.given ∙ ap (λ s. with_held s (held (state (get_or ws k x)))) (ap state same ∙ one.got) ∙ back (state (get_or ws k x)) (get_or ls k []))

-- the items of a list after a call that was given them
pub items_now : {X : Type 0} (n : ℕ) (xs ys : List X) → length xs ≡ n → take n (xs ++ drop (length xs) ys) ≡ xs
items_now n xs ys e = ap (λ m. take m (xs ++ drop (length xs) ys)) (sym e) ∙ take-append_seam xs (drop (length xs) ys)
