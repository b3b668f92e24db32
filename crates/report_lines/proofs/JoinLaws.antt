-- Texts joined by a byte, or end to end.
use Rattle.std.proofs.Common.{◌≡◌, ℕ, ◌<◌, ◌≤◌, List, [], ◌∷◌, ◌++◌, sym, ap, ◌∙◌, append-nil, append_assoc, length, get_or, take, drop, take_all, take-append-drop, map, ◌+◌, ◌-◌, true, refl, arith, take-add}
use Rattle.std.specs.List.{flat_map, between, join_with_byte}
use Rattle.std.proofs.lemmas.Slice.{first_rest, between_to_end}
use Rattle.std.proofs.lemmas.List.{take_more, flat_map_more, drop-drop}
use Rattle.std.proofs.lemmas.List.Edits.{between_more, between_none, length-between}
use Rattle.std.proofs.lemmas.List.Concat.{flat_map-append}
use Rattle.report_lines.specs.Texts.{TextState, Adds}
use Rattle.ip_text.specs.Formats.{Formats}
use Rattle.report_lines.proofs.TextLaws.{Adds_trans, Adds_as, Adds_dropped}
use Rattle.ip_text.proofs.FormatLaws.{Formats_trans, Formats_as}

pub join-cons : {X : Type 0} (sep : ℕ) (f : X → List ℕ) (x : X) (xs : List X) → join_with_byte sep (map f (x ∷ xs)) ≡ f x ++ flat_map (λ y. sep ∷ f y) xs
join-cons sep f x [] = sym (append-nil (f x))
join-cons sep f x (y ∷ xs) = ap (λ l. f x ++ (sep ∷ l)) (join-cons sep f y xs)

-- two ranges, one behind the other
pub between_join : {X : Type 0} (xs : List X) (i j k : ℕ) → i ≤ j → j ≤ k → between i j xs ++ between j k xs ≡ between i k xs
between_join xs i j k ij jk =
    let reach : i + (j - i) ≡ j = omega arith in
    let whole : (j - i) + (k - j) ≡ k - i = omega arith in
    ap (λ m. take (j - i) (drop i xs) ++ take (k - j) (drop m xs)) (sym reach)
    ∙ ap (λ l. take (j - i) (drop i xs) ++ take (k - j) l) (sym (drop-drop (j - i) i xs))
    ∙ sym (take-add (j - i) (k - j) (drop i xs)) ∙ ap (λ m. take m (drop i xs)) whole

-- some of them, and then each of the others behind the byte
join_more : {X : Type 0} (sep : ℕ) (f : X → List ℕ) (xs ys : List X) → 0 < length xs → join_with_byte sep (map f (xs ++ ys)) ≡ join_with_byte sep (map f xs) ++ flat_map (λ y. sep ∷ f y) ys
join_more sep f [] ys some = absurd (omega (arith, some))
join_more sep f (x ∷ xs) ys some =
    join-cons sep f x (xs ++ ys) ∙ ap (λ l. f x ++ l) (flat_map-append (λ y. sep ∷ f y) xs ys) ∙ sym (append_assoc (f x) (flat_map (λ y. sep ∷ f y) xs) (flat_map (λ y. sep ∷ f y) ys))
    ∙ ap (λ l. l ++ flat_map (λ y. sep ∷ f y) ys) (sym (join-cons sep f x xs))

join_range : {X : Type 0} (sep : ℕ) (f : X → List ℕ) (xs : List X) (i j k : ℕ) → i < j → j ≤ k → j ≤ length xs
    → join_with_byte sep (map f (between i j xs)) ++ flat_map (λ y. sep ∷ f y) (between j k xs) ≡ join_with_byte sep (map f (between i k xs))
join_range sep f xs i j k ij jk within =
    sym (join_more sep f (between i j xs) (between j k xs) (omega (arith, length-between xs i j within))) ∙ ap (λ l. join_with_byte sep (map f l)) (between_join xs i j k (omega arith) jk)

between_one : {X : Type 0} (xs : List X) (i : ℕ) (d : X) → i < length xs → between i (i + 1) xs ≡ get_or xs i d ∷ []
between_one xs i d below = between_more xs i i d (omega arith) below ∙ ap (λ l. l ++ get_or xs i d ∷ []) (between_none xs i)

-- the first of a range, and then each of the others behind the byte
pub join_first : {X : Type 0} (sep : ℕ) (f : X → List ℕ) (xs : List X) (i k : ℕ) (d : X) → i < k → k ≤ length xs → f (get_or xs i d) ++ flat_map (λ y. sep ∷ f y) (between (i + 1) k xs) ≡ join_with_byte sep (map f (between i k xs))
join_first sep f xs i k d ik within =
    ap (λ l. join_with_byte sep (map f l) ++ flat_map (λ y. sep ∷ f y) (between (i + 1) k xs)) (sym (between_one xs i d (omega arith))) ∙ join_range sep f xs i (i + 1) k (omega arith) (omega arith) (omega arith)

-- the first ones, and then each of the others behind the byte
pub join_all : {X : Type 0} (sep : ℕ) (f : X → List ℕ) (xs : List X) (j : ℕ) → 0 < j → j ≤ length xs → join_with_byte sep (map f (between 0 j xs)) ++ flat_map (λ y. sep ∷ f y) (between j (length xs) xs) ≡ join_with_byte sep (map f xs)
join_all sep f xs j some within = join_range sep f xs 0 j (length xs) some within within ∙ ap (λ l. join_with_byte sep (map f l)) (between_to_end xs 0 (length xs) (omega arith))

-- items with the byte between them, behind the byte
behind_all : {X : Type 0} (sep : ℕ) (f : X → List ℕ) (xs : List X) → 0 < length xs → sep ∷ join_with_byte sep (map f xs) ≡ flat_map (λ y. sep ∷ f y) xs
behind_all sep f [] some = absurd (omega (arith, some))
behind_all sep f (x ∷ xs) some = ap (λ l. sep ∷ l) (join-cons sep f x xs)

-- a loop's step: the pieces of a range of items, each behind the byte
pub Adds_joined : {X : Type 0} {s t u : TextState} (sep : ℕ) (f : X → List ℕ) (xs : List X) (i j k : ℕ) → i ≤ j → j < k → k ≤ length xs
    → Adds s t (flat_map (λ y. sep ∷ f y) (between i j xs)) → Adds t u (sep ∷ join_with_byte sep (map f (between j k xs))) → Adds s u (flat_map (λ y. sep ∷ f y) (between i k xs))
Adds_joined sep f xs i j k ij jk within before one =
    let last = behind_all sep f (between j k xs) (omega (arith, length-between xs j k within)) in
    Adds_as (sym (flat_map-append (λ y. sep ∷ f y) (between i j xs) (between j k xs)) ∙ ap (flat_map (λ y. sep ∷ f y)) (between_join xs i j k ij (omega arith))) (Adds_trans before (Adds_as last one))

-- the first one, and then each of the rest behind the byte
pub join_first_between : {X : Type 0} (sep : ℕ) (f : X → List ℕ) (xs : List X) (d : X) → 0 < length xs → f (get_or xs 0 d) ++ flat_map (λ y. sep ∷ f y) (between 1 (length xs) xs) ≡ join_with_byte sep (map f xs)
join_first_between sep f xs d some = sym (join-cons sep f (get_or xs 0 d) (between 1 (length xs) xs)) ∙ ap (λ l. join_with_byte sep (map f l)) (sym (first_rest xs d some))

-- the same of a loop over the rest
pub join_first_rest : {X : Type 0} (sep : ℕ) (f : X → List ℕ) (xs : List X) (d : X) (n : ℕ) → 0 < length xs → length (between 1 (length xs) xs) ≤ n
    → f (get_or xs 0 d) ++ flat_map (λ y. sep ∷ f y) (take n (between 1 (length xs) xs)) ≡ join_with_byte sep (map f xs)
join_first_rest sep f xs d n some all = ap (λ l. f (get_or xs 0 d) ++ flat_map (λ y. sep ∷ f y) l) (take_all n (between 1 (length xs) xs) all) ∙ join_first_between sep f xs d some

-- a loop's step: the piece of one more item
pub Adds_item : {X : Type 0} {s t u : TextState} (f : X → List ℕ) (xs : List X) (i : ℕ) (x : X) → i < length xs → x ≡ get_or xs i x → Adds s t (flat_map f (take i xs)) → Adds t u (f x)
    → Adds s u (flat_map f (take (i + 1) xs))
Adds_item f xs i x below at before one =
    let joined = flat_map_more f [] (take i xs) x in
    Adds_as (joined ∙ ap (λ y. flat_map f (take i xs ++ y ∷ [])) at ∙ sym (ap (flat_map f) (take_more xs i x below))) (Adds_trans before one)

-- the piece of one item, as that of a range
pub Adds_one : {X : Type 0} {s t : TextState} (f : X → List ℕ) (xs : List X) (i : ℕ) (x : X) → i < length xs → x ≡ get_or xs i x → Adds s t (f x) → Adds s t (flat_map f (between i (i + 1) xs))
Adds_one f xs i x below at one = Adds_as (sym (ap (flat_map f) (between_one xs i x below ∙ ap (λ y. y ∷ []) (sym at)) ∙ append-nil (f x))) one

-- the same of a block, in a loop that begins at a later item
pub Formats_later_item : {X : Type 0} {a b c : List ℕ} {at mid end m n : ℕ} (f : X → List ℕ) (xs : List X) (from i : ℕ) (x d : X) → from ≤ i → i < length xs → x ≡ get_or xs i d
    → Formats a at b mid m (flat_map f (between from i xs)) → Formats b mid c end n (f x) → Formats a at c end (m + n) (flat_map f (between from (i + 1) xs))
Formats_later_item f xs from i x d le below at before one =
    let joined = flat_map_more f [] (between from i xs) x in
    Formats_as (joined ∙ ap (λ y. flat_map f (between from i xs ++ y ∷ [])) at ∙ sym (ap (flat_map f) (between_more xs from i d le below))) (Formats_trans before one)

-- after a loop: the pieces of all items
pub Adds_items : {X : Type 0} {s t : TextState} (f : X → List ℕ) (xs : List X) (n : ℕ) → length xs ≤ n → Adds s t (flat_map f (take n xs)) → Adds s t (flat_map f xs)
Adds_items f xs n all done = Adds_as (ap (flat_map f) (take_all n xs all)) done

-- after a failure no item's piece is missed
pub Adds_failed : {X : Type 0} {s t : TextState} (f : X → List ℕ) (xs : List X) (n : ℕ) → Adds s t (flat_map f (take n xs)) → t.buffer.failed ≡ true → Adds s t (flat_map f xs)
Adds_failed f xs n done lost =
    Adds_as (sym (flat_map-append f (take n xs) (drop n xs)) ∙ ap (flat_map f) (take-append-drop n xs)) (Adds_trans done (Adds_dropped refl lost refl refl lost))

-- a loop's step: the pieces of a range of items
pub Adds_range : {X : Type 0} {s t u : TextState} (f : X → List ℕ) (xs : List X) (m n : ℕ) → m ≤ n → Adds s t (flat_map f (take m xs)) → Adds t u (flat_map f (between m n xs)) → Adds s u (flat_map f (take n xs))
Adds_range f xs m n le before one =
    let same : m + (n - m) ≡ n = omega arith in
    Adds_as (sym (flat_map-append f (take m xs) (between m n xs)) ∙ ap (flat_map f) (sym (take-add m (n - m) xs) ∙ ap (λ k. take k xs) same)) (Adds_trans before one)
