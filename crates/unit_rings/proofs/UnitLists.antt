-- Lists of units, and how many units wait in a ring of lists.
use Rattle.std.proofs.Common.{◌≡◌, ℕ, ◌+◌, ◌-◌, ◌<◌, ◌≤◌, List, [], ◌∷◌, ◌++◌, length, map, take, drop, refl, sym, ap, ◌∙◌, subst, arith, length-append, length-drop, take-append-drop}
use Rattle.std.specs.List.{AllByRecursion}
use Rattle.std.proofs.lemmas.List.{append-nil, length-map, map-append, drop-map, drop-drop, drop-append-le}
use Rattle.std.proofs.lemmas.List.Sums.{sum_by-append, sum_by-cons}
use Rattle.std.proofs.lemmas.List.Concat.{length-flat_map}
use Rattle.std.proofs.lemmas.List.Folds.{fold-map}
use Rattle.std.proofs.lemmas.Grind.{flat_map-append}
use Rattle.std.proofs.Math.Seq.{drop-append_seam}
use Rattle.unit_rings.specs.Plain.{UnitList}
use Rattle.unit_rings.specs.UnitLists.{units_of, units_of_lists, list_length, AreLastLengths, total}
use Rattle.unit_rings.proofs.Lists.{all_push, back_of}

-- ---- lengths

pub total-push : (xs : List ℕ) (n : ℕ) → total (xs ++ n ∷ []) ≡ total xs + n
total-push xs n = let e = sum_by-append (λ m. m) xs (n ∷ []) in omega arith

-- no list is empty, so there are no more lists than units
pub count_le_total : (xs : List ℕ) → AllByRecursion (λ n. 0 < n) xs → length xs ≤ total xs
count_le_total [] p = omega arith
count_le_total (x ∷ xs) p = let h = count_le_total xs p.1 in let g = p.0 in let e = sum_by-cons (λ n. n) x xs in omega arith

pub all_drop : {X : Type 0} (P : X → Type 0) (k : ℕ) (xs : List X) → AllByRecursion P xs → AllByRecursion P (drop k xs)
all_drop P k xs p = back_of P (take k xs) (drop k xs) (subst (AllByRecursion P) (sym (take-append-drop k xs)) p)

pub some_push : (xs : List ℕ) (n : ℕ) → 0 < n → AllByRecursion (λ n. 0 < n) xs → AllByRecursion (λ n. 0 < n) (xs ++ n ∷ [])
some_push xs n l p = all_push (λ n. 0 < n) xs (n ∷ []) p (l, tt)

-- ---- the lengths of the last lists

pub last_none : (lengths : List ℕ) (lists : List UnitList) → lengths ≡ [] → lists ≡ [] → AreLastLengths lengths lists
last_none [] [] none empty = refl
last_none [] (x ∷ xs) none empty = absurd (cc)
last_none (n ∷ ns) lists none empty = absurd (cc)

pub last_fit : (lengths : List ℕ) (lists : List UnitList) → AreLastLengths lengths lists → length lengths ≤ length lists
last_fit lengths lists h =
    let n = ap length h in
    let m = length-map (drop (length lists - length lengths) lists) (λ list. list_length list) in
    let k = length-drop (length lists - length lengths) lists in
    omega arith

pub last_pushed : (lengths : List ℕ) (lists : List UnitList) (x : UnitList) → AreLastLengths lengths lists → AreLastLengths (lengths ++ list_length x ∷ []) (lists ++ x ∷ [])
last_pushed lengths lists x h =
    let n = length lists - length lengths in
    let same : length (lists ++ x ∷ []) - length (lengths ++ list_length x ∷ []) ≡ n = (let a = length-append lists (x ∷ []) in let b = length-append lengths (list_length x ∷ []) in omega arith) in
    ap (λ k. map (λ list. list_length list) (drop k (lists ++ x ∷ []))) same
    ∙ (ap (λ l. map (λ list. list_length list) l) (drop-append-le n lists (x ∷ []) (omega arith))
    ∙ (map-append (λ list. list_length list) (drop n lists) (x ∷ []) ∙ ap (λ l. l ++ list_length x ∷ []) h))

pub last_dropped : (k : ℕ) (lengths : List ℕ) (lists : List UnitList) → k ≤ length lengths → AreLastLengths lengths lists → AreLastLengths (drop k lengths) lists
last_dropped k lengths lists l h =
    let n = length lists - length lengths in
    let fit = last_fit lengths lists h in
    let same : length lists - length (drop k lengths) ≡ n + k = (let a = length-drop k lengths in omega arith) in
    ap (λ m. map (λ list. list_length list) (drop m lists)) same
    ∙ (ap (λ l. map (λ list. list_length list) l) (sym (drop-drop k n lists)) ∙ (sym (drop-map (λ list. list_length list) k (drop n lists)) ∙ ap (drop k) h))

-- ---- their units

pub units_pushed : (lists : List UnitList) (x : UnitList) → units_of_lists (lists ++ x ∷ []) ≡ units_of_lists lists ++ units_of x
units_pushed lists x = flat_map-append (λ list. units_of list) lists (x ∷ []) ∙ ap (λ l. units_of_lists lists ++ l) (append-nil (units_of x))

pub units_appended : (xs ys : List UnitList) → units_of_lists (xs ++ ys) ≡ units_of_lists xs ++ units_of_lists ys
units_appended xs ys = flat_map-append (λ list. units_of list) xs ys

pub units_counted : (lists : List UnitList) → length (units_of_lists lists) ≡ total (map (λ list. list_length list) lists)
units_counted lists = length-flat_map (λ list. units_of list) lists ∙ sym (fold-map (λ n m. n + m) (λ list. list_length list) 0 lists)

-- the lists that are left of those that were received are those whose lengths are kept
pub waiting_total : (lengths : List ℕ) (lists received known : List UnitList) → AreLastLengths lengths lists → received ++ known ≡ lists → length lengths ≡ length known → length (units_of_lists known) ≡ total lengths
waiting_total lengths lists received known h whole count =
    let n : length lists - length lengths ≡ length received = (let a = ap length whole in let b = length-append received known in omega arith) in
    let rest : drop (length lists - length lengths) lists ≡ known = ap (λ k. drop k lists) n ∙ (ap (drop (length received)) (sym whole) ∙ drop-append_seam received known) in
    units_counted known ∙ ap total (ap (map (λ list. list_length list)) (sym rest) ∙ h)

-- ---- room

-- where a list has room, a slot is free for it
pub slot_for : (ls : List ℕ) (free slots capacity n : ℕ) → AllByRecursion (λ n. 0 < n) ls → capacity ≤ length ls + slots → free + total ls + 0 ≡ capacity → 0 < n → n ≤ free → 0 < slots
slot_for ls free slots capacity n some count room l fits = let h = count_le_total ls some in omega arith

-- the next of the lists has room where all of them have
pub fits_next : (rest lists : List UnitList) (x : UnitList) (k free before : ℕ) → x ∷ rest ≡ drop k lists → length (units_of_lists lists) ≤ before → before ≡ free + length (units_of_lists (take k lists)) → length (units_of x) ≤ free
fits_next rest lists x k free before at all used =
    let whole : units_of_lists lists ≡ units_of_lists (take k lists) ++ units_of_lists (x ∷ rest) =
    ap units_of_lists (sym (take-append-drop k lists) ∙ ap (λ l. take k lists ++ l) (sym at)) ∙ units_appended (take k lists) (x ∷ rest) in
    let first = ap length (units_appended (x ∷ []) rest) in
    let a = ap length whole in
    let b = length-append (units_of_lists (take k lists)) (units_of_lists (x ∷ rest)) in
    let c = length-append (units_of_lists (x ∷ [])) (units_of_lists rest) in
    let d = ap length (append-nil (units_of x)) in
    omega arith
