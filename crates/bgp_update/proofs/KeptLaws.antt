-- The bytes of attributes that are kept spell them, and no others.
use Rattle.std.proofs.Common.{◌≡◌, not, ℕ, ◌+◌, ◌<◌, ◌^◌, eqb, take, get_or, List, [], ◌∷◌, ◌++◌, length, Ok, Err, Result, refl, sym, ap, subst, ◌∙◌, append_assoc, length-append, arith}
use Rattle.std.specs.List.{AllByRecursion}
use Rattle.std.specs.Result.{result_unwrap_or}
use Rattle.std.specs.List.{flat_map}
use Rattle.bgp_update.specs.Packing.{keeps_any}
use Rattle.std.proofs.lemmas.List.{append-nil, take_more}
use Rattle.std.proofs.lemmas.List.Concat.{flat_map-cons, flat_map-append}
use Rattle.byteorder.specs.Endian.{big_bytes}
use Rattle.std.proofs.lemmas.Bool.{ne_eqb}
use Rattle.mrt_frame.specs.declared.fault.Fault.{Fault}
use Rattle.mrt_frame.specs.declared.fault.Fault.TheVariants.{ShortAttribute}
use Rattle.mrt_frame.proofs.Items.{ok_is}
use Rattle.mrt_frame.proofs.FieldLaws.{byte_at-again, number_at-again, bytes_at-again}
use Rattle.bgp_update.specs.declared.asked_values.AskedValues.{AskedValues}
use Rattle.bgp_update.specs.KeptAttributes.{KeptValue, all_kept, asked_item}
use Rattle.bgp_update.specs.KeptBytes.{FitsKept, IsShort, kept_item_bytes, kept_bytes, kept_item_at, spelled_values, AreKeptBytes}
use Rattle.bgp_update.specs.Values.{asked_value, values_asked}
use Rattle.bgp_update.proofs.Readings.{items_in-spelled}

pub item_again : (k : KeptValue) (rest : List ℕ) → FitsKept k → kept_item_at (kept_item_bytes k ++ rest) ≡ Ok (k, rest)
unfolding kept_item_at
item_again k rest fits =
    let tail : List ℕ = big_bytes 2 (length k.value) ++ (k.value ++ rest) in
    let regrouped : kept_item_bytes k ++ rest ≡ k.code ∷ tail = ap (λ (t : List ℕ). k.code ∷ t) (append_assoc (big_bytes 2 (length k.value)) k.value rest) in
    ap kept_item_at regrouped
    ∙ rw (byte_at-again ShortAttribute k.code tail, number_at-again ShortAttribute 2 (length k.value) (k.value ++ rest) fits, bytes_at-again ShortAttribute (length k.value) k.value rest refl) refl

item_is_long : (k : KeptValue) → 0 < length (kept_item_bytes k)
item_is_long k = omega arith

pub spelled_values-bytes : (ks : List KeptValue) → AllByRecursion FitsKept ks → spelled_values (kept_bytes ks) ≡ ks
unfolding spelled_values
spelled_values-bytes ks h = ap (λ (r : Result (List KeptValue) Fault). result_unwrap_or r []) (items_in-spelled kept_item_at ShortAttribute kept_item_bytes FitsKept item_is_long item_again ks h)

pub kept-bytes : (ks : List KeptValue) → AllByRecursion FitsKept ks → length (kept_bytes ks) < 256 ^ 4 → AreKeptBytes (kept_bytes ks)
kept-bytes ks h few = record { fits = subst (AllByRecursion FitsKept) (sym (spelled_values-bytes ks h)) h; written = ap kept_bytes (sym (spelled_values-bytes ks h)); few = few }

pub same_kept : (a b : List ℕ) → AreKeptBytes a → AreKeptBytes b → spelled_values a ≡ spelled_values b → a ≡ b
same_kept a b ha hb e = ha.written ∙ ap kept_bytes e ∙ sym hb.written

-- the attribute that comes first
pub record IsNextKept (bytes : List ℕ) (k : KeptValue) (rest : List ℕ) : Type 0 where
  pub first : spelled_values bytes ≡ k ∷ spelled_values rest
  pub kept : AreKeptBytes rest
  pub shorter : length rest < length bytes

first_kept : (bytes : List ℕ) (ks : List KeptValue) (k : KeptValue) (rest : List ℕ) → AllByRecursion FitsKept ks → length bytes < 256 ^ 4 → bytes ≡ kept_bytes ks → spelled_values bytes ≡ ks → kept_item_at bytes ≡ Ok (k, rest) → 0 < length bytes → IsNextKept bytes k rest
first_kept bytes [] k rest h few e is f pos = absurd (omega (arith, pos, ap length e))
first_kept bytes (x ∷ xs) k rest h few e is f pos =
    let parts : bytes ≡ kept_item_bytes x ++ kept_bytes xs = e ∙ flat_map-cons kept_item_bytes x xs in
    let again : kept_item_at bytes ≡ Ok (x, kept_bytes xs) = ap kept_item_at parts ∙ item_again x (kept_bytes xs) h.0 in
    let same : (k, rest) ≡ (x, kept_bytes xs) = ok_is (k, rest) (x, kept_bytes xs) (sym f ∙ again) in
    let rest_is : rest ≡ kept_bytes xs = ap (λ (y : KeptValue × List ℕ). y.1) same in
    record {
      first = is ∙ (λ i. ap (λ (y : KeptValue × List ℕ). y.0) (sym same) i ∷ (sym (spelled_values-bytes xs h.1) ∙ ap spelled_values (sym rest_is)) i);
      kept = subst AreKeptBytes (sym rest_is) (kept-bytes xs h.1 (omega (arith, few, ap length parts, length-append (kept_item_bytes x) (kept_bytes xs))));
      shorter = omega (arith, ap length rest_is, ap length parts, length-append (kept_item_bytes x) (kept_bytes xs), item_is_long x);
    }

pub next_kept : (bytes : List ℕ) (k : KeptValue) (rest : List ℕ) → AreKeptBytes bytes → kept_item_at bytes ≡ Ok (k, rest) → 0 < length bytes → IsNextKept bytes k rest
next_kept bytes k rest h e pos = first_kept bytes (spelled_values bytes) k rest h.fits h.few h.written refl e pos

-- bytes that spell attributes have no fault
pub no_kept_fault : (bytes : List ℕ) (fault : Fault) → AreKeptBytes bytes → 0 < length bytes → kept_item_at bytes ≡ Err fault → ⊥
no_kept_fault bytes fault h pos e = by_values (spelled_values bytes) h.fits h.written
  where
    err_ok : (r : Result (KeptValue × List ℕ) Fault) (x : KeptValue × List ℕ) → r ≡ Err fault → r ≡ Ok x → ⊥
    err_ok r x p q = cc

    by_values : (ks : List KeptValue) → AllByRecursion FitsKept ks → bytes ≡ kept_bytes ks → ⊥
    by_values [] f w = omega (arith, pos, ap length w)
    by_values (x ∷ xs) f w = err_ok (kept_item_at bytes) (x, kept_bytes xs) e (ap kept_item_at (w ∙ flat_map-cons kept_item_bytes x xs) ∙ item_again x (kept_bytes xs) f.0)

pub no_kept_left : (bytes : List ℕ) → AreKeptBytes bytes → length bytes ≡ 0 → spelled_values bytes ≡ []
no_kept_left bytes h e = by_values (spelled_values bytes) h.written
  where
    by_values : (ks : List KeptValue) → bytes ≡ kept_bytes ks → ks ≡ []
    by_values [] w = refl
    by_values (x ∷ xs) w = absurd (omega (arith, e, ap length w))

-- ---- values that are asked for

-- the bytes of items, one attribute after the other
pub bytes_of_items : {A : Type 0} (item : A → List KeptValue) (xs : List A) → flat_map (λ x. kept_bytes (item x)) xs ≡ kept_bytes (flat_map item xs)
bytes_of_items item [] = refl
bytes_of_items item (x ∷ xs) =
    flat_map-cons (λ y. kept_bytes (item y)) x xs ∙ ap (λ (t : List ℕ). kept_bytes (item x) ++ t) (bytes_of_items item xs)
    ∙ sym (flat_map-append kept_item_bytes (item x) (flat_map item xs)) ∙ ap kept_bytes (sym (flat_map-cons item x xs))

-- one more item
pub flat_map_more : {A B : Type 0} (f : A → List B) (xs : List A) (i : ℕ) (d : A) → i < length xs → flat_map f (take (i + 1) xs) ≡ flat_map f (take i xs) ++ f (get_or xs i d)
flat_map_more {A} {B} f xs i d h =
    ap (flat_map f) (take_more xs i d h) ∙ flat_map-append f (take i xs) (get_or xs i d ∷ []) ∙ ap (λ (t : List B). flat_map f (take i xs) ++ t) (flat_map-cons f (get_or xs i d) [] ∙ append-nil (f (get_or xs i d)))

pub bytes_of_all : (kept : AskedValues) → flat_map (λ a. kept_bytes (asked_item kept.asked (asked_value kept) a)) all_kept ≡ kept_bytes (values_asked kept)
bytes_of_all kept = bytes_of_items (asked_item kept.asked (asked_value kept)) all_kept

-- ---- whether any is kept

pub any_kept : (bytes : List ℕ) → AreKeptBytes bytes → not (eqb (length bytes) 0) ≡ keeps_any (spelled_values bytes)
any_kept bytes h = by_values (spelled_values bytes) h.written
  where
    by_values : (ks : List KeptValue) → bytes ≡ kept_bytes ks → not (eqb (length bytes) 0) ≡ keeps_any ks
    by_values [] w = ap (λ (n : ℕ). not (eqb n 0)) (ap length w)
    by_values (x ∷ xs) w = ap not (ne_eqb (length bytes) 0 (λ e. absurd (omega (arith, e, ap length w))))

pub no_kept_bytes : AreKeptBytes []
no_kept_bytes = kept-bytes [] tt (omega arith)

-- the first attribute that is kept is as short as all
pub first_is_short : (bytes : List ℕ) (k : KeptValue) (ks : List KeptValue) → AreKeptBytes bytes → spelled_values bytes ≡ k ∷ ks → IsShort k.value
first_is_short bytes k ks h e = (subst (λ (l : List KeptValue). AllByRecursion FitsKept l) e h.fits).0
