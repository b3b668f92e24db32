-- The header of a message that is read is the one that was written, and what was written is read again.
use Rattle.std.proofs.Common.{◌≡◌, ℕ, ◌+◌, ◌^◌, ◌<◌, ◌≤◌, Bool, true, false, cond, eqb, ltb, List, [], ◌∷◌, ◌++◌, length, get_or, take, drop, Ok, Err, refl, sym, ap, subst, ◌∙◌, arith, eq-eqb}
use Rattle.std.specs.Prelude.{slice_index, replicate}
use Rattle.std.specs.List.{list_all}
use Rattle.std.proofs.lemmas.Bool.{ltb-false, le-ltb, eqb-true}
use Rattle.std.proofs.lemmas.Bool.Decides.{nat_tests}
use Rattle.std.proofs.lemmas.List.{take-append-drop, length-append, length-drop, length-take, get_or-drop, drop-drop}
use Rattle.byteorder.specs.Endian.{big_number, big_bytes}
use Rattle.byteorder.specs.Numbers.{big_number-reads_back, length-bytes_high_first, big_from-lt}
use Rattle.mrt_frame.specs.declared.fault.Fault.{Fault}
use Rattle.mrt_frame.specs.declared.fault.Fault.TheVariants.{BadMarker, BadLength}
use Rattle.mrt_frame.proofs.FieldLaws.{IsBytes, IsBytes-drop, two_bytes}
use Rattle.peer_units.specs.Events.{marker, message_bytes, message_in}

-- what is read is never a fault
pub ok_never : {A P : Type 0} (x : A) (fault : Fault) → Ok x ≡ Err fault → P
ok_never x fault e = absurd cc

-- a list whose numbers are all 255
all_ones : (xs : List ℕ) → list_all (λ b. eqb b 255) xs ≡ true → xs ≡ replicate (length xs) 255
all_ones [] e = refl
all_ones (x ∷ xs) e = grind (arith, nat_tests, all_ones xs)

-- the tests that a header passes
passes : {A : Type 0} (a b c : Bool) (d e f : Fault) (x y : A) → cond a (Err d) (cond b (cond c (Ok x) (Err e)) (Err f)) ≡ Ok y → (a ≡ false) × (b ≡ true) × (c ≡ true) × (x ≡ y)
passes true b c d e f x y h = absurd cc
passes false true true d e f x y h = (refl, refl, refl, cc)
passes false true false d e f x y h = absurd cc
passes false false c d e f x y h = absurd cc

-- length 2 and type 1 before the body
header_parts : (bytes : List ℕ) → 3 ≤ length bytes → bytes ≡ take 2 bytes ++ (get_or bytes 2 0 ∷ drop 3 bytes)
header_parts [] le = absurd (omega (arith, le))
header_parts (a ∷ []) le = absurd (omega (arith, le))
header_parts (a ∷ b ∷ []) le = absurd (omega (arith, le))
header_parts (a ∷ b ∷ c ∷ bytes) le = refl

pub record TakesMessage (bytes : List ℕ) (kind : ℕ) (body : List ℕ) : Type 0 where
  pub spelled : bytes ≡ message_bytes kind body
  pub small : 19 + length body < 256 ^ 2

spelled_message : (ones rest bytes : List ℕ) → bytes ≡ ones ++ rest → ones ≡ marker → IsBytes rest → 3 ≤ length rest → big_number 2 rest ≡ 16 + length rest → TakesMessage bytes (get_or rest 2 0) (drop 3 rest)
spelled_message ones rest bytes whole same fine long number =
    let body : 19 + length (drop 3 rest) ≡ 16 + length rest = omega (arith, long, length-drop 3 rest) in
    let two : take 2 rest ≡ big_bytes 2 (19 + length (drop 3 rest)) = sym (ap (big_bytes 2) (body ∙ sym number) ∙ two_bytes rest (omega (arith, long)) fine) in
    record {
      spelled = whole ∙ ap (λ (l : List ℕ). l ++ rest) same ∙ ap (λ (l : List ℕ). marker ++ l) (header_parts rest long ∙ ap (λ (l : List ℕ). l ++ (get_or rest 2 0 ∷ drop 3 rest)) two);
      small = subst (λ (n : ℕ). n < 256 ^ 2) (number ∙ sym body) (big_from-lt 0 2 rest fine);
    }

pub message_takes : (bytes : List ℕ) (x : ℕ × List ℕ) → IsBytes bytes → message_in bytes ≡ Ok x → TakesMessage bytes x.0 x.1
unfolding message_in
message_takes bytes x fine e =
    let p = passes (ltb (length bytes) 19) (list_all (λ b. eqb b 255) (take 16 bytes)) (eqb (big_number 2 (drop 16 bytes)) (length bytes)) BadLength BadLength BadMarker (slice_index bytes 18, drop 19 bytes) x e in
    let long : 19 ≤ length bytes = ltb-false _ _ p.0 in
    let front : length (take 16 bytes) ≡ 16 = omega (arith, long, length-take 16 bytes) in
    let ones : take 16 bytes ≡ marker = all_ones (take 16 bytes) p.1 ∙ ap (λ (n : ℕ). replicate n 255) front in
    let number : big_number 2 (drop 16 bytes) ≡ 16 + length (drop 16 bytes) = eqb-true _ _ p.2 ∙ omega (arith, long, length-drop 16 bytes) in
    let t = spelled_message (take 16 bytes) (drop 16 bytes) bytes (sym (take-append-drop 16 bytes)) ones (IsBytes-drop 16 bytes fine) (omega (arith, long, length-drop 16 bytes)) number in
    let kind : get_or (drop 16 bytes) 2 0 ≡ slice_index bytes 18 = get_or-drop 16 bytes 2 0 in
    let body : drop 3 (drop 16 bytes) ≡ drop 19 bytes = drop-drop 3 16 bytes in
    subst (λ (y : ℕ × List ℕ). TakesMessage bytes y.0 y.1) p.3 (subst (λ (k : ℕ). TakesMessage bytes k (drop 19 bytes)) kind (subst (λ (l : List ℕ). TakesMessage bytes (get_or (drop 16 bytes) 2 0) l) body t))

message_from : (bytes : List ℕ) → ltb (length bytes) 19 ≡ false → list_all (λ b. eqb b 255) (take 16 bytes) ≡ true → eqb (big_number 2 (drop 16 bytes)) (length bytes) ≡ true → message_in bytes ≡ Ok (slice_index bytes 18, drop 19 bytes)
unfolding message_in
message_from bytes a b c = rw (a, b, c) refl

pub message_again : (kind : ℕ) (body : List ℕ) → 19 + length body < 256 ^ 2 → message_in (message_bytes kind body) ≡ Ok (kind, body)
message_again kind body small =
    let size : length (message_bytes kind body) ≡ 19 + length body = omega (arith, length-append marker (big_bytes 2 (19 + length body) ++ (kind ∷ body)), length-append (big_bytes 2 (19 + length body)) (kind ∷ body), length-bytes_high_first 2 (19 + length body)) in
    let number : big_number 2 (drop 16 (message_bytes kind body)) ≡ length (message_bytes kind body) = big_number-reads_back 2 (19 + length body) (kind ∷ body) small ∙ sym size in
    message_from (message_bytes kind body) (le-ltb _ _ (omega (arith, size))) refl (eq-eqb _ _ number)
