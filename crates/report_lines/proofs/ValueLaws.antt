-- Texts of numbers and addresses are whole values, and other texts are in quotes.
use Rattle.std.proofs.Common.{◌≡◌, ℕ, zero, suc, ◌/◌, ◌%◌, ◌<◌, ◌⊎◌, inl, inr, Bool, true, false, not, ◌||◌, ◌&&◌, ◌==◌, List, [], ◌∷◌, ◌++◌, refl, ap, ◌∙◌, arith, append_assoc}
use Rattle.std.specs.Prelude.{decimal, if◌then◌else◌}
use Rattle.std.specs.Fmt.{digit_glyph, digits, digits_onto}
use Rattle.std.proofs.Math.Nat.{mod-lt}
use Rattle.std.specs.List.{list_all}
use Rattle.report_lines.specs.Cells.{quoted}
use Rattle.report_lines.specs.JsonValues.{IsValue, value_front}

-- ---- characters

-- it is no quote, comma, bracket or closing brace
abbrev pub bare : ℕ → Bool
bare c = not (c == 34 || (c == 44 || (c == 91 || (c == 93 || c == 125))))

-- it is no quote
abbrev pub unquoted : ℕ → Bool
unquoted c = not (c == 34)

abbrev pub are_bare : List ℕ → Bool
are_bare text = list_all bare text

abbrev pub are_unquoted : List ℕ → Bool
are_unquoted text = list_all unquoted text

pub neither : (a b : Bool) → not (a || b) ≡ true → (a ≡ false) × (b ≡ false)
neither true b e = absurd cc
neither false true e = absurd cc
neither false false e = (refl, refl)

pub both : (a b : Bool) → (a && b) ≡ true → (a ≡ true) × (b ≡ true)
both true true e = (refl, refl)
both true false e = absurd cc
both false b e = absurd cc

-- ---- values

stop_in_front : (c : ℕ) (rest : List ℕ) → (c ≡ 44) ⊎ (c ≡ 125) → value_front false false (c ∷ rest) ≡ []
stop_in_front c rest (inl e) = ap (λ c. value_front false false (c ∷ rest)) e
stop_in_front c rest (inr e) = ap (λ c. value_front false false (c ∷ rest)) e

pub bare_is_value : (text : List ℕ) → are_bare text ≡ true → IsValue text
bare_is_value [] e c rest stop = stop_in_front c rest stop
bare_is_value (x ∷ text) e c rest stop =
    let parts = both (bare x) (are_bare text) e in
    let one = neither (x == 34) _ parts.0 in
    let two = neither (x == 44) _ (ap not one.1) in
    let three = neither (x == 91) _ (ap not two.1) in
    let four = neither (x == 93) _ (ap not three.1) in
    let front = bare_is_value text parts.1 c rest stop in
    ap (λ b. if b || x == 125 then [] else x ∷ value_front (x == 34) (x == 91) (text ++ c ∷ rest)) two.0
    ∙ ap (λ (b : Bool). if b then [] else x ∷ value_front (x == 34) (x == 91) (text ++ c ∷ rest)) four.1
    ∙ ap (λ b. x ∷ value_front b (x == 91) (text ++ c ∷ rest)) one.0
    ∙ ap (λ b. x ∷ value_front false b (text ++ c ∷ rest)) three.0
    ∙ ap (λ l. x ∷ l) front

-- within a text and behind it
within_text : (brackets : Bool) (text rest : List ℕ) → are_unquoted text ≡ true
    → value_front true brackets (text ++ 34 ∷ rest) ≡ text ++ 34 ∷ value_front false brackets rest
within_text brackets [] rest e = refl
within_text brackets (x ∷ text) rest e =
    let parts = both (unquoted x) (are_unquoted text) e in
    ap (λ b. x ∷ value_front b brackets (text ++ 34 ∷ rest)) parts.0 ∙ ap (λ l. x ∷ l) (within_text brackets text rest parts.1)

pub quoted_is_value : (text : List ℕ) → are_unquoted text ≡ true → IsValue (quoted text)
quoted_is_value text e c rest stop =
    ap (λ l. 34 ∷ value_front true false l) (append_assoc text (34 ∷ []) (c ∷ rest))
    ∙ ap (λ l. 34 ∷ l) (within_text false text (c ∷ rest) e ∙ ap (λ l. text ++ 34 ∷ l) (stop_in_front c rest stop))

-- ---- digits

glyph_is_bare : (d : ℕ) → d < 16 → bare (digit_glyph false d) ≡ true
glyph_is_bare zero lt = refl
glyph_is_bare (suc zero) lt = refl
glyph_is_bare (suc (suc zero)) lt = refl
glyph_is_bare (suc (suc (suc zero))) lt = refl
glyph_is_bare (suc (suc (suc (suc zero)))) lt = refl
glyph_is_bare (suc (suc (suc (suc (suc zero))))) lt = refl
glyph_is_bare (suc (suc (suc (suc (suc (suc zero)))))) lt = refl
glyph_is_bare (suc (suc (suc (suc (suc (suc (suc zero))))))) lt = refl
glyph_is_bare (suc (suc (suc (suc (suc (suc (suc (suc zero)))))))) lt = refl
glyph_is_bare (suc (suc (suc (suc (suc (suc (suc (suc (suc zero))))))))) lt = refl
glyph_is_bare (suc (suc (suc (suc (suc (suc (suc (suc (suc (suc zero)))))))))) lt = refl
glyph_is_bare (suc (suc (suc (suc (suc (suc (suc (suc (suc (suc (suc zero))))))))))) lt = refl
glyph_is_bare (suc (suc (suc (suc (suc (suc (suc (suc (suc (suc (suc (suc zero)))))))))))) lt = refl
glyph_is_bare (suc (suc (suc (suc (suc (suc (suc (suc (suc (suc (suc (suc (suc zero))))))))))))) lt = refl
glyph_is_bare (suc (suc (suc (suc (suc (suc (suc (suc (suc (suc (suc (suc (suc (suc zero)))))))))))))) lt = refl
glyph_is_bare (suc (suc (suc (suc (suc (suc (suc (suc (suc (suc (suc (suc (suc (suc (suc zero))))))))))))))) lt = refl
glyph_is_bare (suc (suc (suc (suc (suc (suc (suc (suc (suc (suc (suc (suc (suc (suc (suc (suc d)))))))))))))))) lt = absurd (omega (arith, lt))

either_bare : (b : Bool) (xs ys : List ℕ) → are_bare xs ≡ true → are_bare ys ≡ true → are_bare (if b then xs else ys) ≡ true
either_bare true xs ys e f = e
either_bare false xs ys e f = f

digits_onto_bare : (k base n : ℕ) (acc : List ℕ) → 0 < base → base < 17 → are_bare acc ≡ true → are_bare (digits_onto k base false n acc) ≡ true
digits_onto_bare zero base n acc some few e = e
digits_onto_bare (suc k) base n acc some few e =
    let digit : bare (digit_glyph false (n % base)) ≡ true = glyph_is_bare (n % base) (omega (arith, mod-lt n some, few)) in
    let more : are_bare (digit_glyph false (n % base) ∷ acc) ≡ true = ap (λ b. b && are_bare acc) digit ∙ e in
    either_bare (n / base == 0) (digit_glyph false (n % base) ∷ acc) (digits_onto k base false (n / base) (digit_glyph false (n % base) ∷ acc)) more
    (digits_onto_bare k base (n / base) (digit_glyph false (n % base) ∷ acc) some few more)

pub decimal_is_bare : (n : ℕ) → are_bare (decimal n) ≡ true
unfolding digits
decimal_is_bare n = digits_onto_bare 64 10 n [] (omega arith) (omega arith) refl
