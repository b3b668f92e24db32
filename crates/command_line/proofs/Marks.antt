-- The mark behind a prefix.
use Rattle.std.proofs.Common.{◌≡◌, ℕ, List, [], ◌∷◌, ◌++◌, length, get_or, refl, sym, ap, subst, ◌∙◌, arith, length-append}
use Rattle.std.specs.Prelude.{◌≢◌}
use Rattle.std.specs.List.{AllByRecursion}
use Rattle.std.specs.Fmt.{decimal}
use Rattle.std.proofs.lemmas.List.{append_cancel_right, append-nil}
use Rattle.std.proofs.Math.Seq.{get_or-append_seam}
use Rattle.bgp_prefix.specs.Prefixes.{IpPrefix}
use Rattle.peer_units.specs.declared.choice.Reach.{Reach}
use Rattle.peer_units.specs.declared.choice.Reach.TheVariants.{Exact, Inside, Around}
use Rattle.command_line.specs.Choices.{IsPlain, SpellsPrefix, with_length, alone, mark_of, EndsInNoMark}
use Rattle.command_line.proofs.Plain.{plain_decimal}

abbrev IsNoMark : ℕ → Type 0
IsNoMark byte = (byte ≢ 43) × (byte ≢ 45)

abbrev HasNoMark : List ℕ → Type 0
HasNoMark text = AllByRecursion IsNoMark text

plain_has_none : (text : List ℕ) → IsPlain text → HasNoMark text
plain_has_none [] plain = tt
plain_has_none (x ∷ xs) plain = ((plain.0.0, plain.0.1), plain_has_none xs plain.1)

joined : (xs ys : List ℕ) → HasNoMark xs → HasNoMark ys → HasNoMark (xs ++ ys)
joined [] ys a b = b
joined (x ∷ xs) ys a b = (a.0, joined xs ys a.1 b)

back_of : (xs ys : List ℕ) → HasNoMark (xs ++ ys) → HasNoMark ys
back_of [] ys h = h
back_of (x ∷ xs) ys h = back_of xs ys h.1

ends_in_none : (text : List ℕ) → HasNoMark text → EndsInNoMark text
ends_in_none text h front last e = (back_of front (last ∷ []) (subst HasNoMark e h)).0

slash : IsNoMark 47
slash = ((λ e. absurd (omega arith)), (λ e. absurd (omega arith)))

-- a prefix has no mark, so what stands behind it is one
module _ (Spells : List ℕ → ℕ → Type 0) (width : ℕ) (plain : (text : List ℕ) (bits : ℕ) → Spells text bits → IsPlain text) where
  prefix_has_none : (text : List ℕ) (p : IpPrefix) → SpellsPrefix Spells width text p → HasNoMark text
  prefix_has_none text p (with_length front e a within) =
      let short = within.0.short in
      subst HasNoMark (sym e) (joined front (47 ∷ decimal p.len) (plain_has_none front (plain front p.addr a)) (slash, plain_has_none (decimal p.len) (plain_decimal p.len (omega arith))))
  prefix_has_none text p (alone a e) = plain_has_none text (plain text p.addr a)

  pub prefix_ends : (text : List ℕ) (p : IpPrefix) → SpellsPrefix Spells width text p → EndsInNoMark text
  prefix_ends text p s = ends_in_none text (prefix_has_none text p s)

-- the same list, the last element apart
last_apart : (xs ys : List ℕ) (x y : ℕ) → xs ++ x ∷ [] ≡ ys ++ y ∷ [] → (xs ≡ ys) × (x ≡ y)
last_apart xs ys x y e =
    let long : length xs ≡ length ys = let n = ap length e in let a = length-append xs (x ∷ []) in let b = length-append ys (y ∷ []) in omega (arith, n, a, b) in
    let same : x ≡ y = sym (get_or-append_seam xs x [] 0) ∙ ap (λ l. get_or l (length xs) 0) e ∙ ap (λ k. get_or (ys ++ y ∷ []) k 0) long ∙ get_or-append_seam ys y [] 0 in
    (append_cancel_right xs ys (y ∷ []) (ap (λ b. xs ++ b ∷ []) (sym same) ∙ e), same)

-- where the last byte is a mark, it is split off
pub one_mark : (text rest : List ℕ) (last : ℕ) (found : Reach) → text ≡ rest ++ last ∷ [] → mark_of found ≡ last ∷ [] → (front : List ℕ) (reach : Reach) → EndsInNoMark front → text ≡ front ++ mark_of reach → (front ≡ rest) × (reach ≡ found)
one_mark text rest last Exact e m front reach ends w = absurd cc
one_mark text rest last Inside e m front Exact ends w =
    let mark : last ≡ 43 = cc in
    absurd ((ends rest last (sym (append-nil front) ∙ sym w ∙ e)).0 mark)
one_mark text rest last Inside e m front Inside ends w = (sym (last_apart rest front last 43 (sym e ∙ w)).0, refl)
one_mark text rest last Inside e m front Around ends w =
    let mark : 43 ≡ last = cc in
    let same = (last_apart rest front last 45 (sym e ∙ w)).1 in
    absurd (omega (arith, same))
one_mark text rest last Around e m front Exact ends w =
    let mark : last ≡ 45 = cc in
    absurd ((ends rest last (sym (append-nil front) ∙ sym w ∙ e)).1 mark)
one_mark text rest last Around e m front Inside ends w =
    let mark : 45 ≡ last = cc in
    let same = (last_apart rest front last 43 (sym e ∙ w)).1 in
    absurd (omega (arith, same))
one_mark text rest last Around e m front Around ends w = (sym (last_apart rest front last 45 (sym e ∙ w)).0, refl)

-- the same front and the same mark
pub one_reach : (text front back : List ℕ) (r s : Reach) → EndsInNoMark front → EndsInNoMark back → text ≡ front ++ mark_of r → text ≡ back ++ mark_of s → (front ≡ back) × (r ≡ s)
one_reach text front back Exact Exact f b u v = (sym (append-nil front) ∙ sym u ∙ v ∙ append-nil back, refl)
one_reach text front back Exact Inside f b u v = absurd ((f back 43 (sym (append-nil front) ∙ sym u ∙ v)).0 refl)
one_reach text front back Exact Around f b u v = absurd ((f back 45 (sym (append-nil front) ∙ sym u ∙ v)).1 refl)
one_reach text front back Inside s f b u v =
    let same = one_mark text front 43 Inside u refl back s b v in
    (sym same.0, sym same.1)
one_reach text front back Around s f b u v =
    let same = one_mark text front 45 Around u refl back s b v in
    (sym same.0, sym same.1)
