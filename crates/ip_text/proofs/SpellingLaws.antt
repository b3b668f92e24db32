-- The library's grammar of IPv6 addresses, without dotted quads.
use Rattle.std.proofs.Common.{◌≡◌, ℕ, ◌<◌, ◌≤◌, Bool, true, false, eqb, List, [], ◌∷◌, ◌++◌, length, refl, sym, ap, ◌∙◌, subst, arith, inl, inr, append_assoc, append-nil, ne_eqb, eq-eqb, decimal, lit≤}
use Rattle.std.proofs.lemmas.Bool.{cases_eq}
use Rattle.std.specs.List.{AllByRecursion, list_any}
use Rattle.std.specs.Str.Parse.{AllDigits}
use Rattle.std.specs.Char.{digit_value}
use Rattle.std.specs.Net.Grammar.{IsDotted, IsGroup, IsGroupsAfter, IsGroups, IsColonHex}
use Rattle.std.proofs.NetLemmas.Ipv6.{read_ipv6_complete, EndsGroups-nil}
use Rattle.std.proofs.NetLemmas.Options.{same_parts}
use Rattle.ip_text.specs.Spellings.{number_of_groups, AreGroups, Spells, IsIpv6Text}

-- ---- bytes that no address has

abbrev pub HasNo : ℕ → List ℕ → Type 0
HasNo b text = AllByRecursion (λ byte. byte ≡ b → ⊥) text

abbrev pub HasNoPoint : List ℕ → Type 0
HasNoPoint text = HasNo 46 text

pub front_of : (b : ℕ) (xs ys : List ℕ) → HasNo b (xs ++ ys) → HasNo b xs
front_of b [] ys h = tt
front_of b (x ∷ xs) ys h = (h.0, front_of b xs ys h.1)

pub back_of : (b : ℕ) (xs ys : List ℕ) → HasNo b (xs ++ ys) → HasNo b ys
back_of b [] ys h = h
back_of b (x ∷ xs) ys h = back_of b xs ys h.1

pub joined : (b : ℕ) (xs ys : List ℕ) → HasNo b xs → HasNo b ys → HasNo b (xs ++ ys)
joined b [] ys f g = g
joined b (x ∷ xs) ys f g = (f.0, joined b xs ys f.1 g)

digits_have_none : (b : ℕ) → 16 ≤ digit_value b → (text : List ℕ) → AllDigits 16 text → HasNo b text
digits_have_none b past [] all = tt
digits_have_none b past (x ∷ xs) all = (λ e. absurd (let below : digit_value b < 16 = subst (λ y. digit_value y < 16) e all.0 in omega arith), digits_have_none b past xs all.1)

groups_have_none : (b : ℕ) → 16 ≤ digit_value b → (58 ≡ b → ⊥) → (text groups : List ℕ) → AreGroups text groups → HasNo b text
groups_have_none b past colon text [] h = subst (HasNo b) (sym h) tt
groups_have_none b past colon text (g ∷ []) h = digits_have_none b past text h.digits.1
groups_have_none b past colon text (g ∷ next ∷ groups) h =
    subst (HasNo b) (sym h.2) (joined b h.0 (58 ∷ h.1) (digits_have_none b past h.0 h.3.digits.1) (colon, groups_have_none b past colon h.1 (next ∷ groups) h.4))

-- only digits and colons stand in an address
pub spelled_have_no : (b : ℕ) → 16 ≤ digit_value b → (58 ≡ b → ⊥) → (text groups : List ℕ) → Spells text groups → HasNo b text
spelled_have_no b past colon text groups h = elim h [
  | inl whole ↦ groups_have_none b past colon text groups whole.0
  | inr s ↦ subst (HasNo b) (sym s.written) (joined b (s.head_text ++ 58 ∷ 58 ∷ []) s.tail_text
      (joined b s.head_text (58 ∷ 58 ∷ []) (groups_have_none b past colon s.head_text s.head s.head_groups) (colon, (colon, tt)))
      (groups_have_none b past colon s.tail_text s.tail s.tail_groups))
]

pub spelled_have_none : (text groups : List ℕ) → Spells text groups → HasNoPoint text
spelled_have_none = spelled_have_no 46 (lit≤ tt) (λ e. absurd (omega arith))

dotted_have_one : (text octets : List ℕ) → IsDotted text octets → HasNoPoint text → ⊥
dotted_have_one text octets d h =
    let spelled = subst HasNoPoint d.spelled h in
    let first = front_of 46 (decimal d.a ++ 46 ∷ []) _ (front_of 46 (decimal d.a ++ 46 ∷ [] ++ decimal d.b) _ (front_of 46 (decimal d.a ++ 46 ∷ [] ++ decimal d.b ++ 46 ∷ []) _ (front_of 46 (decimal d.a ++ 46 ∷ [] ++ decimal d.b ++ 46 ∷ [] ++ decimal d.c) _
    (front_of 46 (decimal d.a ++ 46 ∷ [] ++ decimal d.b ++ 46 ∷ [] ++ decimal d.c ++ 46 ∷ []) (decimal d.d) spelled)))) in
    (back_of 46 (decimal d.a) (46 ∷ []) first).0 refl

pub none_from_test : (text : List ℕ) → list_any (λ byte. eqb byte 46) text ≡ false → HasNoPoint text
none_from_test [] e = tt
none_from_test (x ∷ xs) e = elim (cases_eq x 46) [
  | inl is ↦ absurd (let t = rw (eq-eqb x 46 is) at e in cc)
  | inr not ↦ (not, none_from_test xs (rw (ne_eqb x 46 not) at e))
]

pub test_from_none : (text : List ℕ) → HasNoPoint text → list_any (λ byte. eqb byte 46) text ≡ false
test_from_none [] h = refl
test_from_none (x ∷ xs) h = rw (ne_eqb x 46 h.0) (test_from_none xs h.1)

-- ---- groups

some_to : (ipv4 : Bool) (lead text groups : List ℕ) → AreGroups text groups → 0 < length groups → IsGroupsAfter ipv4 lead (lead ++ text) groups
some_to ipv4 lead text [] h some = absurd (omega arith)
some_to ipv4 lead text (g ∷ []) h some = inl (text, [], sym (append-nil (lead ++ text)), ((h.digits, h.value), h.few), refl)
some_to ipv4 lead text (g ∷ next ∷ groups) h some =
    inl (h.0, 58 ∷ h.1, ap (λ t. lead ++ t) h.2 ∙ sym (append_assoc lead h.0 (58 ∷ h.1)), ((h.3.digits, h.3.value), h.3.few), some_to ipv4 (58 ∷ []) h.1 (next ∷ groups) h.4 (omega arith))

groups_to : (ipv4 : Bool) (text groups : List ℕ) → AreGroups text groups → IsGroups ipv4 text groups
groups_to ipv4 text [] h = h
groups_to ipv4 text (g ∷ groups) h = some_to ipv4 [] text (g ∷ groups) h (omega arith)

abbrev Behind : List ℕ → List ℕ → List ℕ → Type 0
Behind lead text [] = text ≡ []
Behind lead text (g ∷ groups) = (rest : List ℕ) × (text ≡ lead ++ rest) × AreGroups rest (g ∷ groups)

join_groups : (lead text group rest : List ℕ) (g : ℕ) (groups : List ℕ) → text ≡ lead ++ group ++ rest → IsGroup group g → Behind (58 ∷ []) rest groups → Behind lead text (g ∷ groups)
join_groups lead text group rest g [] e is later = (group, e ∙ ap (λ r. lead ++ group ++ r) later ∙ append-nil (lead ++ group), record { digits = is.0.0; few = is.1; value = is.0.1 })
join_groups lead text group rest g (next ∷ groups) e is later =
    (group ++ 58 ∷ later.0, e ∙ ap (λ r. lead ++ group ++ r) later.1 ∙ append_assoc lead group (58 ∷ later.0), (group, later.0, refl, record { digits = is.0.0; few = is.1; value = is.0.1 }, later.2))

groups_behind : (ipv4 : Bool) (lead text groups : List ℕ) → HasNoPoint text → IsGroupsAfter ipv4 lead text groups → Behind lead text groups
groups_behind ipv4 lead text [] none h = h
groups_behind ipv4 lead text (g ∷ groups) none h = elim h [
  | inl (group, rest, e, is, more) ↦ join_groups lead text group rest g groups e is (groups_behind ipv4 (58 ∷ []) rest groups (back_of 46 (lead ++ group) rest (subst HasNoPoint e none)) more)
  | inr (last, octets, may, e, dotted, same) ↦ absurd (dotted_have_one last octets dotted (back_of 46 lead last (subst HasNoPoint e none)))
]

groups_from : (ipv4 : Bool) (text groups : List ℕ) → HasNoPoint text → IsGroups ipv4 text groups → AreGroups text groups
groups_from ipv4 text [] none h = h
groups_from ipv4 text (g ∷ groups) none h = let b = groups_behind ipv4 [] text (g ∷ groups) none h in subst (λ t. AreGroups t (g ∷ groups)) (sym b.1) b.2

-- ---- addresses

pub colon_hex : (text groups : List ℕ) → Spells text groups → IsColonHex text groups
colon_hex text groups h = elim h [
  | inl whole ↦ inl (groups_to true text groups whole.0, whole.1)
  | inr s ↦ inr (record {
    head_text = s.head_text;
    tail_text = s.tail_text;
    head = s.head;
    tail = s.tail;
    spelled = s.written;
    head_groups = groups_to false s.head_text s.head s.head_groups;
    tail_groups = groups_to true s.tail_text s.tail s.tail_groups;
    room = s.fewer;
    value = s.value;
  })
]

pub spelled_from : (text groups : List ℕ) → HasNoPoint text → IsColonHex text groups → Spells text groups
spelled_from text groups none h = elim h [
  | inl (whole, eight) ↦ inl (groups_from true text groups none whole, eight)
  | inr s ↦
      let parts = subst HasNoPoint s.spelled none in
      let front = front_of 46 (s.head_text ++ 58 ∷ 58 ∷ []) s.tail_text parts in
      inr (record {
        head_text = s.head_text;
        tail_text = s.tail_text;
        head = s.head;
        tail = s.tail;
        written = s.spelled;
        head_groups = groups_from false s.head_text s.head (front_of 46 s.head_text (58 ∷ 58 ∷ []) front) s.head_groups;
        tail_groups = groups_from true s.tail_text s.tail (back_of 46 (s.head_text ++ 58 ∷ 58 ∷ []) s.tail_text parts) s.tail_groups;
        fewer = s.room;
        value = s.value;
      })
]

pub same_groups : (text groups others : List ℕ) → Spells text groups → Spells text others → groups ≡ others
same_groups text groups others h k =
    (same_parts _ _ _ _ (sym (read_ipv6_complete text groups [] (colon_hex text groups h) EndsGroups-nil) ∙ read_ipv6_complete text others [] (colon_hex text others k) EndsGroups-nil)).0

pub one_number : (text : List ℕ) (a b : ℕ) → IsIpv6Text text a → IsIpv6Text text b → a ≡ b
one_number text a b h k = h.value ∙ ap (number_of_groups 65536) (same_groups text h.groups k.groups h.spelled k.spelled) ∙ sym k.value
