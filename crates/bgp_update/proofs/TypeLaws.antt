-- Each type has a code, and an index for its value, of its own.
use Rattle.std.proofs.Common.{◌≡◌, ℕ, ◌+◌, Bool, true, false, cond, eqb, Option, Some, None, refl, sym, ap, ◌∙◌, arith}
use Rattle.std.proofs.lemmas.Bool.{eqb-true, eq-eqb, ne_eqb}
use Rattle.std.proofs.lemmas.Option.{none-some}
use borrow.Author.Tests.{both_ways}
use Rattle.bgp_update.specs.declared.attribute_type.AttributeType.{AttributeType}
use Rattle.bgp_update.specs.declared.attribute_type.AttributeType.TheVariants as types
use Rattle.bgp_update.specs.declared.kept_attribute.KeptAttribute.{KeptAttribute}
use Rattle.bgp_update.specs.declared.kept_attribute.KeptAttribute.TheVariants.{Communities, ExtendedCommunities, LargeCommunities, OriginatorId, ClusterList, OnlyToCustomer}
use Rattle.std.specs.Prelude.{option_map}
use Rattle.bgp_update.specs.KeptAttributes.{kept_code, kept_index, kept_of}
use Rattle.bgp_update.specs.AttributeTypes.{type_code, type_of}
use Rattle.bgp_update.specs.Values.{value_index}

kept_again : (a : KeptAttribute) → type_of (kept_code a) ≡ Some (types.Kept a)
kept_again Communities = refl
kept_again a = refl

pub type_again : (t : AttributeType) → type_of (type_code t) ≡ Some t
type_again types.Origin = refl
type_again (types.Kept a) = kept_again a
type_again t = refl

-- ---- a code of a type that is looked at

-- the first of some codes that a number is
pub found : {A : Type 0} (code_of : A → ℕ) (code : ℕ) (x own : A) (others : Option A) → (others ≡ Some x → code ≡ code_of x) → cond (eqb code (code_of own)) (Some own) others ≡ Some x → code ≡ code_of x
found {A} code_of code x own others more = by_test (eqb code (code_of own)) refl
  where
    some_is : Some own ≡ Some x → own ≡ x
    some_is e = cc

    by_test : (b : Bool) → eqb code (code_of own) ≡ b → cond b (Some own) others ≡ Some x → code ≡ code_of x
    by_test true h e = eqb-true code (code_of own) h ∙ ap code_of (some_is e)
    by_test false h e = more e

kept_is : (code : ℕ) (a : KeptAttribute) → kept_of code ≡ Some a → code ≡ kept_code a
kept_is code a =
    found kept_code code a Communities _
    (found kept_code code a ExtendedCommunities _
    (found kept_code code a LargeCommunities _
    (found kept_code code a OriginatorId _
    (found kept_code code a ClusterList _
    (found kept_code code a OnlyToCustomer None (λ e. absurd (none-some a e)))))))

kept_type_is : (code : ℕ) (t : AttributeType) (o : Option KeptAttribute) → kept_of code ≡ o → option_map types.Kept o ≡ Some t → code ≡ type_code t
kept_type_is code t None is e = absurd (none-some t e)
kept_type_is code t (Some a) is e = kept_is code a is ∙ ap type_code (some_is e)
  where
    some_is : Some (types.Kept a) ≡ Some t → types.Kept a ≡ t
    some_is h = cc

pub type_is : (code : ℕ) (t : AttributeType) → type_of code ≡ Some t → code ≡ type_code t
type_is code t =
    found type_code code t types.Origin _
    (found type_code code t types.AsPath _
    (found type_code code t types.NextHop _
    (found type_code code t types.MultiExitDisc _
    (found type_code code t types.LocalPref _
    (found type_code code t types.AtomicAggregate _
    (found type_code code t types.Aggregator _
    (found type_code code t types.MpReachNlri _
    (found type_code code t types.MpUnreachNlri _
    (found type_code code t types.As4Path _
    (found type_code code t types.As4Aggregator _ (kept_type_is code t (kept_of code) refl)))))))))))

-- the code of an attribute that has to be asked for
pub kept_type : (code : ℕ) (a : KeptAttribute) → kept_of code ≡ Some a → type_of code ≡ Some (types.Kept a)
kept_type code a e = ap type_of (kept_is code a e) ∙ kept_again a

pub not_kept : (code : ℕ) (a : KeptAttribute) → kept_of code ≡ None → type_of code ≡ Some (types.Kept a) → ⊥
not_kept code a none e = none-some a (sym none ∙ ap kept_of (type_is code (types.Kept a) e) ∙ own a)
  where
    own : (b : KeptAttribute) → kept_of (kept_code b) ≡ Some b
    own Communities = refl
    own b = refl

-- ---- indices of values

abbrev type_at : ℕ → AttributeType
type_at n =
    cond (eqb n 0) types.Origin
    (cond (eqb n 1) types.AsPath
    (cond (eqb n 2) types.NextHop
    (cond (eqb n 3) types.MultiExitDisc
    (cond (eqb n 4) types.LocalPref
    (cond (eqb n 5) types.Aggregator
    (cond (eqb n 6) types.MpReachNlri
    (cond (eqb n 7) types.MpUnreachNlri
    (cond (eqb n 8) types.As4Path
    (cond (eqb n 9) types.As4Aggregator
    (cond (eqb n 11) (types.Kept Communities)
    (cond (eqb n 12) (types.Kept ExtendedCommunities)
    (cond (eqb n 13) (types.Kept LargeCommunities)
    (cond (eqb n 14) (types.Kept OriginatorId)
    (cond (eqb n 15) (types.Kept ClusterList)
    (cond (eqb n 16) (types.Kept OnlyToCustomer) types.AtomicAggregate)))))))))))))))

type_at_kept : (a : KeptAttribute) → type_at (value_index (types.Kept a)) ≡ types.Kept a
type_at_kept Communities = refl
type_at_kept a = refl

type_at_value_index : (t : AttributeType) → type_at (value_index t) ≡ t
type_at_value_index types.Origin = refl
type_at_value_index (types.Kept a) = type_at_kept a
type_at_value_index t = refl

same_value_index : (t u : AttributeType) → value_index t ≡ value_index u → t ≡ u
same_value_index t u e = sym (type_at_value_index t) ∙ ap type_at e ∙ type_at_value_index u

-- the codes of a type and of another are equal where the indices of their values are
pub value_index_decides : (code : ℕ) (t u : AttributeType) → type_of code ≡ Some t → eqb code (type_code u) ≡ eqb (value_index u) (value_index t)
value_index_decides code t u e = by_test (eqb (value_index u) (value_index t)) refl
  where
    some_is : Some t ≡ Some u → t ≡ u
    some_is h = cc

    same : u ≡ t → eqb code (type_code u) ≡ true
    same h = ap (λ (c : ℕ). eqb c (type_code u)) (type_is code t e ∙ ap type_code (sym h)) ∙ eq-eqb (type_code u) (type_code u) refl

    is_other : eqb (value_index u) (value_index t) ≡ false → (b : Bool) → eqb code (type_code u) ≡ b → b ≡ false
    is_other h false k = refl
    is_other h true k =
        let same_types : t ≡ u = some_is (sym e ∙ ap type_of (eqb-true code (type_code u) k) ∙ type_again u) in
        absurd (both_ways (eqb (value_index u) (value_index t)) h (ap (λ (x : AttributeType). eqb (value_index u) (value_index x)) same_types ∙ eq-eqb (value_index u) (value_index u) refl))

    by_test : (b : Bool) → eqb (value_index u) (value_index t) ≡ b → eqb code (type_code u) ≡ b
    by_test true h = same (same_value_index u t (eqb-true (value_index u) (value_index t) h))
    by_test false h = is_other h (eqb code (type_code u)) refl

-- so are the numbers of attributes that have to be asked for
pub kept_index_decides : (code : ℕ) (a b : KeptAttribute) → type_of code ≡ Some (types.Kept a) → eqb code (kept_code b) ≡ eqb (kept_index b) (kept_index a)
kept_index_decides code a b e = value_index_decides code (types.Kept a) (types.Kept b) e ∙ sym (behind (kept_index b) (kept_index a))
  where
    behind : (m n : ℕ) → eqb m n ≡ eqb (11 + m) (11 + n)
    behind m n = by_test (eqb m n) refl
      where
        by_test : (t : Bool) → eqb m n ≡ t → t ≡ eqb (11 + m) (11 + n)
        by_test true h = sym (eq-eqb (11 + m) (11 + n) (ap (λ (k : ℕ). 11 + k) (eqb-true m n h)))
        by_test false h = sym (ne_eqb (11 + m) (11 + n) (λ k. both_ways (eqb m n) h (eq-eqb m n (omega (arith, k)))))

pub equal_value_indices : (t u : AttributeType) → eqb (value_index t) (value_index u) ≡ true → t ≡ u
equal_value_indices t u h = same_value_index t u (eqb-true (value_index t) (value_index u) h)
