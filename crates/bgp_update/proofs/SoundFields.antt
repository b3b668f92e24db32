-- Where damage is handled: the attributes of a field, one after the other, and what is kept of them.
use Rattle.std.proofs.Common.{◌≡◌, ℕ, zero, suc, ◌<◌, ◌≤◌, Bool, true, false, not, ◌&&◌, ◌||◌, cond, List, [], ◌∷◌, ◌++◌, length, Option, Some, None, Result, Ok, Err, refl, sym, ap, subst, ◌∙◌, arith, inl, inr, ◌⊎◌, append_assoc}
use Rattle.std.specs.Prelude.{IfSome, OnErr, is_some, option_map, unwrap_or, slice_index_or}
use Rattle.std.specs.List.{AllByRecursion, list_any}
use Rattle.std.specs.Option.{option_and_then, option_or}
use Rattle.std.proofs.lemmas.Bool.{and_parts, lt-ltb, ltb-true}
use Rattle.std.proofs.lemmas.List.{append-nil, nil_from_length}
use Rattle.std.proofs.lemmas.List.Sums.{sum_by-append}
use borrow.Author.Tests.{both_ways}
use Rattle.mrt_frame.specs.declared.fault.Fault.{Fault}
use Rattle.mrt_frame.specs.Fields.{Reading}
use Rattle.mrt_frame.proofs.FieldLaws.{IsBytes, IsBytes-front}
use Rattle.bgp_update.specs.declared.attribute_type.AttributeType.{AttributeType}
use Rattle.bgp_update.specs.declared.attribute_type.AttributeType.TheVariants as types
use Rattle.bgp_update.specs.declared.kept_attribute.KeptAttribute.{KeptAttribute}
use Rattle.bgp_update.specs.declared.kept_attribute.KeptAttribute.TheVariants.{Communities}
use Rattle.bgp_update.specs.declared.width.Width.{Width}
use Rattle.bgp_update.specs.declared.width.Width.TheVariants.{Four}
use Rattle.bgp_update.specs.declared.attribute_context.AttributeContext.{AttributeContext}
use Rattle.bgp_update.specs.declared.attribute_context.AttributeContext.TheVariants.{RibEntry, Message}
use Rattle.bgp_update.specs.declared.error_rule.ErrorRule.{ErrorRule}
use Rattle.bgp_update.specs.declared.kept_attribute.AttributeSet.{AttributeSet}
use Rattle.bgp_update.specs.declared.route.Route.{Route}
use Rattle.bgp_update.specs.declared.values.FirstValues.{FirstValues}
use Rattle.bgp_update.specs.declared.asked_values.AskedValues.{AskedValues}
use Rattle.bgp_update.specs.declared.sound_values.SoundValues.{SoundValues}
use Rattle.bgp_update.specs.AttributeTypes.{type_of}
use Rattle.bgp_update.specs.ErrorRules.{is_discarded}
use Rattle.bgp_update.specs.Families.{RouteRules}
use Rattle.bgp_update.specs.KeptAttributes.{has}
use Rattle.bgp_update.specs.KeptBytes.{IsShort}
use Rattle.bgp_update.specs.Packing.{IsSpelled, IsWritable}
use Rattle.bgp_update.specs.Attributes.{WrittenAttribute, FitsAttribute, IsFormed, attribute_at, attribute_bytes, has_type, path_from, refuses_repeat, route_from, value_fault, value_of}
use Rattle.bgp_update.specs.Handling.{FrontAttributes, behind_attribute, front_attributes, front_within, has_grave, is_faulty, is_grave, loses_keys, repeats}
use Rattle.bgp_update.specs.Values.{AreShort, CanPackKept, all_values, asked_value, kept_value, value_index}
use Rattle.bgp_update.specs.SoundValues.{AreKeysLost, HoldsSound, IsLost, KeepsSound, is_left_out, value_left}
use Rattle.bgp_update.proofs.AttributeLoop.{attribute_at_shorter, value_of_front}
use Rattle.bgp_update.proofs.AttributeLaws.{attribute_takes, count, none_or_some, typed, value_fine}
use Rattle.bgp_update.proofs.FormedValues.{value_is_formed}
use Rattle.bgp_update.proofs.FromFirstValues.{route_from_same}
use Rattle.bgp_update.proofs.Packable.{said_writable}
use Rattle.bgp_update.proofs.PackedReadings.{all_path, no_values, spelled_if, values_short}

-- ---- the attributes at the front of a field

-- those of the rest behind others
abbrev pub joined : List WrittenAttribute → FrontAttributes → FrontAttributes
joined before front = record { whole = before ++ front.whole; rest = front.rest }

abbrev pub front_of : List WrittenAttribute → List ℕ → FrontAttributes
front_of whole rest = record { whole = whole; rest = rest }

none_at_end : attribute_at [] ≡ attribute_at [] → (n : ℕ) → front_within n [] ≡ front_of [] []
unfolding attribute_at
none_at_end e zero = refl
none_at_end e (suc n) = refl

-- more steps than bytes change nothing
enough : (m n : ℕ) (bytes : List ℕ) → length bytes ≤ m → length bytes ≤ n → front_within m bytes ≡ front_within n bytes
enough zero n bytes h k = let none : bytes ≡ [] = nil_from_length bytes (omega (arith, h)) in ap (front_within zero) none ∙ sym (none_at_end refl n) ∙ ap (front_within n) (sym none)
enough (suc m) zero bytes h k = let none : bytes ≡ [] = nil_from_length bytes (omega (arith, k)) in ap (front_within (suc m)) none ∙ none_at_end refl (suc m) ∙ ap (front_within zero) (sym none)
enough (suc m) (suc n) bytes h k = by_reading (λ rest. enough m n rest) (attribute_at bytes) refl
  where
    by_reading : ((rest : List ℕ) → length rest ≤ m → length rest ≤ n → front_within m rest ≡ front_within n rest) → (r : Reading WrittenAttribute) → attribute_at bytes ≡ r → behind_attribute (front_within m) bytes r ≡ behind_attribute (front_within n) bytes r
    by_reading more (Err fault) e = refl
    by_reading more (Ok x) e =
        let shorter = attribute_at_shorter bytes x.0 x.1 e in
        ap (λ (f : FrontAttributes). front_of (x.0 ∷ f.whole) f.rest) (more x.1 (omega (arith, shorter, h)) (omega (arith, shorter, k)))

-- one attribute, and those behind it
front_step : (n : ℕ) (bytes : List ℕ) (a : WrittenAttribute) (after : List ℕ) → length bytes ≡ suc n → attribute_at bytes ≡ Ok (a, after) → front_within (length bytes) bytes ≡ joined (a ∷ []) (front_within (length after) after)
front_step n bytes a after len e =
    ap (λ (k : ℕ). front_within k bytes) len ∙ ap (behind_attribute (front_within n) bytes) e
    ∙ ap (joined (a ∷ [])) (enough n (length after) after (omega (arith, attribute_at_shorter bytes a after e, len)) (omega arith))

front_stops : (n : ℕ) (bytes : List ℕ) (fault : Fault) → length bytes ≡ suc n → attribute_at bytes ≡ Err fault → front_within (length bytes) bytes ≡ front_of [] bytes
front_stops n bytes fault len e = ap (λ (k : ℕ). front_within k bytes) len ∙ ap (behind_attribute (front_within n) bytes) e

predecessor : (n : ℕ) → 0 < n → (m : ℕ) × (n ≡ suc m)
predecessor zero h = absurd (omega (arith, h))
predecessor (suc m) h = (m, refl)

pub front_goes_on : (before : List WrittenAttribute) (rest : List ℕ) (a : WrittenAttribute) (after : List ℕ) → 0 < length rest → attribute_at rest ≡ Ok (a, after) → joined before (front_attributes rest) ≡ joined (before ++ a ∷ []) (front_attributes after)
unfolding front_attributes
front_goes_on before rest a after some e =
    let n = predecessor (length rest) some in
    ap (joined before) (front_step n.0 rest a after n.1 e) ∙ ap (λ (whole : List WrittenAttribute). front_of whole (front_attributes after).rest) (sym (append_assoc before (a ∷ []) (front_attributes after).whole))

pub front_is_cut : (before : List WrittenAttribute) (rest : List ℕ) (fault : Fault) → 0 < length rest → attribute_at rest ≡ Err fault → joined before (front_attributes rest) ≡ front_of before rest
unfolding front_attributes
front_is_cut before rest fault some e =
    let n = predecessor (length rest) some in
    ap (joined before) (front_stops n.0 rest fault n.1 e) ∙ ap (λ (whole : List WrittenAttribute). front_of whole rest) (append-nil before)

pub front_is_done : (before : List WrittenAttribute) (rest : List ℕ) → length rest ≡ 0 → joined before (front_attributes rest) ≡ front_of before []
unfolding front_attributes
front_is_done before rest none =
    let nothing : rest ≡ [] = nil_from_length rest none in
    ap (λ (r : List ℕ). joined before (front_attributes r)) nothing ∙ ap (λ (whole : List WrittenAttribute). front_of whole []) (append-nil before)

-- ---- whole attributes fit, and have bytes as values

pub record AreFine (attributes : List WrittenAttribute) : Type 0 where
  pub fit : AllByRecursion FitsAttribute attributes
  pub values : (t : AttributeType) → IfSome (value_of t attributes) IsBytes

fine_more : (a : WrittenAttribute) (attributes : List WrittenAttribute) → FitsAttribute a → IsBytes a.value → AreFine attributes → AreFine (a ∷ attributes)
fine_more a attributes fits fine h = record { fit = (fits, h.fit); values = λ t. by_type t (has_type t a) (h.values t) }
  where
    by_type : (t : AttributeType) (b : Bool) → IfSome (value_of t attributes) IsBytes → IfSome (cond b (Some a.value) (value_of t attributes)) IsBytes
    by_type t true k = fine
    by_type t false k = k

fine_within : (n : ℕ) (bytes : List ℕ) → IsBytes bytes → AreFine (front_within n bytes).whole
fine_within zero bytes fine = record { fit = tt; values = λ t. tt }
fine_within (suc n) bytes fine = by_reading (λ rest. fine_within n rest) (attribute_at bytes) refl
  where
    by_reading : ((rest : List ℕ) → IsBytes rest → AreFine (front_within n rest).whole) → (r : Reading WrittenAttribute) → attribute_at bytes ≡ r → AreFine (behind_attribute (front_within n) bytes r).whole
    by_reading more (Err fault) e = record { fit = tt; values = λ t. tt }
    by_reading more (Ok x) e =
        let takes = attribute_takes bytes x fine e in
        fine_more x.0 (front_within n x.1).whole takes.1 (value_fine x.0 (IsBytes-front (attribute_bytes x.0) x.1 (subst IsBytes takes.0 fine))) (more x.1 takes.2)

pub front_fine : (bytes : List ℕ) → IsBytes bytes → AreFine (front_attributes bytes).whole
unfolding front_attributes
front_fine bytes fine = fine_within (length bytes) bytes fine

-- ---- keys that are lost stay so

pub lost_on : (rules : RouteRules) (context : AttributeContext) (width : Width) (attributes more : List WrittenAttribute) → IsLost rules context width attributes → IsLost rules context width (attributes ++ more)
lost_on rules context width attributes more lost = (lost.0, lost.1, by_case lost.2)
  where
    by_case : (repeats lost.0 attributes ≡ true) ⊎ (is_faulty rules context width attributes lost.0 ≡ true) → (repeats lost.0 (attributes ++ more) ≡ true) ⊎ (is_faulty rules context width (attributes ++ more) lost.0 ≡ true)
    by_case (inl twice) = inl (lt-ltb 1 (count lost.0 (attributes ++ more)) (omega (arith, ltb-true 1 (count lost.0 attributes) twice, sum_by-append (λ (a : WrittenAttribute). cond (has_type lost.0 a) 1 0) attributes more)))
    by_case (inr faulty) =
        elim (none_or_some (value_of lost.0 attributes)) [
          | inl none ↦ absurd (both_ways (is_faulty rules context width attributes lost.0) (ap (λ (o : Option (List ℕ)). is_some (option_and_then (value_fault rules context width lost.0) o)) none) faulty)
          | inr some ↦ inr (ap (λ (o : Option (List ℕ)). is_some (option_and_then (value_fault rules context width lost.0) o)) (value_of_front lost.0 attributes more ∙ ap (λ (o : Option (List ℕ)). option_or o (value_of lost.0 more)) some.1 ∙ sym some.1) ∙ faulty)
        ]

-- ---- without attributes nothing is kept

no_marks : (t : AttributeType) → slice_index_or (false ∷ false ∷ false ∷ false ∷ false ∷ false ∷ false ∷ false ∷ false ∷ false ∷ false ∷ false ∷ false ∷ false ∷ false ∷ false ∷ false ∷ []) (value_index t) false ≡ false
no_marks types.Origin = refl
no_marks (types.Kept a) = kept a
  where
    kept : (b : KeptAttribute) → slice_index_or (false ∷ false ∷ false ∷ false ∷ false ∷ false ∷ false ∷ false ∷ false ∷ false ∷ false ∷ false ∷ false ∷ false ∷ false ∷ false ∷ false ∷ []) (value_index (types.Kept b)) false ≡ false
    kept Communities = refl
    kept b = refl
no_marks t = refl

pub holds_none : (errors : ErrorRule) (rules : RouteRules) (context : AttributeContext) (width : Width) (first : FirstValues) (asked : AskedValues) → ((t : AttributeType) → kept_value first t ≡ None) → ((a : KeptAttribute) → asked_value asked a ≡ None)
    → HoldsSound errors rules context width [] (record { first = first; asked = asked; malformed = false ∷ false ∷ false ∷ false ∷ false ∷ false ∷ false ∷ false ∷ false ∷ false ∷ false ∷ false ∷ false ∷ false ∷ false ∷ false ∷ false ∷ []; grave = false })
holds_none errors rules context width first asked none none_asked = record {
  values = λ t looked. no_values first asked none none_asked t;
  marks = no_marks;
  once = λ t refused. refl;
  grave = λ e. absurd cc;
  light = λ t e more. absurd cc;
}

-- ---- how grave it is

module _ (errors : ErrorRule) (rules : RouteRules) (context : AttributeContext) (width : Width) (attributes : List WrittenAttribute) where
  abbrev test : WrittenAttribute → Bool
  test a = unwrap_or (option_map (is_grave errors rules context width attributes) (type_of a.code)) false

  pub has_of : (t : AttributeType) (xs : List WrittenAttribute) (value : List ℕ) → value_of t xs ≡ Some value → is_grave errors rules context width attributes t ≡ true → list_any test xs ≡ true
  has_of t [] value e grave = absurd cc
  has_of t (x ∷ xs) value e grave = by_type (λ some. has_of t xs value some grave) (has_type t x) refl e
    where
      or_true : (b : Bool) → (b || true) ≡ true
      or_true true = refl
      or_true false = refl

      by_type : (value_of t xs ≡ Some value → list_any test xs ≡ true) → (b : Bool) → has_type t x ≡ b → cond b (Some x.value) (value_of t xs) ≡ Some value → (test x || list_any test xs) ≡ true
      by_type more true h k = ap (λ (o : Option AttributeType). unwrap_or (option_map (is_grave errors rules context width attributes) o) false || list_any test xs) (typed x t h) ∙ ap (λ (b : Bool). b || list_any test xs) grave
      by_type more false h k = ap (λ (b : Bool). test x || b) (more k) ∙ or_true (test x)

  abbrev AnyGrave : Type 0
  AnyGrave = (t : AttributeType) × (is_grave errors rules context width attributes t ≡ true)

  of_one : (others : Bool) → (others ≡ true → AnyGrave) → (o : Option AttributeType) → (unwrap_or (option_map (is_grave errors rules context width attributes) o) false || others) ≡ true → AnyGrave
  of_one others more None e = more e
  of_one others more (Some t) e = by_grave (is_grave errors rules context width attributes t) refl e
    where
      by_grave : (b : Bool) → is_grave errors rules context width attributes t ≡ b → (b || others) ≡ true → AnyGrave
      by_grave true h k = (t, h)
      by_grave false h k = more k

  pub of_has : (xs : List WrittenAttribute) → list_any test xs ≡ true → AnyGrave
  of_has [] e = absurd cc
  of_has (x ∷ xs) e = of_one (list_any test xs) (λ later. of_has xs later) (type_of x.code) e

  module _ (s : SoundValues) (h : HoldsSound errors rules context width attributes s) (keys : (t : AttributeType) → refuses_repeat context t ≡ true → is_faulty rules context width attributes t ≡ false) where
    grave_is : (b : Bool) → s.grave ≡ b → b ≡ has_grave errors rules context width attributes
    grave_is true e =
        let g = h.grave e in
        let parts = and_parts (is_faulty rules context width attributes g.0) (not (refuses_repeat context g.0)) g.1 in
        sym (elim (none_or_some (value_of g.0 attributes)) [
          | inl none ↦ absurd (both_ways (is_faulty rules context width attributes g.0) (ap (λ (o : Option (List ℕ)). is_some (option_and_then (value_fault rules context width g.0) o)) none) parts.0)
          | inr some ↦ has_of g.0 attributes some.0 some.1 (rw (parts.0, g.2) refl)
        ])
    grave_is false e = by_test (has_grave errors rules context width attributes) refl
      where
        left : (t : AttributeType) → is_grave errors rules context width attributes t ≡ true → (b : Bool) → refuses_repeat context t ≡ b → s.grave ≡ true
        left t grave true refused = absurd (both_ways (is_faulty rules context width attributes t) (keys t refused) (and_parts (is_faulty rules context width attributes t) (not (is_discarded errors t)) grave).0)
        left t grave false allowed =
            let parts = and_parts (is_faulty rules context width attributes t) (not (is_discarded errors t)) grave in
            h.light t (rw (parts.0, allowed) refl) (not_set (is_discarded errors t) parts.1)
          where
            not_set : (b : Bool) → not b ≡ true → b ≡ false
            not_set true k = absurd cc
            not_set false k = refl

        by_test : (b : Bool) → has_grave errors rules context width attributes ≡ b → false ≡ b
        by_test false k = refl
        by_test true k = let t = of_has attributes k in absurd (both_ways s.grave e (left t.0 t.1 (refuses_repeat context t.0) refl))

-- ---- what is kept of a field

module _ (errors : ErrorRule) (rules : RouteRules) (context : AttributeContext) (width : Width) (attributes : List WrittenAttribute) (s : SoundValues) (h : HoldsSound errors rules context width attributes s) (same : s.asked.asked ≡ rules.kept) (fine : AreFine attributes) where
  abbrev kept_at : AttributeType → Option (List ℕ)
  kept_at t = value_left rules context width attributes t

  kept_fine : (P : List ℕ → Type 0) (t : AttributeType) → IfSome (value_of t attributes) P → IfSome (kept_at t) P
  kept_fine P t k = by_test (is_left_out rules context width attributes t)
    where
      by_test : (b : Bool) → IfSome (cond b None (value_of t attributes)) P
      by_test true = tt
      by_test false = k

  no_refusal : (c : AttributeContext) → refuses_repeat c types.AsPath ≡ false
  no_refusal RibEntry = refl
  no_refusal (Message add_path) = refl

  path_is_formed : IfSome (kept_at types.AsPath) (IsFormed rules context width types.AsPath)
  path_is_formed = by_value (value_of types.AsPath attributes) (fine.values types.AsPath)
    where
      by_fault : (value : List ℕ) → IsBytes value → (o : Option Fault) → value_fault rules context width types.AsPath value ≡ o → (b : Bool) → b ≡ false → IfSome (cond (is_some o && not b) None (Some value)) (IsFormed rules context width types.AsPath)
      by_fault value k None e b plain = value_is_formed rules context width types.AsPath value k e
      by_fault value k (Some fault) e true plain = absurd cc
      by_fault value k (Some fault) e false plain = tt

      by_value : (o : Option (List ℕ)) → IfSome o IsBytes → IfSome (cond (is_some (option_and_then (value_fault rules context width types.AsPath) o) && not (refuses_repeat context types.AsPath)) None o) (IsFormed rules context width types.AsPath)
      by_value None k = tt
      by_value (Some value) k = by_fault value k (value_fault rules context width types.AsPath value) refl (refuses_repeat context types.AsPath) (no_refusal context)

  path_is_spelled : width ≡ Four → IfSome (kept_value s.first types.AsPath) IsSpelled
  path_is_spelled e =
      subst (λ (o : Option (List ℕ)). IfSome o IsSpelled) (sym (h.values types.AsPath refl))
      (spelled_if rules context (kept_at types.AsPath) (subst (λ (w : Width). IfSome (kept_at types.AsPath) (IsFormed rules context w types.AsPath)) e path_is_formed))

  path_is_writable : IsWritable (path_from width (kept_value s.first))
  unfolding route_from
  path_is_writable =
      let written : IsWritable (route_from rules.kept width kept_at).path = said_writable rules.kept width kept_at (λ t. kept_fine IsBytes t (fine.values t)) in
      subst IsWritable (all_path width s.first s.asked) (subst (λ (r : Route). IsWritable r.path) (sym (route_from_same rules.kept width (all_values s.first s.asked) kept_at h.values)) written)

  is_packable : CanPackKept width s.first
  is_packable = record { four = path_is_spelled; writable = path_is_writable }

  are_short : AreShort s.asked
  are_short a asked =
      let looked : has rules.kept a ≡ true = ap (λ (set : AttributeSet). has set a) (sym same) ∙ asked in
      subst (λ (o : Option (List ℕ)). IfSome o IsShort) (sym (h.values (types.Kept a) looked)) (kept_fine IsShort (types.Kept a) (values_short (types.Kept a) attributes fine.fit))

  -- no byte is left
  whole_field : KeepsSound errors rules context width (front_of attributes []) s
  whole_field = record {
    values = h.values;
    once = h.once;
    keys = refl;
    grave = λ keys. grave_is errors rules context width attributes s h keys s.grave refl;
    packable = is_packable;
    short = are_short;
  }

  -- the rest runs past
  cut_field : (rest : List ℕ) → 0 < length rest → loses_keys (front_of attributes rest) ≡ false → KeepsSound errors rules context width (front_of attributes rest) (record s { grave = true })
  cut_field rest some keys = record {
    values = h.values;
    once = h.once;
    keys = keys;
    grave = λ fine'. ap (λ (b : Bool). b || has_grave errors rules context width attributes) (sym (lt-ltb 0 (length rest) some));
    packable = is_packable;
    short = are_short;
  }

-- ---- as a loop comes to it

pub on_err : {T E : Type 0} {P : Type 0} (r : Result T E) → P → OnErr r P
on_err (Ok x) h = tt
on_err (Err e) h = h

module _ (errors : ErrorRule) (rules : RouteRules) (context : AttributeContext) (width : Width) (bytes : List ℕ) (before : List WrittenAttribute) (rest : List ℕ) (fine : IsBytes bytes) (front : front_attributes bytes ≡ joined before (front_attributes rest)) where
  before_fine : (left : List ℕ) → joined before (front_attributes rest) ≡ front_of before left → AreFine before
  before_fine left e = subst (λ (f : FrontAttributes). AreFine f.whole) (front ∙ e) (front_fine bytes fine)

  pub keeps_whole : (s : SoundValues) → HoldsSound errors rules context width before s → s.asked.asked ≡ rules.kept → length rest ≡ 0 → KeepsSound errors rules context width (front_attributes bytes) s
  keeps_whole s h same none =
      let e = front_is_done before rest none in
      subst (λ (f : FrontAttributes). KeepsSound errors rules context width f s) (sym (front ∙ e)) (whole_field errors rules context width before s h same (before_fine [] e))

  pub keeps_cut : (s : SoundValues) (fault : Fault) → HoldsSound errors rules context width before s → s.asked.asked ≡ rules.kept → 0 < length rest → attribute_at rest ≡ Err fault → loses_keys (front_of before rest) ≡ false
      → KeepsSound errors rules context width (front_attributes bytes) (record s { grave = true })
  keeps_cut s fault h same some read keys =
      let e = front_is_cut before rest fault some read in
      subst (λ (f : FrontAttributes). KeepsSound errors rules context width f (record s { grave = true })) (sym (front ∙ e)) (cut_field errors rules context width before s h same (before_fine rest e) rest some keys)

  pub lost_cut : (fault : Fault) → 0 < length rest → attribute_at rest ≡ Err fault → loses_keys (front_of before rest) ≡ true → AreKeysLost rules context width (front_attributes bytes)
  lost_cut fault some read keys = subst (AreKeysLost rules context width) (sym (front ∙ front_is_cut before rest fault some read)) (inr keys)

  pub lost_whole : (a : WrittenAttribute) (after : List ℕ) → 0 < length rest → attribute_at rest ≡ Ok (a, after) → IsLost rules context width (before ++ a ∷ []) → AreKeysLost rules context width (front_attributes bytes)
  lost_whole a after some read lost =
      subst (AreKeysLost rules context width) (sym (front ∙ front_goes_on before rest a after some read)) (inl (lost_on rules context width (before ++ a ∷ []) (front_attributes after).whole lost))
