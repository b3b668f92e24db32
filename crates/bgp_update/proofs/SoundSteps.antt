-- Where damage is handled: an attribute is taken, passed over, or left out.
use Rattle.std.proofs.Common.{◌≡◌, ◌≢◌, ℕ, ◌<◌, Bool, true, false, not, ◌&&◌, cond, eqb, List, [], ◌∷◌, ◌++◌, length, set, Option, Some, None, refl, sym, ap, subst, ◌∙◌, arith, inl, inr}
use Rattle.std.specs.Prelude.{is_some, slice_index_or}
use Rattle.std.specs.Option.{option_and_then, option_or}
use Rattle.std.proofs.lemmas.Bool.{and_parts, eq-eqb, le-ltb, lt-ltb, ltb-false}
use Rattle.std.proofs.lemmas.Option.{none-some}
use Rattle.std.proofs.lemmas.List.{get_or-set_same, get_or-set_other}
use Rattle.std.proofs.Math.Bool.{and-false}
use Rattle.mrt_frame.specs.declared.fault.Fault.{Fault}
use Rattle.bgp_prefix.proofs.KeyLaws.{or_none}
use borrow.Author.Tests.{both_ways}
use Rattle.bgp_update.specs.declared.attribute_type.AttributeType.{AttributeType}
use Rattle.bgp_update.specs.declared.attribute_type.AttributeType.TheVariants as types
use Rattle.bgp_update.specs.declared.kept_attribute.KeptAttribute.{KeptAttribute}
use Rattle.bgp_update.specs.declared.kept_attribute.KeptAttribute.TheVariants.{Communities, ExtendedCommunities, LargeCommunities, OriginatorId, ClusterList, OnlyToCustomer}
use Rattle.bgp_update.specs.declared.width.Width.{Width}
use Rattle.bgp_update.specs.declared.attribute_context.AttributeContext.{AttributeContext}
use Rattle.bgp_update.specs.declared.attribute_context.AttributeContext.TheVariants.{RibEntry, Message}
use Rattle.bgp_update.specs.declared.error_rule.ErrorRule.{ErrorRule}
use Rattle.bgp_update.specs.declared.values.FirstValues.{FirstValues}
use Rattle.bgp_update.specs.declared.asked_values.AskedValues.{AskedValues}
use Rattle.bgp_update.specs.declared.sound_values.SoundValues.{SoundValues}
use Rattle.bgp_update.specs.AttributeTypes.{type_of}
use Rattle.bgp_update.specs.ErrorRules.{is_discarded}
use Rattle.bgp_update.specs.Families.{RouteRules}
use Rattle.bgp_update.specs.Attributes.{WrittenAttribute, has_type, looks_at, refuses_repeat, repeat_fault, value_fault, value_of}
use Rattle.bgp_update.specs.Handling.{is_faulty, repeats}
use Rattle.bgp_update.specs.Values.{Values, all_values, head_fault, head_fault_of_type, value_index, RefusesAttribute, TakesAttribute}
use Rattle.bgp_update.specs.SoundValues.{HoldsSound, IsLost, is_left_out, value_left}
use Rattle.bgp_update.proofs.TypeLaws.{equal_value_indices, value_index_decides}
use Rattle.bgp_update.proofs.FirstTaken.{head_beside, no_type, unlooked}
use Rattle.bgp_update.proofs.AttributeLoop.{no_fault_unlooked, value_of_front}
use Rattle.bgp_update.proofs.AttributeLaws.{count, count_last, counted, none_or_some, own_type, repeat_allowed, ticked, typed, uncounted, unticked}
use Rattle.bgp_update.proofs.DeferredKeys.{first_keys, value_parts}

-- ---- types

pub same_type : (code : ℕ) (t u : AttributeType) → type_of code ≡ Some t → type_of code ≡ Some u → t ≡ u
same_type code t u e f = some_is (sym e ∙ f)
  where
    some_is : Some t ≡ Some u → t ≡ u
    some_is h = cc

kept_few : (a : KeptAttribute) → value_index (types.Kept a) < 17
kept_few Communities = omega arith
kept_few ExtendedCommunities = omega arith
kept_few LargeCommunities = omega arith
kept_few OriginatorId = omega arith
kept_few ClusterList = omega arith
kept_few OnlyToCustomer = omega arith

few_indices : (t : AttributeType) → value_index t < 17
few_indices (types.Kept a) = kept_few a
few_indices types.Origin = omega arith
few_indices t = omega arith

-- a type whose repeats are refused is looked at
pub refused_looked : (rules : RouteRules) (context : AttributeContext) (t : AttributeType) → refuses_repeat context t ≡ true → looks_at rules t ≡ true
refused_looked rules RibEntry t e = absurd cc
refused_looked rules (Message add_path) (types.Kept a) e = absurd cc
refused_looked rules (Message add_path) t e = refl

-- where repeats aren't refused, no keys are checked apart
head_is : (rules : RouteRules) (context : AttributeContext) (width : Width) (t : AttributeType) (value : List ℕ) → refuses_repeat context t ≡ false → value_fault rules context width t value ≡ head_fault rules context width t value
unfolding head_fault value_fault
head_is rules RibEntry width types.MpReachNlri value e = refl
head_is rules RibEntry width t value e = refl
head_is rules (Message add_path) width types.MpReachNlri value e = absurd cc
head_is rules (Message add_path) width types.MpUnreachNlri value e = absurd cc
head_is rules (Message add_path) width t value e = refl

-- a fault of a head is one of the value
head_faults : (rules : RouteRules) (context : AttributeContext) (width : Width) (t : AttributeType) (value : List ℕ) (fault : Fault) → head_fault rules context width t value ≡ Some fault → is_some (value_fault rules context width t value) ≡ true
head_faults rules context width t value fault e = ap is_some (value_parts rules context width t value ∙ ap (λ (o : Option Fault). option_or o (first_keys rules.family context t None value)) e)

no_repeat : (context : AttributeContext) (t : AttributeType) → refuses_repeat context t ≡ false → repeat_fault context t ≡ None
no_repeat context t e = rw e refl

-- ---- first values, one attribute later

module _ (before : List WrittenAttribute) (a : WrittenAttribute) where
  abbrev after : List WrittenAttribute
  after = before ++ a ∷ []

  other_first : (u : AttributeType) → has_type u a ≡ false → value_of u after ≡ value_of u before
  other_first u e = value_of_front u before (a ∷ []) ∙ ap (λ (b : Bool). option_or (value_of u before) (cond b (Some a.value) None)) e ∙ or_none (value_of u before)

  again_first : (u : AttributeType) (value : List ℕ) → value_of u before ≡ Some value → value_of u after ≡ value_of u before
  again_first u value e = value_of_front u before (a ∷ []) ∙ ap (λ (o : Option (List ℕ)). option_or o (value_of u (a ∷ []))) e ∙ sym e

  new_first : (u : AttributeType) → value_of u before ≡ None → has_type u a ≡ true → value_of u after ≡ Some a.value
  new_first u none e = value_of_front u before (a ∷ []) ∙ ap (λ (o : Option (List ℕ)). option_or o (value_of u (a ∷ []))) none ∙ ap (λ (b : Bool). cond b (Some a.value) None) e

  other_once : (u : AttributeType) → has_type u a ≡ false → repeats u before ≡ false → repeats u after ≡ false
  other_once u e once = le-ltb 1 (count u after) (omega (arith, ltb-false 1 (count u before) once, count_last u before a, unticked u a e))

  new_once : (u : AttributeType) → value_of u before ≡ None → has_type u a ≡ true → repeats u after ≡ false
  new_once u none e = le-ltb 1 (count u after) (omega (arith, count_last u before a, ticked u a e, uncounted u before none))

  twice : (u : AttributeType) (value : List ℕ) → value_of u before ≡ Some value → has_type u a ≡ true → repeats u after ≡ true
  twice u value some e = lt-ltb 1 (count u after) (omega (arith, count_last u before a, ticked u a e, counted u before value some))

module _ (errors : ErrorRule) (rules : RouteRules) (context : AttributeContext) (width : Width) where
  abbrev left : List WrittenAttribute → AttributeType → Bool
  left attributes t = is_left_out rules context width attributes t

  -- it depends on the first value of the type
  abbrev left_of : AttributeType → Option (List ℕ) → Bool
  left_of t o = is_some (option_and_then (value_fault rules context width t) o) && not (refuses_repeat context t)

  abbrev Holds : List WrittenAttribute → SoundValues → Type 0
  Holds attributes s = HoldsSound errors rules context width attributes s

  not_refused : (attributes : List WrittenAttribute) (t : AttributeType) → left attributes t ≡ true → refuses_repeat context t ≡ true → ⊥
  not_refused attributes t e refused =
      let open' : not (refuses_repeat context t) ≡ true = (and_parts (is_faulty rules context width attributes t) (not (refuses_repeat context t)) e).1 in
      let shut : not (refuses_repeat context t) ≡ false = ap not refused in
      both_ways (not (refuses_repeat context t)) shut open'

  -- a value that is left out is there
  has_value : (attributes : List WrittenAttribute) (t : AttributeType) → left attributes t ≡ true → (value : List ℕ) × (value_of t attributes ≡ Some value)
  has_value attributes t e =
      elim (none_or_some (value_of t attributes)) [
        | inl none ↦ absurd (both_ways (left attributes t) (ap (left_of t) none) e)
        | inr some ↦ some
      ]

  value_at : (attributes : List WrittenAttribute) (t : AttributeType) → left attributes t ≡ false → value_left rules context width attributes t ≡ value_of t attributes
  value_at attributes t e = ap (λ (b : Bool). cond b None (value_of t attributes)) e

  faulty_is_left : (t : AttributeType) (value : List ℕ) (fault : Fault) → refuses_repeat context t ≡ false → head_fault rules context width t value ≡ Some fault → left_of t (Some value) ≡ true
  faulty_is_left t value fault allowed e = rw (allowed, head_faults rules context width t value fault e) refl

  module _ (before : List WrittenAttribute) (a : WrittenAttribute) (s : SoundValues) (h : Holds before s) where
    abbrev later : List WrittenAttribute
    later = before ++ a ∷ []

    abbrev held : Values
    held = all_values s.first s.asked

    -- it changes no first value
    stays : ((u : AttributeType) → value_of u later ≡ value_of u before) → ((u : AttributeType) → refuses_repeat context u ≡ true → repeats u later ≡ false) → Holds later s
    stays same once = record {
      values = λ u looked. h.values u looked ∙ ap (λ (o : Option (List ℕ)). cond (left_of u o) None o) (sym (same u));
      marks = λ u. h.marks u ∙ ap (left_of u) (sym (same u));
      once = once;
      grave = λ e. let g = h.grave e in (g.0, ap (left_of g.0) (same g.0) ∙ g.1, g.2);
      light = λ u e more. h.light u (ap (left_of u) (sym (same u)) ∙ e) more;
    }

    -- a type that isn't looked at
    pub passes_unknown : type_of a.code ≡ None → Holds later s
    passes_unknown e = stays (λ u. other_first before a u (no_type a.code u e)) (λ u refused. other_once before a u (no_type a.code u e) (h.once u refused))

    module _ (t : AttributeType) (of_type : type_of a.code ≡ Some t) where
      own : has_type t a ≡ true
      own = own_type a t of_type

      is_type : (u : AttributeType) → has_type u a ≡ true → t ≡ u
      is_type u e = same_type a.code t u of_type (typed a u e)

      -- one whose first value was left out
      pub passes_marked : slice_index_or s.malformed (value_index t) false ≡ true → Holds later s
      passes_marked marked = stays (λ u. same u (has_type u a) refl) (λ u refused. once u refused (has_type u a) refl)
        where
          out : left before t ≡ true
          out = sym (h.marks t) ∙ marked

          some : (value : List ℕ) × (value_of t before ≡ Some value)
          some = has_value before t out

          same : (u : AttributeType) (b : Bool) → has_type u a ≡ b → value_of u later ≡ value_of u before
          same u false e = other_first before a u e
          same u true e = again_first before a u some.0 (ap (λ (x : AttributeType). value_of x before) (sym (is_type u e)) ∙ some.1)

          once : (u : AttributeType) → refuses_repeat context u ≡ true → (b : Bool) → has_type u a ≡ b → repeats u later ≡ false
          once u refused false e = other_once before a u e (h.once u refused)
          once u refused true e = absurd (not_refused before t out (ap (refuses_repeat context) (is_type u e) ∙ refused))

      module _ (unmarked : slice_index_or s.malformed (value_index t) false ≡ false) where
        inside : left before t ≡ false
        inside = sym (h.marks t) ∙ unmarked

        held_is : looks_at rules t ≡ true → held t ≡ value_of t before
        held_is looked = h.values t looked ∙ value_at before t inside

        -- a second MP_REACH_NLRI or MP_UNREACH_NLRI, or a malformed one
        pub loses : (fault : Fault) → refuses_repeat context t ≡ true → RefusesAttribute rules context width held a fault → IsLost rules context width later
        loses fault refused refuses = (
          t,
          refused,
          elim (none_or_some (value_of t before)) [
            | inr some ↦ inl (twice before a t some.0 some.1 own)
            | inl none ↦ inr (faulty none)
          ],
        )
          where
            faulty : value_of t before ≡ None → is_faulty rules context width later t ≡ true
            faulty none =
                let absent : held t ≡ None = held_is (refused_looked rules context t refused) ∙ none in
                let head : head_fault rules context width t a.value ≡ Some fault = sym (head_beside rules context width held a t None of_type absent) ∙ refuses in
                ap (λ (o : Option (List ℕ)). is_some (option_and_then (value_fault rules context width t) o)) (new_first before a t none own) ∙ head_faults rules context width t a.value fault head

        -- ---- it is taken

        module _ (first : FirstValues) (asked : AskedValues) (takes : TakesAttribute rules context width held a (all_values first asked)) where
          -- its value isn't malformed, where it is the first
          fine : value_of t before ≡ None → left_of t (Some a.value) ≡ false
          fine none = by_refusal (refuses_repeat context t) refl
            where
              by_look : refuses_repeat context t ≡ false → (b : Bool) → looks_at rules t ≡ b → value_fault rules context width t a.value ≡ None
              by_look allowed true looked =
                  let absent : held t ≡ None = held_is looked ∙ none in
                  head_is rules context width t a.value allowed ∙ sym (head_beside rules context width held a t None of_type absent) ∙ takes.passes
              by_look allowed false unasked = no_fault_unlooked rules context width t None a.value unasked

              by_refusal : (b : Bool) → refuses_repeat context t ≡ b → left_of t (Some a.value) ≡ false
              by_refusal true refused = ap (λ (b : Bool). is_some (value_fault rules context width t a.value) && not b) refused ∙ and-false (is_some (value_fault rules context width t a.value))
              by_refusal false allowed = ap (λ (o : Option Fault). is_some o && not (refuses_repeat context t)) (by_look allowed (looks_at rules t) refl)

          same_own : left later t ≡ left before t
          same_own =
              elim (none_or_some (value_of t before)) [
                | inr some ↦ ap (left_of t) (again_first before a t some.0 some.1)
                | inl none ↦ ap (left_of t) (new_first before a t none own) ∙ fine none ∙ sym (ap (left_of t) none)
              ]

          same_left : (u : AttributeType) → left later u ≡ left before u
          same_left u = by_type (has_type u a) refl
            where
              by_type : (b : Bool) → has_type u a ≡ b → left later u ≡ left before u
              by_type false e = ap (left_of u) (other_first before a u e)
              by_type true e = subst (λ (x : AttributeType). left later x ≡ left before x) (is_type u e) same_own

          moves : (u : AttributeType) → looks_at rules u ≡ true → all_values first asked u ≡ value_left rules context width later u
          moves u looked =
              takes.kept u looked ∙ ap (λ (o : Option (List ℕ)). option_or o (cond (has_type u a) (Some a.value) None)) (h.values u looked)
              ∙ by_left (left before u) refl ∙ (λ i. cond (sym (same_left u) i) None (sym (value_of_front u before (a ∷ [])) i))
            where
              other : left before u ≡ true → (b : Bool) → has_type u a ≡ b → cond b (Some a.value) None ≡ None
              other e false k = refl
              other e true k = absurd (both_ways (left before u) (subst (λ (x : AttributeType). left before x ≡ false) (is_type u k) inside) e)

              by_left : (b : Bool) → left before u ≡ b → option_or (cond b None (value_of u before)) (cond (has_type u a) (Some a.value) None) ≡ cond b None (option_or (value_of u before) (cond (has_type u a) (Some a.value) None))
              by_left false e = refl
              by_left true e = other e (has_type u a) refl

          once : (u : AttributeType) → refuses_repeat context u ≡ true → (b : Bool) → has_type u a ≡ b → repeats u later ≡ false
          once u refused false e = other_once before a u e (h.once u refused)
          once u refused true e =
              let refused' : refuses_repeat context t ≡ true = ap (refuses_repeat context) (is_type u e) ∙ refused in
              subst (λ (x : AttributeType). repeats x later ≡ false) (is_type u e)
              (elim (none_or_some (value_of t before)) [
                | inl none ↦ new_once before a t none own
                | inr some ↦ absurd (repeat_allowed context t (sym (head_beside rules context width held a t (Some some.0) of_type (held_is (refused_looked rules context t refused') ∙ some.1)) ∙ takes.passes) refused')
              ])

          pub takes_value : Holds later (record { first = first; asked = asked; malformed = s.malformed; grave = s.grave })
          takes_value = record {
            values = moves;
            marks = λ u. h.marks u ∙ sym (same_left u);
            once = λ u refused. once u refused (has_type u a) refl;
            grave = λ e. let g = h.grave e in (g.0, same_left g.0 ∙ g.1, g.2);
            light = λ u e more. h.light u (sym (same_left u) ∙ e) more;
          }

        -- ---- it is left out

        module _ (fault : Fault) (allowed : refuses_repeat context t ≡ false) (refuses : RefusesAttribute rules context width held a fault) where
          unheld : held t ≡ None
          unheld = by_value (held t) refl
            where
              by_value : (o : Option (List ℕ)) → held t ≡ o → o ≡ None
              by_value None e = refl
              by_value (Some value) e =
                  let none : head_fault_of_type rules context width t (Some value) a.value ≡ None = no_repeat context t allowed in
                  let some : head_fault_of_type rules context width t (Some value) a.value ≡ Some fault = sym (head_beside rules context width held a t (Some value) of_type e) ∙ refuses in
                  absurd cc

          head : head_fault rules context width t a.value ≡ Some fault
          head = sym (head_beside rules context width held a t None of_type unheld) ∙ refuses

          looked_at : (b : Bool) → looks_at rules t ≡ b → b ≡ true
          looked_at true e = refl
          looked_at false e = absurd (none-some fault (sym (unlooked rules context width t None a.value e) ∙ head))

          absent : value_of t before ≡ None
          absent = sym (held_is (looked_at (looks_at rules t) refl)) ∙ unheld

          out : left later t ≡ true
          out = ap (left_of t) (new_first before a t absent own) ∙ faulty_is_left t a.value fault allowed head

          other : (u : AttributeType) → eqb (value_index u) (value_index t) ≡ false → value_of u later ≡ value_of u before
          other u e = other_first before a u (value_index_decides a.code t u of_type ∙ e)

          is_own : (u : AttributeType) → eqb (value_index u) (value_index t) ≡ true → t ≡ u
          is_own u e = sym (equal_value_indices u t e)

          module _ (new : SoundValues) (marks : length s.malformed ≡ 17) (same : new.first ≡ s.first) (same_asked : new.asked ≡ s.asked) (marked : new.malformed ≡ set s.malformed (value_index t) true)
              (grave : new.grave ≡ cond (is_discarded errors t) s.grave true) where
            values_stay : (u : AttributeType) → all_values new.first new.asked u ≡ held u
            values_stay u = λ i. all_values (same i) (same_asked i) u

            values : (u : AttributeType) → looks_at rules u ≡ true → (b : Bool) → eqb (value_index u) (value_index t) ≡ b → held u ≡ value_left rules context width later u
            values u looked false e = h.values u looked ∙ ap (λ (o : Option (List ℕ)). cond (left_of u o) None o) (sym (other u e))
            values u looked true e =
                subst (λ (x : AttributeType). held x ≡ value_left rules context width later x) (is_own u e)
                (unheld ∙ sym (ap (λ (b : Bool). cond b None (value_of t later)) out))

            marks_are : (u : AttributeType) (b : Bool) → eqb (value_index u) (value_index t) ≡ b → slice_index_or (set s.malformed (value_index t) true) (value_index u) false ≡ left later u
            marks_are u false e =
                let apart : value_index u ≢ value_index t = λ same'. both_ways (eqb (value_index u) (value_index t)) e (eq-eqb (value_index u) (value_index t) same') in
                get_or-set_other s.malformed (value_index t) (value_index u) true false apart ∙ h.marks u ∙ sym (ap (left_of u) (other u e))
            marks_are u true e =
                subst (λ (x : AttributeType). slice_index_or (set s.malformed (value_index t) true) (value_index x) false ≡ left later x) (is_own u e)
                (get_or-set_same s.malformed (value_index t) true false (omega (arith, marks, few_indices t)) ∙ sym out)

            once_left : (u : AttributeType) → refuses_repeat context u ≡ true → (b : Bool) → has_type u a ≡ b → repeats u later ≡ false
            once_left u refused false e = other_once before a u e (h.once u refused)
            once_left u refused true e = absurd (both_ways (refuses_repeat context t) allowed (ap (refuses_repeat context) (is_type u e) ∙ refused))

            still_out : (u : AttributeType) → left before u ≡ true → (b : Bool) → eqb (value_index u) (value_index t) ≡ b → left later u ≡ true
            still_out u e false apart = ap (left_of u) (other u apart) ∙ e
            still_out u e true same' = subst (λ (x : AttributeType). left later x ≡ true) (is_own u same') out

            grave_by : (b : Bool) → is_discarded errors t ≡ b → cond b s.grave true ≡ true → (u : AttributeType) × (left later u ≡ true) × (is_discarded errors u ≡ false)
            grave_by false d e = (t, out, d)
            grave_by true d e =
                let g = h.grave e in
                (g.0, still_out g.0 g.1 (eqb (value_index g.0) (value_index t)) refl, g.2)

            light_by : (u : AttributeType) → left later u ≡ true → is_discarded errors u ≡ false → (b : Bool) → eqb (value_index u) (value_index t) ≡ b → cond (is_discarded errors t) s.grave true ≡ true
            light_by u e more true same' = ap (λ (b : Bool). cond b s.grave true) (subst (λ (x : AttributeType). is_discarded errors x ≡ false) (sym (is_own u same')) more)
            light_by u e more false apart =
                let old : s.grave ≡ true = h.light u (ap (left_of u) (sym (other u apart)) ∙ e) more in
                either (is_discarded errors t) old
              where
                either : (b : Bool) → s.grave ≡ true → cond b s.grave true ≡ true
                either true k = k
                either false k = refl

            pub leaves_out : Holds later new
            leaves_out = record {
              values = λ u looked. values_stay u ∙ values u looked (eqb (value_index u) (value_index t)) refl;
              marks = λ u. ap (λ (m : List Bool). slice_index_or m (value_index u) false) marked ∙ marks_are u (eqb (value_index u) (value_index t)) refl;
              once = λ u refused. once_left u refused (has_type u a) refl;
              grave = λ e. grave_by (is_discarded errors t) refl (sym grave ∙ e);
              light = λ u e more. grave ∙ light_by u e more (eqb (value_index u) (value_index t)) refl;
            }
