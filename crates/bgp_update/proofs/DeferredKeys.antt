-- The keys of MP_REACH_NLRI and MP_UNREACH_NLRI are read behind all attributes, and their fault is then the first one.
use Rattle.std.proofs.Common.{◌≡◌, ℕ, zero, suc, Bool, true, false, cond, eqb, List, [], ◌∷◌, length, Option, Some, None, Result, Ok, Err, refl, sym, ap, subst, ◌∙◌, ◌+◌, arith}
use Rattle.std.specs.Prelude.{option_map}
use Rattle.std.specs.Option.{option_and_then, option_or}
use Rattle.std.specs.Result.{result_err}
use Rattle.std.proofs.lemmas.Bool.{ne_eqb}
use Rattle.mrt_frame.specs.declared.fault.Fault.{Fault}
use Rattle.mrt_frame.specs.declared.fault.Fault.TheVariants.{BadPrefix}
use Rattle.mrt_frame.specs.Fields.{Reading, ◌>>=◌, byte_at, bytes_at, items_within, items_after}
use Rattle.bgp_prefix.proofs.KeyLaws.{or_none}
use Rattle.bgp_update.specs.Families.{FamilyOf, RouteRules, KeyForm, form_of}
use Rattle.bgp_update.specs.declared.attribute_type.AttributeType.{AttributeType}
use Rattle.bgp_update.specs.declared.attribute_type.AttributeType.TheVariants as types
use Rattle.bgp_update.specs.declared.width.Width.{Width}
use Rattle.bgp_update.specs.declared.attribute_context.AttributeContext.{AttributeContext}
use Rattle.bgp_update.specs.declared.attribute_context.AttributeContext.TheVariants.{RibEntry, Message}
use Rattle.bgp_update.specs.AttributeTypes.{type_of}
use Rattle.bgp_update.specs.Keys.{identifier_len, octets_at, written_key_at, keys_in}
use Rattle.bgp_update.specs.Multiprotocol.{reach_in, unreach_in, keys_beside, reached_in, unreached_in, reached_keys, unreached_keys}
use Rattle.bgp_update.specs.Attributes.{WrittenAttribute, has_type, value_fault, fault_of_type, fault_beside, repeat_fault}
use Rattle.bgp_update.specs.KeptAttributes.{kept_index}
use Rattle.bgp_update.specs.Values.{value_index, head_fault, head_fault_of_type, head_fault_beside, keys_fault}
use Rattle.bgp_update.proofs.Counts.{err_of_mapped}
use Rattle.bgp_update.proofs.TypeLaws.{value_index_decides, equal_value_indices}
use Rattle.bgp_update.proofs.FirstTaken.{head_beside, no_type}

abbrev Values : Type 0
Values = AttributeType → Option (List ℕ)

-- ---- readings that fail in one way alone

abbrev FailsAs : {A : Type 0} → Fault → Result A Fault → Type 0
FailsAs fault (Ok x) = Unit {0}
FailsAs fault (Err other) = other ≡ fault

bind_fails : {A B : Type 0} (fault : Fault) (r : Result A Fault) (f : A → Result B Fault) → FailsAs fault r → ((x : A) → FailsAs fault (f x)) → FailsAs fault (r >>= f)
bind_fails fault (Ok x) f h more = more x
bind_fails fault (Err other) f h more = h

guard_fails : {A : Type 0} (fault : Fault) (b : Bool) (x : A) → FailsAs {A = A} fault (cond b (Err fault) (Ok x))
guard_fails fault true x = refl
guard_fails fault false x = tt

-- behind a reading that doesn't fail
fails_behind : {A B : Type 0} (r : Result A Fault) (f : A → Result B Fault) (fault other : Fault) → result_err r ≡ None → ((x : A) → FailsAs fault (f x)) → result_err (r >>= f) ≡ Some other → other ≡ fault
fails_behind (Ok x) f fault other none more = of (f x) (more x)
  where
    of : {B : Type 0} (r : Result B Fault) → FailsAs fault r → result_err r ≡ Some other → other ≡ fault
    of (Ok y) h e = absurd cc
    of (Err found) h e = let same : found ≡ other = cc in sym same ∙ h
fails_behind (Err found) f fault other none more = absurd cc

-- ---- keys

key_fails : (form : KeyForm) (bytes : List ℕ) → FailsAs BadPrefix (written_key_at form bytes)
unfolding written_key_at
key_fails form bytes =
    bind_fails BadPrefix (bytes_at BadPrefix (identifier_len form.add_path) bytes) _ (guard_fails BadPrefix _ _)
    (λ identifier. bind_fails BadPrefix (byte_at BadPrefix identifier.1) _ (guard_fails BadPrefix _ _)
    (λ len. bind_fails BadPrefix (octets_at form.width len.0 len.1) _ (guard_fails BadPrefix _ _) (λ octets. tt)))

items_fail : {A : Type 0} (read : List ℕ → Reading A) (fault : Fault) → ((bytes : List ℕ) → FailsAs fault (read bytes)) → (steps : ℕ) (bytes : List ℕ)
    → FailsAs fault (items_within {S = Unit {0}} (λ s. read) (λ s x. s) fault steps tt bytes)
items_fail read fault h zero [] = tt
items_fail read fault h (suc steps) [] = tt
items_fail read fault h zero (b ∷ bytes) = refl
items_fail read fault h (suc steps) (b ∷ bytes) =
    bind_fails fault (read (b ∷ bytes)) _ (h (b ∷ bytes))
    (λ first. bind_fails fault (items_within {S = Unit {0}} (λ s. read) (λ s x. s) fault steps tt first.1) _ (items_fail read fault h steps first.1) (λ others. tt))

keys_fail : (form : KeyForm) (o : Option (List ℕ)) → FailsAs BadPrefix (keys_beside form o)
unfolding keys_in items_after
keys_fail form None = tt
keys_fail form (Some bytes) = items_fail (written_key_at form) BadPrefix (key_fails form) (length bytes) bytes

-- ---- an attribute's head, and its keys

-- the fault of a value in a message, if its head has none
abbrev value_keys : FamilyOf → Bool → AttributeType → List ℕ → Option Fault
value_keys family add_path types.MpReachNlri value = result_err (reached_in family add_path value)
value_keys family add_path types.MpUnreachNlri value = result_err (unreached_in family add_path value)
value_keys family add_path t value = None

abbrev pub first_keys : FamilyOf → AttributeContext → AttributeType → Option (List ℕ) → List ℕ → Option Fault
first_keys family RibEntry t o value = None
first_keys family (Message add_path) t None value = value_keys family add_path t value
first_keys family (Message add_path) t (Some first) value = None

-- the same of an attribute beside the first values of all types
abbrev pub added_keys : FamilyOf → AttributeContext → Values → WrittenAttribute → Option Fault
added_keys family context value_at a = option_and_then (λ t. first_keys family context t (value_at t) a.value) (type_of a.code)

head_first : {A B : Type 0} (r : Result A Fault) (f : A → Result B Fault) → result_err (r >>= f) ≡ option_or (result_err r) (result_err (r >>= f))
head_first (Ok x) f = refl
head_first (Err fault) f = refl

pub value_parts : (rules : RouteRules) (context : AttributeContext) (width : Width) (t : AttributeType) (value : List ℕ) → value_fault rules context width t value ≡ option_or (head_fault rules context width t value) (first_keys rules.family context t None value)
unfolding head_fault value_fault
value_parts rules (Message add_path) width types.MpReachNlri value = head_first (reach_in rules.family value) _
value_parts rules (Message add_path) width types.MpUnreachNlri value = head_first (unreach_in rules.family value) _
value_parts rules (Message add_path) width t value = sym (or_none (value_fault rules (Message add_path) width t value))
value_parts rules RibEntry width types.MpReachNlri value = sym (or_none (value_fault rules RibEntry width types.MpReachNlri value))
value_parts rules RibEntry width t value = sym (or_none (value_fault rules RibEntry width t value))

pub beside_parts : (rules : RouteRules) (context : AttributeContext) (width : Width) (value_at : Values) (a : WrittenAttribute) → fault_beside rules context width value_at a ≡ option_or (head_fault_beside rules context width value_at a) (added_keys rules.family context value_at a)
beside_parts rules context width value_at a = by_type (type_of a.code)
  where
    again : (c : AttributeContext) (t : AttributeType) (first : List ℕ) → repeat_fault c t ≡ option_or (repeat_fault c t) (first_keys rules.family c t (Some first) a.value)
    again RibEntry t first = sym (or_none (repeat_fault RibEntry t))
    again (Message add_path) t first = sym (or_none (repeat_fault (Message add_path) t))

    by_value : (t : AttributeType) (o : Option (List ℕ)) → fault_of_type rules context width t o a.value ≡ option_or (head_fault_of_type rules context width t o a.value) (first_keys rules.family context t o a.value)
    by_value t None = value_parts rules context width t a.value
    by_value t (Some first) = again context t first

    by_type : (o : Option AttributeType) → option_and_then (λ t. fault_of_type rules context width t (value_at t) a.value) o ≡ option_or (option_and_then (λ t. head_fault_of_type rules context width t (value_at t) a.value) o) (option_and_then (λ t. first_keys rules.family context t (value_at t) a.value) o)
    by_type None = refl
    by_type (Some t) = by_value t (value_at t)

-- ---- one more attribute

-- Beside keys without a fault, that of an attribute's keys is the one of all keys then, and a broken prefix. A fault of
-- keys, which is a broken prefix, stays.
pub record KeysStep (old added new : Option Fault) : Type 0 where
  pub finds : old ≡ None → added ≡ new
  pub prefix : old ≡ None → (fault : Fault) → new ≡ Some fault → fault ≡ BadPrefix
  pub stays : (fault : Fault) → old ≡ Some fault → fault ≡ BadPrefix → new ≡ Some fault

-- it has no keys
no_keys : (old : Option Fault) → KeysStep old None old
no_keys old = record { finds = λ e. sym e; prefix = λ none fault e. absurd cc; stays = λ fault e is. e }

-- it is MP_UNREACH_NLRI
unreached_steps : (added reached : Option Fault) → ((fault : Fault) → added ≡ Some fault → fault ≡ BadPrefix) → KeysStep reached added (option_or added reached)
unreached_steps None reached bad = no_keys reached
unreached_steps (Some added) None bad = record { finds = λ e. refl; prefix = λ none fault e. bad fault e; stays = λ fault e is. absurd cc }
unreached_steps (Some added) (Some other) bad = record { finds = λ e. absurd cc; prefix = λ none. absurd cc; stays = λ fault e is. ap (λ (f : Fault). Some f) (bad added refl ∙ sym is) }

-- it is MP_REACH_NLRI
reached_steps : (unreached added : Option Fault) → ((fault : Fault) → added ≡ Some fault → fault ≡ BadPrefix) → KeysStep unreached added (option_or unreached added)
reached_steps None added bad = record { finds = λ e. refl; prefix = λ none fault e. bad fault e; stays = λ fault e is. absurd cc }
reached_steps (Some other) added bad = record { finds = λ e. absurd cc; prefix = λ none. absurd cc; stays = λ fault e is. e }

moved : (old old' added added' new new' : Option Fault) → old ≡ old' → added ≡ added' → new ≡ new' → KeysStep old' added' new' → KeysStep old added new
moved old old' added added' new new' o f n h = subst (λ x. KeysStep x added new) (sym o) (subst (λ x. KeysStep old' x new) (sym f) (subst (λ x. KeysStep old' added' x) (sym n) h))

-- the values that are kept behind an attribute
abbrev pub later_values : Values → WrittenAttribute → Values
later_values value_at a t = option_or (value_at t) (cond (has_type t a) (Some a.value) None)

module _ (rules : RouteRules) (add_path : Bool) (width : Width) (value_at : Values) (a : WrittenAttribute) (fine : head_fault_beside rules (Message add_path) width value_at a ≡ None) where
  abbrev message : AttributeContext
  message = Message add_path

  abbrev later : Values
  later = later_values value_at a

  abbrev unreached : Option (List ℕ) → Option Fault
  unreached o = result_err (unreached_keys rules.family add_path o)

  abbrev reached : Option (List ℕ) → Option Fault
  reached o = result_err (reached_keys rules.family add_path o)

  unreached_is : (o : Option (List ℕ)) → unreached o ≡ option_and_then (λ value. result_err (unreached_in rules.family add_path value)) o
  unfolding unreached_keys
  unreached_is None = refl
  unreached_is (Some value) = err_of_mapped (unreached_in rules.family add_path value) _

  reached_is : (o : Option (List ℕ)) → reached o ≡ option_and_then (λ value. result_err (reached_in rules.family add_path value)) o
  unfolding reached_keys
  reached_is None = refl
  reached_is (Some value) = err_of_mapped (reached_in rules.family add_path value) _

  -- an attribute of another type, or that isn't looked at, leaves a value as it is
  other_value : (u : AttributeType) → has_type u a ≡ false → later u ≡ value_at u
  other_value u e = ap (λ (b : Bool). option_or (value_at u) (cond b (Some a.value) None)) e ∙ or_none (value_at u)

  first_value : (u : AttributeType) → value_at u ≡ None → has_type u a ≡ true → later u ≡ Some a.value
  first_value u none e = λ i. option_or (none i) (cond (e i) (Some a.value) None)

  -- a repeat leaves all values as they are
  again_value : (t u : AttributeType) (first : List ℕ) → type_of a.code ≡ Some t → value_at t ≡ Some first → later u ≡ value_at u
  again_value t u first e held = by_test (eqb (value_index u) (value_index t)) refl
    where
      by_test : (b : Bool) → eqb (value_index u) (value_index t) ≡ b → later u ≡ value_at u
      by_test false h = other_value u (value_index_decides a.code t u e ∙ h)
      by_test true h =
          let own : value_at u ≡ Some first = ap value_at (equal_value_indices u t h) ∙ held in
          ap (λ (o : Option (List ℕ)). option_or o (cond (has_type u a) (Some a.value) None)) own ∙ sym own

  abbrev Goal : Type 0
  Goal = KeysStep (keys_fault rules.family message value_at) (added_keys rules.family message value_at a) (keys_fault rules.family message later)

  -- the keys of an attribute of a type
  adds : (t : AttributeType) (o : Option (List ℕ)) → type_of a.code ≡ Some t → value_at t ≡ o → added_keys rules.family message value_at a ≡ first_keys rules.family message t o a.value
  adds t o e h = rw e (ap (λ (x : Option (List ℕ)). first_keys rules.family message t x a.value) h)

  -- neither value changes
  same : added_keys rules.family message value_at a ≡ None → later types.MpUnreachNlri ≡ value_at types.MpUnreachNlri → later types.MpReachNlri ≡ value_at types.MpReachNlri → Goal
  same f u r = moved _ _ _ _ _ _ refl f (λ i. option_or (unreached (u i)) (reached (r i))) (no_keys (keys_fault rules.family message value_at))

  first_of : (t : AttributeType) → type_of a.code ≡ Some t → value_at t ≡ None → Goal
  unfolding head_fault
  first_of types.MpUnreachNlri e none =
      let head : result_err (unreach_in rules.family a.value) ≡ None = sym (head_beside rules message width value_at a types.MpUnreachNlri None e none) ∙ fine in
      let r = other_value types.MpReachNlri (value_index_decides a.code types.MpUnreachNlri types.MpReachNlri e) in
      let u = first_value types.MpUnreachNlri none (value_index_decides a.code types.MpUnreachNlri types.MpUnreachNlri e) in
      moved _ _ _ _ _ _ (λ i. option_or ((ap unreached none ∙ unreached_is None) i) (reached (value_at types.MpReachNlri))) (adds types.MpUnreachNlri None e none)
      (λ i. option_or ((ap unreached u ∙ unreached_is (Some a.value)) i) (reached (r i)))
      (unreached_steps (result_err (unreached_in rules.family add_path a.value)) (reached (value_at types.MpReachNlri)) (λ fault. fails_behind (unreach_in rules.family a.value) _ BadPrefix fault head (λ field. keys_fail _ field)))
  first_of types.MpReachNlri e none =
      let head : result_err (reach_in rules.family a.value) ≡ None = sym (head_beside rules message width value_at a types.MpReachNlri None e none) ∙ fine in
      let u = other_value types.MpUnreachNlri (value_index_decides a.code types.MpReachNlri types.MpUnreachNlri e) in
      let r = first_value types.MpReachNlri none (value_index_decides a.code types.MpReachNlri types.MpReachNlri e) in
      let keys : (reach : _) → FailsAs BadPrefix _ = λ reach. bind_fails BadPrefix (keys_beside (form_of rules.family add_path) (option_map (λ r. r.1) reach)) _ (keys_fail _ _) (λ keys. tt) in
      moved _ _ _ _ _ _ ((λ i. option_or (unreached (value_at types.MpUnreachNlri)) ((ap reached none ∙ reached_is None) i)) ∙ or_none (unreached (value_at types.MpUnreachNlri))) (adds types.MpReachNlri None e none)
      (λ i. option_or (unreached (u i)) ((ap reached r ∙ reached_is (Some a.value)) i))
      (reached_steps (unreached (value_at types.MpUnreachNlri)) (result_err (reached_in rules.family add_path a.value)) (λ fault. fails_behind (reach_in rules.family a.value) _ BadPrefix fault head keys))
  first_of (types.Kept k) e none =
      same (adds (types.Kept k) None e none)
      (other_value types.MpUnreachNlri (value_index_decides a.code (types.Kept k) types.MpUnreachNlri e ∙ ne_eqb 7 (11 + kept_index k) (λ h. absurd (omega (arith, h)))))
      (other_value types.MpReachNlri (value_index_decides a.code (types.Kept k) types.MpReachNlri e ∙ ne_eqb 6 (11 + kept_index k) (λ h. absurd (omega (arith, h)))))
  first_of t e none =
      same (adds t None e none) (other_value types.MpUnreachNlri (value_index_decides a.code t types.MpUnreachNlri e)) (other_value types.MpReachNlri (value_index_decides a.code t types.MpReachNlri e))

  by_type : (o : Option AttributeType) → type_of a.code ≡ o → Goal
  by_type None e = same (rw e refl) (other_value types.MpUnreachNlri (no_type a.code types.MpUnreachNlri e)) (other_value types.MpReachNlri (no_type a.code types.MpReachNlri e))
  by_type (Some t) e = by_value (value_at t) refl
    where
      by_value : (o : Option (List ℕ)) → value_at t ≡ o → Goal
      by_value None h = first_of t e h
      by_value (Some first) h = same (adds t (Some first) e h) (again_value t types.MpUnreachNlri first e h) (again_value t types.MpReachNlri first e h)

-- the fault of keys behind an attribute whose head is fine
pub keys_step : (rules : RouteRules) (context : AttributeContext) (width : Width) (value_at : Values) (a : WrittenAttribute) → head_fault_beside rules context width value_at a ≡ None
    → KeysStep (keys_fault rules.family context value_at) (added_keys rules.family context value_at a) (keys_fault rules.family context (later_values value_at a))
keys_step rules RibEntry width value_at a fine = moved _ _ _ _ _ _ refl (none_of (type_of a.code) None refl) refl (no_keys None)
  where
    none_of : (o : Option AttributeType) (n : Option Fault) → n ≡ None → option_and_then (λ t. n) o ≡ None
    none_of None n e = refl
    none_of (Some t) n e = e
keys_step rules (Message add_path) width value_at a fine = by_type rules add_path width value_at a fine (type_of a.code) refl
