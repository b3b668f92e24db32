-- What is done about damaged attributes where they are handled: attribute discard and treat-as-withdraw (RFC 7606,
-- sections 2 to 5 and 7).
use Rattle.std.specs.Prelude.{ℕ, zero, suc, Bool, true, false, not, ◌&&◌, ◌||◌, List, [], ◌∷◌, ◌++◌, length, slice_index, Option, None, Result, Ok, Err, is_some, is_none, nat_lt, ◌==◌, option_map, unwrap_or, if◌then◌else◌, count_by}
use Rattle.std.specs.List.{list_any}
use Rattle.std.specs.Option.{option_and_then}
use Rattle.bgp_prefix.specs.Keys.{RouteKey}
use Rattle.mrt_frame.specs.declared.fault.Fault.{Fault}
use Rattle.mrt_frame.specs.declared.fault.Fault.TheVariants.{ShortAttribute}
use Rattle.mrt_frame.specs.Fields.{Reading, ◌>>=◌}
use Rattle.bgp_update.specs.declared.attribute_type.AttributeType.{AttributeType}
use Rattle.bgp_update.specs.declared.attribute_type.AttributeType.TheVariants.{MpReachNlri, MpUnreachNlri}
use Rattle.bgp_update.specs.declared.width.Width.{Width}
use Rattle.bgp_update.specs.declared.attribute_context.AttributeContext.{AttributeContext}
use Rattle.bgp_update.specs.declared.attribute_context.AttributeContext.TheVariants.{RibEntry, Message}
use Rattle.bgp_update.specs.declared.error_rule.ErrorRule.{ErrorRule}
use Rattle.bgp_update.specs.declared.route.Route.{Route}
use Rattle.bgp_update.specs.ErrorRules.{is_discarded, is_handling}
use Rattle.bgp_update.specs.AttributeTypes.{type_code, type_of}
use Rattle.bgp_update.specs.Families.{RouteRules}
use Rattle.bgp_update.specs.Attributes.{WrittenAttribute, attribute_at, entry_route, has_type, is_multiprotocol, value_fault, value_of}
use Rattle.bgp_update.specs.Updates.{Update, fields_in, own_keys_in, said_update}

-- ---- what can be read of the attributes

-- the whole attributes at the front of a field, and the bytes from the one on that runs past the field
pub record FrontAttributes : Type 0 where
  pub whole : List WrittenAttribute
  pub rest : List ℕ

abbrev pub behind_attribute : (List ℕ → FrontAttributes) → List ℕ → Reading WrittenAttribute → FrontAttributes
behind_attribute others bytes (Ok read) =
    record { whole = read.0 ∷ (others read.1).whole; rest = (others read.1).rest }
behind_attribute others bytes (Err fault) = record { whole = []; rest = bytes }

-- in at most so many steps
abbrev pub front_within : ℕ → List ℕ → FrontAttributes
front_within zero bytes = record { whole = []; rest = bytes }
front_within (suc steps) bytes = behind_attribute (front_within steps) bytes (attribute_at bytes)

unfoldable pub front_attributes : List ℕ → FrontAttributes
front_attributes bytes = front_within (length bytes) bytes

abbrev pub runs_past : FrontAttributes → Bool
runs_past front = nat_lt 0 (length front.rest)

-- the one that runs past is MP_REACH_NLRI or MP_UNREACH_NLRI
abbrev pub loses_keys : FrontAttributes → Bool
loses_keys front = nat_lt 1 (length front.rest)
    && ((slice_index front.rest 1 == type_code MpReachNlri) || (slice_index front.rest 1 == type_code MpUnreachNlri))

-- there are two of a type
abbrev pub repeats : AttributeType → List WrittenAttribute → Bool
repeats t attributes = nat_lt 1 (count_by (has_type t) attributes)

-- ---- what is wrong with it

-- the first value of a type is malformed
abbrev pub is_faulty : RouteRules → AttributeContext → Width → List WrittenAttribute → AttributeType → Bool
is_faulty rules context width attributes t =
    is_some (option_and_then (value_fault rules context width t) (value_of t attributes))

-- the first value of a type, if it isn't malformed; MP_REACH_NLRI and MP_UNREACH_NLRI are read as they are
abbrev pub sound_value : RouteRules → AttributeContext → Width → List WrittenAttribute → AttributeType → Option (List ℕ)
sound_value rules context width attributes t =
    if is_faulty rules context width attributes t && not (is_multiprotocol t) then None else value_of t attributes

-- the first value of a type is malformed, and more is done about it than to discard it
abbrev pub is_grave : ErrorRule → RouteRules → AttributeContext → Width → List WrittenAttribute → AttributeType → Bool
is_grave errors rules context width attributes t =
    is_faulty rules context width attributes t && not (is_discarded errors t)

abbrev pub has_grave : ErrorRule → RouteRules → AttributeContext → Width → List WrittenAttribute → Bool
has_grave errors rules context width attributes =
    list_any (λ (a : WrittenAttribute).
    unwrap_or (option_map (is_grave errors rules context width attributes) (type_of a.code)) false) attributes

-- ---- what is done about it

abbrev pub is_any : {A : Type 0} → List A → Bool
is_any [] = false
is_any (x ∷ xs) = true

-- Its announcements lack ORIGIN or AS_PATH, or those of its own field NEXT_HOP (RFC 7606, section 3 (d)).
abbrev pub lacks_mandatory : Update → Bool
lacks_mandatory u =
    ((is_any u.announced || is_any u.reached) && (is_none u.route.origin || is_none u.route.path))
    || (is_any u.announced && is_none u.route.next_hop)

-- treat-as-withdraw: all keys that it withdraws, announces or reaches are withdrawn, in this order
abbrev pub withdrawing : Update → Update
withdrawing u = record u { withdrawn = u.withdrawn ++ (u.announced ++ u.reached); announced = []; reached = [] }

abbrev pub withdrawing_if : Bool → Update → Update
withdrawing_if withdraws u = if withdraws then withdrawing u else u

-- The whole attributes, unless keys are lost among what can't be read; the fault given here never comes.
abbrev pub readable : FrontAttributes → Result (List WrittenAttribute) Fault
readable front =
    if loses_keys front || (repeats MpReachNlri front.whole || repeats MpUnreachNlri front.whole)
    then Err ShortAttribute else Ok front.whole

-- more is wrong than what is discarded
abbrev pub is_beyond_discard : ErrorRule → RouteRules → AttributeContext → Width → FrontAttributes → Bool
is_beyond_discard errors rules context width front =
    runs_past front || has_grave errors rules context width front.whole

-- What is done about a damaged UPDATE whose fields and keys can be read; the fault here doesn't matter.
unfoldable pub recovered_update : ErrorRule → RouteRules → Width → Bool → List ℕ → Result Update Fault
recovered_update errors rules width add_path body = do
  fields ← fields_in body
  whole ← readable (front_attributes fields.attributes)
  withdrawn ← own_keys_in rules.family add_path fields.withdrawn
  announced ← own_keys_in rules.family add_path fields.announced
  said ← said_update rules width add_path withdrawn (sound_value rules (Message add_path) width whole) announced
  Ok (withdrawing_if (is_beyond_discard errors rules (Message add_path) width (front_attributes fields.attributes)
      || lacks_mandatory said) said)

-- The same of the damaged attributes of an entry: the route without what is discarded.
unfoldable pub recovered_route : ErrorRule → RouteRules → Width → List ℕ → Result Route Fault
recovered_route errors rules width bytes =
    let front = front_attributes bytes in
    if is_beyond_discard errors rules RibEntry width front then Err ShortAttribute
    else Ok (entry_route rules width (sound_value rules RibEntry width front.whole))

-- an entry announces its key
abbrev pub announcing : RouteKey → Route → Update
announcing key route =
    record { withdrawn = []; announced = key ∷ []; reached = []; route = route; reached_hop = None }

-- what is done by the rule about a damaged UPDATE, and about a damaged entry; nothing where damage is skipped
abbrev pub handled_update : ErrorRule → RouteRules → Width → Bool → List ℕ → Result Update Fault
handled_update errors rules width add_path body =
    if is_handling errors then recovered_update errors rules width add_path body else Err ShortAttribute

abbrev pub handled_entry : ErrorRule → RouteRules → Width → RouteKey → List ℕ → Result Update Fault
handled_entry errors rules width key bytes =
    if is_handling errors then (recovered_route errors rules width bytes >>= λ route. Ok (announcing key route))
    else Err ShortAttribute

-- an undamaged UPDATE, taken by the rule
abbrev pub taken_update : ErrorRule → Update → Update
taken_update errors u = withdrawing_if (is_handling errors && lacks_mandatory u) u
