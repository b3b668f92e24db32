-- What is kept of attributes where damage is handled: the first value of each type, if it is well-formed.
use Rattle.std.specs.Prelude.{◌≡◌, ◌⊎◌, ℕ, Bool, true, false, not, ◌&&◌, ◌||◌, List, length, slice_index_or, Option, None, Result, Ok, if◌then◌else◌}
use Rattle.bgp_update.specs.declared.attribute_type.AttributeType.{AttributeType}
use Rattle.bgp_update.specs.declared.width.Width.{Width}
use Rattle.bgp_update.specs.declared.attribute_context.AttributeContext.{AttributeContext}
use Rattle.bgp_update.specs.declared.error_rule.ErrorRule.{ErrorRule}
use Rattle.bgp_update.specs.declared.sound_values.SoundValues.{SoundValues}
use Rattle.bgp_update.specs.ErrorRules.{is_discarded}
use Rattle.bgp_update.specs.Families.{RouteRules}
use Rattle.bgp_prefix.specs.Keys.{RouteKey}
use Rattle.mrt_frame.specs.declared.fault.Fault.{Fault}
use Rattle.bgp_update.specs.declared.route.Route.{Route}
use Rattle.bgp_update.specs.declared.update.AppendedKeys.{AppendedKeys}
use Rattle.bgp_update.specs.Decoded.{AreKeysOf}
use Rattle.bgp_update.specs.Updates.{Update}
use Rattle.bgp_update.specs.Attributes.{WrittenAttribute, looks_at, refuses_repeat, value_of}
use Rattle.bgp_update.specs.Handling.{FrontAttributes, is_beyond_discard, is_faulty, lacks_mandatory, loses_keys, repeats, withdrawing_if}
use Rattle.bgp_update.specs.Values.{AreShort, CanPackKept, HasRoom, IsWhole, all_values, value_index}

-- The first value of a type is malformed, and counts as absent. Without MP_REACH_NLRI or MP_UNREACH_NLRI the keys of an
-- UPDATE would be unknown: these are read as they are.
abbrev pub is_left_out : RouteRules → AttributeContext → Width → List WrittenAttribute → AttributeType → Bool
is_left_out rules context width attributes t =
    is_faulty rules context width attributes t && not (refuses_repeat context t)

-- the first value of a type, unless it is left out
abbrev pub value_left : RouteRules → AttributeContext → Width → List WrittenAttribute → AttributeType → Option (List ℕ)
value_left rules context width attributes t =
    if is_left_out rules context width attributes t then None else value_of t attributes

-- there is room for all values, and for a mark of each type
pub record HasPlaces (s : SoundValues) : Type 0 where
  pub room : HasRoom s.asked
  pub whole : IsWhole s.first
  pub marks : length s.malformed ≡ 17

-- What is kept is that of these attributes. It is grave where a value is left out that isn't only discarded.
pub record HoldsSound (errors : ErrorRule) (rules : RouteRules) (context : AttributeContext) (width : Width)
    (attributes : List WrittenAttribute) (s : SoundValues) : Type 0 where
  pub values : (t : AttributeType) → looks_at rules t ≡ true →
      all_values s.first s.asked t ≡ value_left rules context width attributes t
  pub marks : (t : AttributeType) →
      slice_index_or s.malformed (value_index t) false ≡ is_left_out rules context width attributes t
  pub once : (t : AttributeType) → refuses_repeat context t ≡ true → repeats t attributes ≡ false
  pub grave : s.grave ≡ true → (t : AttributeType) × (is_left_out rules context width attributes t ≡ true) ×
      (is_discarded errors t ≡ false)
  pub light : (t : AttributeType) → is_left_out rules context width attributes t ≡ true →
      is_discarded errors t ≡ false → s.grave ≡ true

-- of a type whose keys would be lost there are two, or the first one is malformed
abbrev pub IsLost : RouteRules → AttributeContext → Width → List WrittenAttribute → Type 0
IsLost rules context width attributes =
    (t : AttributeType) × (refuses_repeat context t ≡ true) ×
    ((repeats t attributes ≡ true) ⊎ (is_faulty rules context width attributes t ≡ true))

-- keys are lost: among whole attributes, or in the one that runs past
abbrev pub AreKeysLost : RouteRules → AttributeContext → Width → FrontAttributes → Type 0
AreKeysLost rules context width front = IsLost rules context width front.whole ⊎ (loses_keys front ≡ true)

-- What is kept is that of a field's attributes, it can be packed, and it is grave where more is wrong than what is
-- discarded, beside keys that can't be read.
pub record KeepsSound (errors : ErrorRule) (rules : RouteRules) (context : AttributeContext) (width : Width)
    (front : FrontAttributes) (s : SoundValues) : Type 0 where
  pub values : (t : AttributeType) → looks_at rules t ≡ true →
      all_values s.first s.asked t ≡ value_left rules context width front.whole t
  pub once : (t : AttributeType) → refuses_repeat context t ≡ true → repeats t front.whole ≡ false
  pub keys : loses_keys front ≡ false
  pub grave : ((t : AttributeType) → refuses_repeat context t ≡ true →
      is_faulty rules context width front.whole t ≡ false) →
      s.grave ≡ is_beyond_discard errors rules context width front
  pub packable : CanPackKept width s.first
  pub short : AreShort s.asked

-- Keys of an UPDATE were added, one kind after the other. With this route, and all withdrawn where it is grave or lacks
-- what it must have, it is what handling gives.
pub record AreHandledKeys (before after : List RouteKey) (n : AppendedKeys) (route : Route) (grave : Bool)
    (handled : Result Update Fault) : Type 0 where
  pub said : Update
  pub keys : AreKeysOf before after n route (Ok said)
  pub is : handled ≡ Ok (withdrawing_if (grave || lacks_mandatory said) said)
