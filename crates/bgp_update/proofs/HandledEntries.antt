-- What is done about the damaged attributes of an entry, from what was kept of them.
use Rattle.std.proofs.Common.{◌≡◌, ℕ, Bool, true, false, ◌&&◌, ◌||◌, cond, ltb, List, length, Option, None, Ok, refl, sym, ap, ◌∙◌, arith, inl, inr}
use Rattle.std.specs.Prelude.{is_err, is_some}
use Rattle.std.specs.Option.{option_and_then}
use Rattle.std.proofs.lemmas.Bool.{and_parts, lt-ltb, ltb-true, or_parts}
use borrow.Author.Tests.{both_ways}
use Rattle.bgp_update.specs.declared.attribute_type.AttributeType.{AttributeType}
use Rattle.bgp_update.specs.declared.attribute_type.AttributeType.TheVariants as types
use Rattle.bgp_update.specs.declared.width.Width.{Width}
use Rattle.bgp_update.specs.declared.attribute_context.AttributeContext.TheVariants.{RibEntry}
use Rattle.bgp_update.specs.declared.error_rule.ErrorRule.{ErrorRule}
use Rattle.bgp_update.specs.declared.kept_attribute.AttributeSet.{AttributeSet}
use Rattle.bgp_update.specs.declared.route.Route.{Route}
use Rattle.bgp_update.specs.declared.values.FirstValues.{FirstValues}
use Rattle.bgp_update.specs.declared.sound_values.SoundValues.{SoundValues}
use Rattle.bgp_update.specs.ErrorRules.{is_discarded}
use Rattle.bgp_update.specs.Families.{FamilyOf, RouteRules, route_rules_of}
use Rattle.bgp_update.specs.Hops.{by_hop}
use Rattle.bgp_update.specs.KeptAttributes.{KeptValue}
use Rattle.bgp_update.specs.Multiprotocol.{entry_hop}
use Rattle.bgp_update.specs.Attributes.{entry_route, value_fault, value_of}
use Rattle.bgp_update.specs.Handling.{FrontAttributes, front_attributes, has_grave, is_beyond_discard, is_faulty, recovered_route, runs_past, sound_value}
use Rattle.bgp_update.specs.Packing.{IsWritable}
use Rattle.bgp_update.specs.Values.{CanPackKept, all_values, kept_entry_route, kept_route, kept_value, values_asked}
use Rattle.bgp_update.specs.SoundValues.{AreKeysLost, KeepsSound, value_left}
use Rattle.bgp_update.proofs.AttributeLaws.{none_or_some}
use Rattle.bgp_update.proofs.FromFirstValues.{entry_route_same}
use Rattle.bgp_update.proofs.HandledUpdates.{kept_writable}
use Rattle.bgp_update.proofs.PackedReadings.{asked_entry}
use Rattle.bgp_update.proofs.SoundFields.{has_of}

module _ (errors : ErrorRule) (rules : RouteRules) (width : Width) (bytes : List ℕ) where
  abbrev front : FrontAttributes
  front = front_attributes bytes

  abbrev beyond : Bool
  beyond = is_beyond_discard errors rules RibEntry width front

  beyond_fails : beyond ≡ true → is_err (recovered_route errors rules width bytes) ≡ true
  unfolding recovered_route
  beyond_fails e = rw e refl

  pub entry_lost : AreKeysLost rules RibEntry width front → is_err (recovered_route errors rules width bytes) ≡ true
  entry_lost (inl whole) = let refused : false ≡ true = whole.1 in absurd cc
  entry_lost (inr keys) =
      let long : ltb 1 (length front.rest) ≡ true = (and_parts (ltb 1 (length front.rest)) _ keys).0 in
      let past : runs_past front ≡ true = lt-ltb 0 (length front.rest) (omega (arith, ltb-true 1 (length front.rest) long)) in
      beyond_fails (ap (λ (b : Bool). b || has_grave errors rules RibEntry width front.whole) past)

  -- no value that isn't only discarded is malformed
  sound : has_grave errors rules RibEntry width front.whole ≡ false → (t : AttributeType) → is_discarded errors t ≡ false → (b : Bool) → is_faulty rules RibEntry width front.whole t ≡ b → b ≡ false
  sound light t kept false e = refl
  sound light t kept true e =
      elim (none_or_some (value_of t front.whole)) [
        | inl none ↦ absurd (both_ways (is_faulty rules RibEntry width front.whole t) (ap (λ (o : Option (List ℕ)). is_some (option_and_then (value_fault rules RibEntry width t) o)) none) e)
        | inr some ↦ absurd (both_ways (has_grave errors rules RibEntry width front.whole) light (has_of errors rules RibEntry width front.whole t front.whole some.0 some.1 (rw (e, kept) refl)))
      ]

  module _ (s : SoundValues) (keeps : KeepsSound errors rules RibEntry width front s) where
    grave_is : s.grave ≡ beyond
    grave_is = keeps.grave (λ t refused. absurd cc)

    pub entry_grave : s.grave ≡ true → is_err (recovered_route errors rules width bytes) ≡ true
    entry_grave e = beyond_fails (sym grave_is ∙ e)

    module _ (same : s.asked.asked ≡ rules.kept) (light : s.grave ≡ false) where
      inside : beyond ≡ false
      inside = sym grave_is ∙ light

      unbroken : (t : AttributeType) → is_discarded errors t ≡ false → is_faulty rules RibEntry width front.whole t ≡ false
      unbroken t kept = sym (is_it (is_faulty rules RibEntry width front.whole t) refl)
        where
          is_it : (b : Bool) → is_faulty rules RibEntry width front.whole t ≡ b → false ≡ b
          is_it b e = sym (sound (or_parts (runs_past front) (has_grave errors rules RibEntry width front.whole) inside).1 t kept b e)

      either_way : (b c d : Bool) (o : Option (List ℕ)) → b ≡ false → cond (b && c) None o ≡ cond (b && d) None o
      either_way b c d o e = rw e refl

      as_sound : (t : AttributeType) → value_left rules RibEntry width front.whole t ≡ sound_value rules RibEntry width front.whole t
      as_sound types.MpReachNlri = either_way (is_faulty rules RibEntry width front.whole types.MpReachNlri) true false (value_of types.MpReachNlri front.whole) (unbroken types.MpReachNlri refl)
      as_sound types.MpUnreachNlri = either_way (is_faulty rules RibEntry width front.whole types.MpUnreachNlri) true false (value_of types.MpUnreachNlri front.whole) (unbroken types.MpUnreachNlri refl)
      as_sound t = refl

      route_is : kept_entry_route rules.family width s.first (values_asked s.asked) ≡ entry_route rules width (sound_value rules RibEntry width front.whole)
      route_is =
          asked_entry rules.family width s.first s.asked ∙ ap (λ (set : AttributeSet). entry_route (route_rules_of rules.family set) width (all_values s.first s.asked)) same
          ∙ entry_route_same rules width (all_values s.first s.asked) (sound_value rules RibEntry width front.whole) (λ t looked. keeps.values t looked ∙ as_sound t)

      pub entry_is : recovered_route errors rules width bytes ≡ Ok (kept_entry_route rules.family width s.first (values_asked s.asked))
      unfolding recovered_route
      entry_is = rw inside (ap (λ (r : Route). Ok r) (sym route_is))

pub entry_writable : (family : FamilyOf) (width : Width) (first : FirstValues) (kept : List KeptValue) → CanPackKept width first → IsWritable (kept_entry_route family width first kept).path
entry_writable family width first kept can = by_own family.own_fields
  where
    by_own : (own : Bool) → IsWritable (cond own (kept_route width first kept) (by_hop (kept_route width first kept) (entry_hop family (kept_value first types.MpReachNlri)))).path
    by_own true = kept_writable width first kept can
    by_own false = kept_writable width first kept can
