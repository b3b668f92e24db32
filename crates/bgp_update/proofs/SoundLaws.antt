-- Handling changes nothing of what has no damage.
use Rattle.std.proofs.Common.{◌≡◌, ℕ, ◌≤◌, Bool, true, false, not, ◌||◌, List, [], ◌∷◌, ◌++◌, Option, None, Some, Ok, refl, ap, ◌∙◌, arith}
use Rattle.std.specs.Prelude.{IfSome, is_some}
use Rattle.std.specs.List.{AllByRecursion}
use Rattle.std.specs.Option.{option_and_then}
use Rattle.std.proofs.lemmas.Bool.{and_parts, le-ltb}
use Rattle.std.proofs.lemmas.List.Concat.{flat_map-cons}
use borrow.Author.Tests.{both_ways}
use Rattle.bgp_prefix.specs.Keys.{RouteKey}
use Rattle.mrt_frame.proofs.Items.{bind_ok}
use Rattle.mrt_frame.proofs.FieldLaws.{IsBytes}
use Rattle.bgp_update.specs.declared.attribute_type.AttributeType.{AttributeType}
use Rattle.bgp_update.specs.declared.attribute_type.AttributeType.TheVariants as types
use Rattle.bgp_update.specs.declared.width.Width.{Width}
use Rattle.bgp_update.specs.declared.attribute_context.AttributeContext.{AttributeContext}
use Rattle.bgp_update.specs.declared.attribute_context.AttributeContext.TheVariants.{RibEntry, Message}
use Rattle.bgp_update.specs.declared.error_rule.ErrorRule.{ErrorRule}
use Rattle.bgp_update.specs.declared.route.Route.{Route}
use Rattle.bgp_update.specs.ErrorRules.{is_discarded}
use Rattle.bgp_update.specs.Families.{RouteRules}
use Rattle.bgp_update.specs.Attributes.{WrittenAttribute, AreAttributes, FitsAttribute, attribute_bytes, attributes_bytes, attributes_in, entry_route, route_in, value_fault, value_of}
use Rattle.bgp_update.specs.Handling.{FrontAttributes, front_attributes, has_grave, is_beyond_discard, is_faulty, lacks_mandatory, readable, recovered_route, recovered_update, repeats, sound_value, withdrawing_if}
use Rattle.bgp_update.specs.Updates.{Update, UpdateFields, fields_in, own_keys_in, said_update, update_in}
use Rattle.bgp_update.proofs.AttributeLaws.{attribute_again, attributes_in-is, count, without_fault}
use Rattle.bgp_update.proofs.FromFirstValues.{entry_route_same, said_update_same}
use Rattle.bgp_update.proofs.SoundFields.{front_goes_on, front_is_done, front_of, joined, of_has}
use Rattle.bgp_update.proofs.UpdateLaws.{fields_take}

-- attributes that are written one after the other are read whole
spelled_front : (attributes : List WrittenAttribute) → AllByRecursion FitsAttribute attributes → front_attributes (attributes_bytes attributes) ≡ front_of attributes []
spelled_front [] fit = front_is_done [] [] refl
spelled_front (a ∷ attributes) fit =
    ap front_attributes (flat_map-cons attribute_bytes a attributes)
    ∙ front_goes_on [] (attribute_bytes a ++ attributes_bytes attributes) a (attributes_bytes attributes) (omega arith) (attribute_again a (attributes_bytes attributes) fit.0)
    ∙ ap (joined (a ∷ [])) (spelled_front attributes fit.1)

module _ (errors : ErrorRule) (rules : RouteRules) (context : AttributeContext) (width : Width) (bytes : List ℕ) (attributes : List WrittenAttribute) (fine : IsBytes bytes) (read : attributes_in rules context width bytes ≡ Ok attributes) where
  law : (bytes ≡ attributes_bytes attributes) × AreAttributes rules context width attributes
  law = attributes_in-is rules context width bytes attributes fine read

  front_is : front_attributes bytes ≡ front_of attributes []
  front_is = ap front_attributes law.0 ∙ spelled_front attributes law.1.fit

  no_fault : (t : AttributeType) → is_faulty rules context width attributes t ≡ false
  no_fault t = by_value (value_of t attributes) (without_fault rules context width t (value_of t attributes) (law.1.formed t))
    where
      by_value : (o : Option (List ℕ)) → IfSome o (λ value. value_fault rules context width t value ≡ None) → is_some (option_and_then (value_fault rules context width t) o) ≡ false
      by_value None h = refl
      by_value (Some value) h = ap is_some h

  sound_is : (t : AttributeType) → sound_value rules context width attributes t ≡ value_of t attributes
  sound_is t = rw (no_fault t) refl

  light : (b : Bool) → has_grave errors rules context width attributes ≡ b → b ≡ false
  light false e = refl
  light true e =
      let t = of_has errors rules context width attributes attributes e in
      absurd (both_ways (is_faulty rules context width attributes t.0) (no_fault t.0) (and_parts (is_faulty rules context width attributes t.0) (not (is_discarded errors t.0)) t.1).0)

  inside : is_beyond_discard errors rules context width (front_attributes bytes) ≡ false
  inside = ap (is_beyond_discard errors rules context width) front_is ∙ light (has_grave errors rules context width attributes) refl

-- where keys of an UPDATE are read, there is one MP_REACH_NLRI and one MP_UNREACH_NLRI at most
once : (attributes : List WrittenAttribute) (t : AttributeType) → count t attributes ≤ 1 → repeats t attributes ≡ false
once attributes t few = le-ltb 1 (count t attributes) few

from_parts : (errors : ErrorRule) (rules : RouteRules) (width : Width) (add_path : Bool) (body : List ℕ) (update : Update) (fields : UpdateFields) (own : List RouteKey) (attributes : List WrittenAttribute) (announced : List RouteKey) → IsBytes fields.attributes
    → fields_in body ≡ Ok fields → own_keys_in rules.family add_path fields.withdrawn ≡ Ok own → attributes_in rules (Message add_path) width fields.attributes ≡ Ok attributes → own_keys_in rules.family add_path fields.announced ≡ Ok announced
    → said_update rules width add_path own (λ t. value_of t attributes) announced ≡ Ok update → recovered_update errors rules width add_path body ≡ Ok (withdrawing_if (lacks_mandatory update) update)
unfolding recovered_update
from_parts errors rules width add_path body update fields own attributes announced bytes f w a n s =
    let formed = (law errors rules (Message add_path) width fields.attributes attributes bytes a).1 in
    let front = front_is errors rules (Message add_path) width fields.attributes attributes bytes a in
    let whole : readable (front_attributes fields.attributes) ≡ Ok attributes =
    ap readable front ∙ rw (once attributes types.MpReachNlri (formed.once types.MpReachNlri refl), once attributes types.MpUnreachNlri (formed.once types.MpUnreachNlri refl)) refl in
    let said : said_update rules width add_path own (sound_value rules (Message add_path) width attributes) announced ≡ Ok update =
    said_update_same rules width add_path own (sound_value rules (Message add_path) width attributes) (λ t. value_of t attributes) announced (λ t looked. sound_is errors rules (Message add_path) width fields.attributes attributes bytes a t) ∙ s in
    rw (f, whole, w, n, said)
    (ap (λ (b : Bool). Ok (withdrawing_if (b || lacks_mandatory update) update)) (inside errors rules (Message add_path) width fields.attributes attributes bytes a))

pub update_kept : (errors : ErrorRule) (rules : RouteRules) (width : Width) (add_path : Bool) (body : List ℕ) (update : Update) → IsBytes body → update_in rules width add_path body ≡ Ok update
    → recovered_update errors rules width add_path body ≡ Ok (withdrawing_if (lacks_mandatory update) update)
unfolding update_in
update_kept errors rules width add_path body update fine e =
    let f = bind_ok (fields_in body) _ update e in
    let w = bind_ok (own_keys_in rules.family add_path f.0.withdrawn) _ update f.2 in
    let a = bind_ok (attributes_in rules (Message add_path) width f.0.attributes) _ update w.2 in
    let n = bind_ok (own_keys_in rules.family add_path f.0.announced) _ update a.2 in
    from_parts errors rules width add_path body update f.0 w.0 a.0 n.0 (fields_take body f.0 fine f.1).attributes f.1 w.1 a.1 n.1 n.2

pub route_kept : (errors : ErrorRule) (rules : RouteRules) (width : Width) (bytes : List ℕ) (route : Route) → IsBytes bytes → route_in rules width bytes ≡ Ok route → recovered_route errors rules width bytes ≡ Ok route
unfolding route_in recovered_route
route_kept errors rules width bytes route fine e =
    let a = bind_ok (attributes_in rules RibEntry width bytes) _ route e in
    let front = front_is errors rules RibEntry width bytes a.0 fine a.1 in
    let same : entry_route rules width (sound_value rules RibEntry width (front_attributes bytes).whole) ≡ entry_route rules width (λ t. value_of t a.0) =
    ap (λ (f : FrontAttributes). entry_route rules width (sound_value rules RibEntry width f.whole)) front
    ∙ entry_route_same rules width (sound_value rules RibEntry width a.0) (λ t. value_of t a.0) (λ t looked. sound_is errors rules RibEntry width bytes a.0 fine a.1 t) in
    rw (inside errors rules RibEntry width bytes a.0 fine a.1) (ap (λ (r : Route). Ok r) same ∙ a.2)
