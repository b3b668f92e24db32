-- What is done about a damaged UPDATE, from what was kept of its attributes and from its keys.
use Rattle.std.proofs.Common.{◌≡◌, ℕ, Bool, true, false, not, ◌&&◌, ◌||◌, cond, eqb, List, [], ◌∷◌, ◌++◌, length, drop, Option, Some, None, Result, Ok, Err, refl, sym, ap, subst, ◌∙◌, arith, inl, inr, append_assoc, length-append, length-drop}
use Rattle.std.specs.Prelude.{IfErr, IfSome, IsErrAnd, is_err, is_none, is_some}
use Rattle.std.specs.Option.{option_and_then}
use Rattle.std.specs.Result.{result_err}
use Rattle.std.proofs.Math.Bool.{and-false}
use Rattle.std.proofs.lemmas.List.{length-take}
use Rattle.std.proofs.lemmas.Bool.{ne_eqb, or_parts}
use borrow.Author.Tests.{both_ways}
use Rattle.mrt_frame.specs.declared.fault.Fault.{Fault}
use Rattle.mrt_frame.specs.declared.fault.Fault.TheVariants.{ShortAttribute}
use Rattle.mrt_frame.specs.Fields.{◌>>=◌}
use Rattle.mrt_frame.proofs.Items.{bind_ok, guard_ok, ok_is}
use Rattle.bgp_prefix.specs.Keys.{RouteKey}
use Rattle.bgp_update.specs.declared.attribute_type.AttributeType.{AttributeType}
use Rattle.bgp_update.specs.declared.attribute_type.AttributeType.TheVariants as types
use Rattle.bgp_update.specs.declared.width.Width.{Width}
use Rattle.bgp_update.specs.declared.attribute_context.AttributeContext.TheVariants.{Message}
use Rattle.bgp_update.specs.declared.error_rule.ErrorRule.{ErrorRule}
use Rattle.bgp_update.specs.declared.attr_error.AttrError.{AttrError}
use Rattle.bgp_update.specs.declared.attr_error.AttrError.TheVariants as attr_errors
use Rattle.bgp_update.specs.declared.next_hop.NextHop.{NextHop}
use Rattle.bgp_update.specs.declared.route.Route.{Route}
use Rattle.bgp_update.specs.declared.decoded.Span.{Span}
use Rattle.bgp_update.specs.declared.decoded.RouteSpan.{RouteSpan}
use Rattle.bgp_update.specs.declared.decoded.UpdateSpans.{UpdateSpans}
use Rattle.bgp_update.specs.declared.values.FirstValues.{FirstValues}
use Rattle.bgp_update.specs.declared.sound_values.SoundValues.{SoundValues}
use Rattle.bgp_update.specs.declared.update.AppendedKeys.{AppendedKeys}
use Rattle.bgp_update.specs.Families.{RouteRules}
use Rattle.bgp_update.specs.Multiprotocol.{reached_in, unreached_in, reached_keys, unreached_keys}
use Rattle.bgp_update.specs.Attributes.{WrittenAttribute, refuses_repeat, route_from, value_fault, value_of}
use Rattle.bgp_update.specs.Updates.{Update, UpdateFields, fields_in, own_keys_in, said_update}
use Rattle.bgp_update.specs.Handling.{FrontAttributes, front_attributes, is_any, is_beyond_discard, is_faulty, lacks_mandatory, loses_keys, readable, recovered_update, repeats, sound_value, withdrawing_if}
use Rattle.bgp_update.specs.Decoded.{AddsRoute, AppendsBehind, AreUpdateSpans, Behind, IsGrown, IsUpdateAt, IsWithin, behind_in, span_of, split_update, update_at}
use Rattle.bgp_update.specs.Hops.{by_hop}
use Rattle.bgp_update.specs.Results.{Fails, FailsIfAny}
use Rattle.bgp_update.specs.KeptAttributes.{KeptValue}
use Rattle.bgp_update.specs.Packing.{IsWritable}
use Rattle.bgp_update.specs.Values.{CanPackKept, Values, all_values, kept_route, kept_value}
use Rattle.bgp_update.specs.SoundValues.{AreHandledKeys, AreKeysLost, KeepsSound}
use Rattle.bgp_update.proofs.Counts.{err_of_mapped}
use Rattle.bgp_update.proofs.FromFirstValues.{said_update_same}
use Rattle.bgp_update.proofs.SoundSteps.{refused_looked}
use Rattle.bgp_update.proofs.Spans.{decoded_update, split_is}

-- a reading that gives nothing fails
pub fails : {A : Type 0} (r : Result A Fault) → ((x : A) → r ≡ Ok x → ⊥) → is_err r ≡ true
fails (Ok x) h = absurd (h x refl)
fails (Err fault) h = refl

is_not : {A : Type 0} (r : Result A Fault) (x : A) (fault : Fault) → r ≡ Ok x → r ≡ Err fault → ⊥
is_not r x fault e h = cc

-- the types whose repeats are refused
by_refused : (P : AttributeType → Type 0) (add_path : Bool) (t : AttributeType) → refuses_repeat (Message add_path) t ≡ true → P types.MpReachNlri → P types.MpUnreachNlri → P t
by_refused P add_path types.MpReachNlri e r u = r
by_refused P add_path types.MpUnreachNlri e r u = u
by_refused P add_path t e r u = absurd cc

-- what is wrong with keys is wrong with the value
module _ (rules : RouteRules) (width : Width) (add_path : Bool) where
  reach_sound : (o : Option (List ℕ)) (y : Option NextHop × List RouteKey) → reached_keys rules.family add_path o ≡ Ok y → is_some (option_and_then (value_fault rules (Message add_path) width types.MpReachNlri) o) ≡ false
  unfolding reached_keys value_fault
  reach_sound None y e = refl
  reach_sound (Some value) y e = ap is_some (sym (err_of_mapped (reached_in rules.family add_path value) _) ∙ ap result_err e)

  unreach_sound : (o : Option (List ℕ)) (y : List RouteKey) → unreached_keys rules.family add_path o ≡ Ok y → is_some (option_and_then (value_fault rules (Message add_path) width types.MpUnreachNlri) o) ≡ false
  unfolding unreached_keys value_fault
  unreach_sound None y e = refl
  unreach_sound (Some value) y e = ap is_some (sym (err_of_mapped (unreached_in rules.family add_path value) _) ∙ ap result_err e)

  -- all keys of these values are read
  record ReadsKeys (value_at : Values) : Type 0 where
    unreached : List RouteKey
    unreached_are : unreached_keys rules.family add_path (value_at types.MpUnreachNlri) ≡ Ok unreached
    reached : Option NextHop × List RouteKey
    reached_are : reached_keys rules.family add_path (value_at types.MpReachNlri) ≡ Ok reached

  said_keys : (own announced : List RouteKey) (value_at : Values) (u : Update) → said_update rules width add_path own value_at announced ≡ Ok u → ReadsKeys value_at
  unfolding said_update
  said_keys own announced value_at u e =
      let all = bind_ok (unreached_keys rules.family add_path (value_at types.MpUnreachNlri) >>= λ keys. Ok (own ++ keys)) _ u e in
      let w = bind_ok (unreached_keys rules.family add_path (value_at types.MpUnreachNlri)) (λ keys. Ok (own ++ keys)) all.0 all.1 in
      let z = bind_ok (reached_keys rules.family add_path (value_at types.MpReachNlri)) _ u all.2 in
      record { unreached = w.0; unreached_are = w.1; reached = z.0; reached_are = z.1 }

  keys_sound : (attributes : List WrittenAttribute) → ReadsKeys (λ t. value_of t attributes) → (t : AttributeType) → refuses_repeat (Message add_path) t ≡ true → is_faulty rules (Message add_path) width attributes t ≡ false
  keys_sound attributes reads t refused =
      by_refused (λ u. is_faulty rules (Message add_path) width attributes u ≡ false) add_path t refused (reach_sound (value_of types.MpReachNlri attributes) reads.reached reads.reached_are)
      (unreach_sound (value_of types.MpUnreachNlri attributes) reads.unreached reads.unreached_are)

-- nothing is wrong with attributes but for keys
abbrev pub passed_on : Result (Unit {0}) Fault
passed_on = Ok tt

module _ (rules : RouteRules) (width : Width) (add_path : Bool) (value_at : Values) (field : List ℕ) where
  abbrev behind_with : List RouteKey → Option NextHop × List RouteKey → List RouteKey → Behind
  behind_with unreached reached announced = record { unreached = unreached; hop = reached.0; reached = reached.1; announced = announced }

  record ReadsBehind (b : Behind) : Type 0 where
    unreached : unreached_keys rules.family add_path (value_at types.MpUnreachNlri) ≡ Ok b.unreached
    reached : reached_keys rules.family add_path (value_at types.MpReachNlri) ≡ Ok (b.hop, b.reached)
    announced : own_keys_in rules.family add_path field ≡ Ok b.announced

  behind_of : (unreached : List RouteKey) (reached : Option NextHop × List RouteKey) (announced : List RouteKey) → unreached_keys rules.family add_path (value_at types.MpUnreachNlri) ≡ Ok unreached
      → reached_keys rules.family add_path (value_at types.MpReachNlri) ≡ Ok reached → own_keys_in rules.family add_path field ≡ Ok announced
      → behind_in rules.family add_path value_at passed_on field ≡ Ok (behind_with unreached reached announced)
  unfolding behind_in
  behind_of unreached reached announced u z a = rw (u, z, a) refl

  behind_reads : (b : Behind) → behind_in rules.family add_path value_at passed_on field ≡ Ok b → ReadsBehind b
  unfolding behind_in
  behind_reads b e =
      let u = bind_ok (unreached_keys rules.family add_path (value_at types.MpUnreachNlri)) _ b e in
      let z = bind_ok (reached_keys rules.family add_path (value_at types.MpReachNlri)) _ b u.2 in
      let a = bind_ok (own_keys_in rules.family add_path field) _ b z.2 in
      let same = ok_is (behind_with u.0 z.0 a.0) b a.2 in
      record {
        unreached = u.1 ∙ ap (λ (x : Behind). Ok x.unreached) same;
        reached = z.1 ∙ ap (λ (x : Behind). Ok (x.hop, x.reached)) same;
        announced = a.1 ∙ ap (λ (x : Behind). Ok x.announced) same;
      }

module _ (errors : ErrorRule) (rules : RouteRules) (width : Width) (add_path : Bool) (body : List ℕ) where
  abbrev recovered : Result Update Fault
  recovered = recovered_update errors rules width add_path body

  abbrev sound : List WrittenAttribute → Values
  sound whole = sound_value rules (Message add_path) width whole

  -- MP_REACH_NLRI and MP_UNREACH_NLRI are read as they are
  sound_is : (whole : List WrittenAttribute) (t : AttributeType) → refuses_repeat (Message add_path) t ≡ true → sound whole t ≡ value_of t whole
  sound_is whole t refused =
      ap (λ (b : Bool). cond (is_faulty rules (Message add_path) width whole t && not b) None (value_of t whole)) refused
      ∙ ap (λ (b : Bool). cond b None (value_of t whole)) (and-false (is_faulty rules (Message add_path) width whole t))

  reads_as_sound : (whole : List WrittenAttribute) → ReadsKeys rules width add_path (sound whole) → ReadsKeys rules width add_path (λ t. value_of t whole)
  reads_as_sound whole r = record {
    unreached = r.unreached;
    unreached_are = ap (unreached_keys rules.family add_path) (sym (sound_is whole types.MpUnreachNlri refl)) ∙ r.unreached_are;
    reached = r.reached;
    reached_are = ap (reached_keys rules.family add_path) (sym (sound_is whole types.MpReachNlri refl)) ∙ r.reached_are;
  }

  pub fields_fail : (fault : Fault) → fields_in body ≡ Err fault → is_err recovered ≡ true
  unfolding recovered_update
  fields_fail fault e = rw e refl

  module _ (fields : UpdateFields) (fields_are : fields_in body ≡ Ok fields) where
    abbrev front : FrontAttributes
    front = front_attributes fields.attributes

    -- its parts, where it is recovered
    record Parts : Type 0 where
      own : List RouteKey
      own_are : own_keys_in rules.family add_path fields.withdrawn ≡ Ok own
      keys : loses_keys front ≡ false
      once : (t : AttributeType) → refuses_repeat (Message add_path) t ≡ true → repeats t front.whole ≡ false
      announced : List RouteKey
      announced_are : own_keys_in rules.family add_path fields.announced ≡ Ok announced
      reads : ReadsKeys rules width add_path (λ t. value_of t front.whole)

    abbrev behind_fields : Result Update Fault
    behind_fields =
        readable front >>= λ whole. own_keys_in rules.family add_path fields.withdrawn >>= λ own. own_keys_in rules.family add_path fields.announced >>= λ announced.
        said_update rules width add_path own (sound whole) announced >>= λ said.
        Ok (withdrawing_if (is_beyond_discard errors rules (Message add_path) width front || lacks_mandatory said) said)

    of_fields : recovered ≡ behind_fields
    unfolding recovered_update
    of_fields = rw fields_are refl

    parts : (u : Update) → recovered ≡ Ok u → Parts
    parts u e =
        let r = bind_ok (readable front) _ u (sym of_fields ∙ e) in
        let o = bind_ok (own_keys_in rules.family add_path fields.withdrawn) _ u r.2 in
        let a = bind_ok (own_keys_in rules.family add_path fields.announced) _ u o.2 in
        let s = bind_ok (said_update rules width add_path o.0 (sound r.0) a.0) _ u a.2 in
        let fine = guard_ok (loses_keys front || (repeats types.MpReachNlri front.whole || repeats types.MpUnreachNlri front.whole)) ShortAttribute front.whole r.0 r.1 in
        let lost = or_parts (loses_keys front) (repeats types.MpReachNlri front.whole || repeats types.MpUnreachNlri front.whole) fine.0 in
        let twice = or_parts (repeats types.MpReachNlri front.whole) (repeats types.MpUnreachNlri front.whole) lost.1 in
        record {
          own = o.0;
          own_are = o.1;
          keys = lost.0;
          once = λ t refused. by_refused (λ x. repeats x front.whole ≡ false) add_path t refused twice.0 twice.1;
          announced = a.0;
          announced_are = a.1;
          reads = reads_as_sound front.whole (said_keys rules width add_path o.0 a.0 (sound front.whole) s.0 (ap (λ (whole : List WrittenAttribute). said_update rules width add_path o.0 (sound whole) a.0) fine.1 ∙ s.1));
        }

    pub own_fail : (fault : Fault) → own_keys_in rules.family add_path fields.withdrawn ≡ Err fault → is_err recovered ≡ true
    own_fail fault e = fails recovered (λ u h. let p = parts u h in is_not (own_keys_in rules.family add_path fields.withdrawn) p.own fault p.own_are e)

    pub lost_fails : AreKeysLost rules (Message add_path) width front → is_err recovered ≡ true
    lost_fails lost = fails recovered (λ u h. by_case lost (parts u h))
      where
        by_case : AreKeysLost rules (Message add_path) width front → Parts → ⊥
        by_case (inr cut) p = both_ways (loses_keys front) p.keys cut
        by_case (inl whole) p =
            elim whole.2 [
              | inl twice ↦ both_ways (repeats whole.0 front.whole) (p.once whole.0 whole.1) twice
              | inr faulty ↦ both_ways (is_faulty rules (Message add_path) width front.whole whole.0) (keys_sound rules width add_path front.whole p.reads whole.0 whole.1) faulty
            ]

    module _ (s : SoundValues) (keeps : KeepsSound errors rules (Message add_path) width front s) where
      -- what is kept of MP_REACH_NLRI and MP_UNREACH_NLRI
      kept_is : (t : AttributeType) → refuses_repeat (Message add_path) t ≡ true → all_values s.first s.asked t ≡ value_of t front.whole
      kept_is t refused = keeps.values t (refused_looked rules (Message add_path) t refused) ∙ sound_is front.whole t refused

      reads_of_kept : ReadsKeys rules width add_path (kept_value s.first) → ReadsKeys rules width add_path (λ t. value_of t front.whole)
      reads_of_kept r = record {
        unreached = r.unreached;
        unreached_are = ap (unreached_keys rules.family add_path) (sym (kept_is types.MpUnreachNlri refl)) ∙ r.unreached_are;
        reached = r.reached;
        reached_are = ap (reached_keys rules.family add_path) (sym (kept_is types.MpReachNlri refl)) ∙ r.reached_are;
      }

      pub behind_fail : (fault : Fault) → behind_in rules.family add_path (kept_value s.first) passed_on fields.announced ≡ Err fault → is_err recovered ≡ true
      behind_fail fault e =
          fails recovered (λ u h.
          let p = parts u h in
          is_not (behind_in rules.family add_path (kept_value s.first) passed_on fields.announced) _ fault
          (behind_of rules width add_path (kept_value s.first) fields.announced p.reads.unreached p.reads.reached p.announced (ap (unreached_keys rules.family add_path) (kept_is types.MpUnreachNlri refl) ∙ p.reads.unreached_are)
          (ap (reached_keys rules.family add_path) (kept_is types.MpReachNlri refl) ∙ p.reads.reached_are) p.announced_are) e)

      module _ (own : List RouteKey) (own_are : own_keys_in rules.family add_path fields.withdrawn ≡ Ok own) (start : ℕ) (k0 k1 k2 : List RouteKey) (n : AppendedKeys) (begins : start ≡ length k0) (first : k1 ≡ k0 ++ own)
          (behind : AppendsBehind start k1 k2 n (behind_in rules.family add_path (kept_value s.first) passed_on fields.announced)) (route : Route) (route_is : route ≡ route_from rules.kept width (all_values s.first s.asked)) where
        abbrev b : Behind
        b = behind.added

        abbrev said : Update
        said = record { withdrawn = own ++ b.unreached; announced = b.announced; reached = b.reached; route = route; reached_hop = n.reached_hop }

        read : ReadsBehind rules width add_path (kept_value s.first) fields.announced b
        read = behind_reads rules width add_path (kept_value s.first) fields.announced b behind.is

        said_is : said_update rules width add_path own (sound front.whole) b.announced ≡ Ok said
        unfolding said_update
        said_is =
            said_update_same rules width add_path own (sound front.whole) (all_values s.first s.asked) b.announced (λ t looked. sym (keeps.values t looked))
            ∙ rw (read.unreached, read.reached)
            ((λ i. Ok (record { withdrawn = own ++ b.unreached; announced = b.announced; reached = b.reached; route = sym route_is i; reached_hop = behind.hop i })))

        readable_is : readable front ≡ Ok front.whole
        readable_is = rw (keeps.keys, keeps.once types.MpReachNlri refl, keeps.once types.MpUnreachNlri refl) refl

        grave_is : s.grave ≡ is_beyond_discard errors rules (Message add_path) width front
        grave_is = keeps.grave (λ t refused. keys_sound rules width add_path front.whole (reads_of_kept (record { unreached = b.unreached; unreached_are = read.unreached; reached = (b.hop, b.reached); reached_are = read.reached })) t refused)

        recovers : recovered ≡ Ok (withdrawing_if (s.grave || lacks_mandatory said) said)
        recovers =
            of_fields
            ∙ rw (readable_is, own_are, read.announced, said_is) (ap (λ (x : Bool). Ok (withdrawing_if (x || lacks_mandatory said) said)) (sym grave_is))

        pub are_handled : AreHandledKeys k0 k2 n route s.grave recovered
        are_handled = record {
          said = said;
          keys = record {
            withdrawn = own ++ b.unreached;
            reached = b.reached;
            announced = b.announced;
            withdrawn_len = omega (arith, begins, behind.withdrawn, ap length first, length-append k0 own, length-append own b.unreached);
            reached_len = behind.reached_len;
            announced_len = behind.announced_len;
            parts =
                behind.parts ∙ ap (λ (t : List RouteKey). t ++ (b.unreached ++ (b.reached ++ b.announced))) first ∙ append_assoc k0 own (b.unreached ++ (b.reached ++ b.announced))
                ∙ ap (λ (t : List RouteKey). k0 ++ t) (sym (append_assoc own b.unreached (b.reached ++ b.announced)));
            none = behind.none;
            is = refl;
          };
          is = recovers;
        }

-- ---- as a call answers

pub any_fails : {A : Type 0} (r : Result A Fault) (e : AttrError) → is_err r ≡ true → FailsIfAny e r
any_fails r attr_errors.Memory h = tt
any_fails r (attr_errors.Bad fault) h = h

pub fault_fails : {A B : Type 0} (r : Result A Fault) (whole : Result B Fault) (e : AttrError) → ((fault : Fault) → r ≡ Err fault → is_err whole ≡ true) → Fails e r → FailsIfAny e whole
fault_fails r whole attr_errors.Memory more h = tt
fault_fails r whole (attr_errors.Bad fault) more h = more fault h

pub all_err : {T E : Type 0} {P : E → Type 0} (r : Result T E) → ((e : E) → P e) → IfErr r P
all_err (Ok x) h = tt
all_err (Err e) h = h e

pub err_is : {T E : Type 0} (P : E → Type 0) (r : Result T E) (x : E) → IsErrAnd r (λ e. e ≡ x) → P x → IfErr r P
err_is P (Ok y) x is h = tt
err_is P (Err e) x is h = subst P (sym is) h

-- ---- an update that is finished

-- another list of withdrawn keys leaves the route as it is
pub still_writable : (b : Bool) (u : Update) → IsWritable u.route.path → IsWritable (withdrawing_if b u).route.path
still_writable true u h = h
still_writable false u h = h

pub kept_writable : (width : Width) (first : FirstValues) (kept : List KeptValue) → CanPackKept width first → IsWritable (kept_route width first kept).path
unfolding route_from
kept_writable width first kept can = can.writable

pub none_is : {A : Type 0} (o : Option A) (b : Bool) → is_some o ≡ not b → b ≡ is_none o
none_is None true e = refl
none_is None false e = absurd cc
none_is (Some x) true e = absurd cc
none_is (Some x) false e = refl

-- a span of keys has some where it isn't empty
pub some_keys : (keys : List RouteKey) (s : Span) → IsWithin (length keys) s → is_any (span_of keys s) ≡ not (eqb s.len 0)
some_keys keys s h =
    let len : length (span_of keys s) ≡ s.len = length-take s.len (drop s.start keys) ∙ omega (arith, length-drop s.start keys, h) in
    any_is (span_of keys s) ∙ ap (λ (n : ℕ). not (eqb n 0)) len
  where
    any_is : (xs : List RouteKey) → is_any xs ≡ not (eqb (length xs) 0)
    any_is [] = refl
    any_is (x ∷ xs) = ap not (sym (ne_eqb (length (x ∷ xs)) 0 (λ h. absurd (omega (arith, h)))))

-- its spans have it
pub decoded_handled : (before after : List RouteKey) (old mid bytes : List ℕ) (n : AppendedKeys) (route : Route) (grave : Bool) (handled : Result Update Fault) (r : RouteSpan) (rr : Option RouteSpan) (s : UpdateSpans) → AreHandledKeys before after n route grave handled
    → AreUpdateSpans (length before) n r rr s → AddsRoute old mid route r → IsGrown mid bytes → IfSome rr (AddsRoute mid bytes (by_hop route n.reached_hop)) → is_some rr ≡ is_some n.reached_hop
    → IsUpdateAt after bytes s × (handled ≡ Ok (withdrawing_if (grave || lacks_mandatory (update_at after bytes s)) (update_at after bytes s)))
decoded_handled before after old mid bytes n route grave handled r rr s h spans adds grown reached both =
    let d = decoded_update before after old mid bytes n route (Ok h.said) r rr s h.keys spans adds grown reached both in
    (d.1, h.is ∙ ap (λ (u : Update). Ok (withdrawing_if (grave || lacks_mandatory u) u)) (ok_is h.said (update_at after bytes s) d.0))

-- a list of its own has its keys
pub split_handled : (after : List RouteKey) (n : AppendedKeys) (route : Route) (grave : Bool) (handled : Result Update Fault) → AreHandledKeys [] after n route grave handled
    → handled ≡ Ok (withdrawing_if (grave || lacks_mandatory (split_update after n route)) (split_update after n route))
split_handled after n route grave handled h = h.is ∙ ap (λ (u : Update). Ok (withdrawing_if (grave || lacks_mandatory u) u)) (ok_is h.said (split_update after n route) (split_is after n route (Ok h.said) h.keys))
