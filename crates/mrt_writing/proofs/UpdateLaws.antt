-- An UPDATE that is written is read.
use Rattle.std.proofs.Common.{◌≡◌, ℕ, ◌^◌, ◌<◌, ◌≤◌, Bool, true, false, List, [], ◌∷◌, ◌++◌, length, Option, Some, None, Ok, refl, sym, ap, subst, ◌∙◌, arith, length-append}
use Rattle.std.specs.Prelude.{IfSome, option_map}
use Rattle.byteorder.specs.Endian.{big_number, big_bytes}
use Rattle.byteorder.specs.Numbers.{big_number-reads_back}
use Rattle.bgp_prefix.specs.Prefixes.{IsIpPrefix}
use Rattle.bgp_prefix.specs.Keys.{RouteKey}
use Rattle.bgp_update.specs.declared.attribute_type.AttributeType.{AttributeType}
use Rattle.bgp_update.specs.declared.attribute_type.AttributeType.TheVariants as types
use Rattle.bgp_update.specs.declared.attribute_context.AttributeContext.TheVariants as context
use Rattle.bgp_update.specs.declared.next_hop.NextHop.{NextHop}
use Rattle.bgp_update.specs.declared.route.Route.{Route}
use Rattle.bgp_update.specs.declared.width.Width.TheVariants.{Four}
use Rattle.bgp_update.specs.Families.{FamilyOf, KeyForm, Rules, form_of, route_rules}
use Rattle.bgp_update.specs.Hops.{by_hop}
use Rattle.bgp_update.specs.Attributes.{WrittenAttribute, AreAttributes, IsFormed, HoldsReach, attributes_bytes, value_of, route_of}
use Rattle.bgp_update.specs.Keys.{IsWrittenKey, identifier_len, key_of}
use Rattle.bgp_update.specs.Multiprotocol.{FitsHop, SpellsReach, SaysReached, SaysUnreached}
use Rattle.bgp_update.specs.Handling.{taken_update}
use Rattle.bgp_update.specs.Updates.{update_bytes, SaysOwn, ReadsAsUpdate}
use Rattle.bgp_update.proofs.FromFirstValues.{route_from_same}
use Rattle.peer_units.specs.declared.meaning.Event.TheVariants as event
use Rattle.peer_units.specs.declared.unit.Payload.TheVariants.{Message}
use Rattle.peer_units.specs.Events.{event_in}
use Rattle.peer_units.proofs.EventLaws.{event_again}
use Rattle.mrt_body.specs.RibRecords.{FitsIdentifier}
use Rattle.mrt_writing.specs.Prefixes.{written_identifier, written_key}
use Rattle.mrt_writing.specs.RouteAttributes.{attributes_by, types_in_order}
use Rattle.mrt_writing.specs.Updates.{reach_value, update_values, written_update, update_message, FitsUpdate, reaching}
use Rattle.mrt_writing.proofs.PrefixLaws.{prefix_again, octets_are}
use Rattle.mrt_writing.proofs.RouteLaws.{value_in_order, once_in_order, all_fit, values_formed, values_said}

-- ---- keys

identifier_again : (add_path : Bool) (id : ℕ) → FitsIdentifier add_path id → big_number 4 (written_identifier add_path id) ≡ id
identifier_again true id fits = big_number-reads_back 4 id [] fits
identifier_again false id fits = sym fits

identifier_is : (add_path : Bool) (id : ℕ) → length (written_identifier add_path id) ≡ identifier_len add_path
identifier_is true id = refl
identifier_is false id = refl

pub key_again : (add_path : Bool) (key : RouteKey) → IsIpPrefix key.prefix → FitsIdentifier add_path key.id → key_of (written_key add_path key) ≡ key
key_again add_path key formed fits = λ i. record { prefix = prefix_again key.prefix formed i; id = identifier_again add_path key.id fits i }

key_is_written : (family : FamilyOf) (add_path : Bool) (key : RouteKey) → IsIpPrefix key.prefix → key.prefix.len ≤ family.width → IsWrittenKey (form_of family add_path) (written_key add_path key)
key_is_written family add_path key formed narrow = record { identifier = identifier_is add_path key.id; short = narrow; octets = octets_are key.prefix formed.short }

-- ---- the message

own_nothing : (own : Bool) (form : KeyForm) → SaysOwn own form [] []
own_nothing true form = record { written = []; formed = tt; spelled = refl; said = refl }
own_nothing false form = refl

module _ (rules : Rules) (add_path : Bool) (key : RouteKey) (r : Route) (h : FitsUpdate (route_rules rules) add_path key r) where
  abbrev family : FamilyOf
  family = rules.family

  abbrev values : AttributeType → Option (List ℕ)
  values = update_values family add_path key r

  abbrev attributes : List WrittenAttribute
  attributes = attributes_by values types_in_order

  hop_fits : FitsHop h.hop
  hop_fits = subst (λ (o : Option NextHop). IfSome o FitsHop) h.reached h.packs.fields.next_hop

  spells : SpellsReach family add_path (reach_value family add_path key h.hop) h.hop (written_key add_path key ∷ [])
  spells = record { reserved = 0; fits = hop_fits; formed = (key_is_written family add_path key h.formed h.narrow, tt); spelled = refl }

  reach_is : option_map (reach_value family add_path key) r.next_hop ≡ Some (reach_value family add_path key h.hop)
  reach_is = ap (option_map (reach_value family add_path key)) h.reached

  reach_holds : IfSome (option_map (reach_value family add_path key) r.next_hop) (HoldsReach family (context.Message add_path))
  reach_holds = subst (λ (o : Option (List ℕ)). IfSome o (HoldsReach family (context.Message add_path))) (sym reach_is) (Some h.hop, written_key add_path key ∷ [], spells)

  attributes_short : length (attributes_bytes attributes) < 256 ^ 2
  unfolding update_bytes written_update
  attributes_short =
      omega (arith, h.short, length-append (attributes_bytes attributes) [], length-append (big_bytes 2 (length (attributes_bytes attributes))) (attributes_bytes attributes ++ []), length-append (big_bytes 2 0) (big_bytes 2 (length (attributes_bytes attributes)) ++ (attributes_bytes attributes ++ [])))

  are_attributes : AreAttributes (route_rules rules) (context.Message add_path) Four attributes
  are_attributes = record {
    fit = all_fit values types_in_order (length (attributes_bytes attributes)) (omega arith) attributes_short;
    formed = λ t. subst (λ (o : Option (List ℕ)). IfSome o (IsFormed (route_rules rules) (context.Message add_path) Four t)) (sym (value_in_order values t))
        (values_formed (route_rules rules) (context.Message add_path) None (option_map (reach_value family add_path key) r.next_hop) r h.packs h.kept tt reach_holds t);
    once = λ t refused. once_in_order values t;
  }

  reached_said : SaysReached family add_path (value_of types.MpReachNlri attributes) r.next_hop (key ∷ [])
  reached_said =
      subst (λ (o : Option (List ℕ)). SaysReached family add_path o r.next_hop (key ∷ [])) (sym (value_in_order values types.MpReachNlri ∙ reach_is))
      (subst (λ (o : Option NextHop). SaysReached family add_path (Some (reach_value family add_path key h.hop)) o (key ∷ [])) (sym h.reached)
      (written_key add_path key ∷ [], spells, ap (λ (k : RouteKey). k ∷ []) (sym (key_again add_path key h.formed h.id))))

  unreached_said : SaysUnreached family add_path (value_of types.MpUnreachNlri attributes) []
  unreached_said = subst (λ (o : Option (List ℕ)). SaysUnreached family add_path o []) (sym (value_in_order values types.MpUnreachNlri)) refl

  route_said : by_hop r None ≡ route_of rules.kept Four attributes
  route_said = sym (route_from_same rules.kept Four (λ t. value_of t attributes) values (λ t looked. value_in_order values t) ∙ values_said rules.kept None (option_map (reach_value family add_path key) r.next_hop) r h.packs h.kept)

  pub update_reads : ReadsAsUpdate (route_rules rules) Four add_path (update_bytes (written_update rules.family add_path key r)) (reaching key r)
  unfolding written_update
  update_reads = record {
    form = written_update family add_path key r;
    formed = record { withdrawn_len = omega arith; attributes = are_attributes; attributes_len = attributes_short };
    spelled = refl;
    said = record {
      own = [];
      own_are = own_nothing family.own_fields (form_of family add_path);
      unreached = [];
      unreached_are = unreached_said;
      withdrawn = refl;
      announced = own_nothing family.own_fields (form_of family add_path);
      reached = reached_said;
      route = route_said;
    };
  }

  pub update_again : event_in (Message (update_message rules.family add_path key r) Four add_path rules) ≡ Ok (event.Change (taken_update rules.errors (reaching key r)))
  update_again =
      event_again (Message (update_message family add_path key r) Four add_path rules) (event.Change (taken_update rules.errors (reaching key r)))
      (update_bytes (written_update family add_path key r), refl, h.short, reaching key r, update_reads, refl)
