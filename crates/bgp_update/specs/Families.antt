-- Families of unicast routes (RFC 4760, section 3), and how their keys are written.
use Rattle.std.specs.Prelude.{ℕ, ◌^◌, ◌<◌, Bool, true, false}
use Rattle.std.proofs.Common.{arith}
use Rattle.bgp_update.specs.declared.unicast.FamilyEncoding.{FamilyEncoding}
use Rattle.bgp_update.specs.declared.kept_attribute.AttributeSet.{AttributeSet}
use Rattle.bgp_update.specs.declared.width.Width.{Width}
use Rattle.bgp_update.specs.declared.width.Width.TheVariants.{Four}
use Rattle.bgp_update.specs.declared.error_rule.ErrorRule.{ErrorRule}
use Rattle.bgp_update.specs.declared.error_rule.ErrorRule.TheVariants.{Skip}
use Rattle.bgp_update.specs.ErrorRules.{rule_of_peer}

-- What a family has of its own: its number, of two bytes; the bits of its addresses; whether an UPDATE's own fields,
-- withdrawn routes, NLRI and NEXT_HOP (RFC 4271, 4.3), are of this family; and the subtypes of its RIB records (RFC
-- 6396, 4.3.2; RFC 8050, 4).
pub record FamilyOf : Type 0 where
  pub afi : ℕ
  pub afi_fits : afi < 256 ^ 2
  pub width : ℕ
  pub own_fields : Bool
  pub rib : ℕ
  pub rib_add_path : ℕ

abbrev pub ipv4 : FamilyOf
ipv4 = record { afi = 1; afi_fits = omega arith; width = 32; own_fields = true; rib = 2; rib_add_path = 8 }

-- only MP_REACH_NLRI and MP_UNREACH_NLRI are of this family (RFC 4760, section 2)
abbrev pub ipv6 : FamilyOf
ipv6 = record { afi = 2; afi_fits = omega arith; width = 128; own_fields = false; rib = 4; rib_add_path = 10 }

-- the same, as code has it
abbrev pub encoding_of : FamilyOf → FamilyEncoding
encoding_of f = record { afi = f.afi; own_fields = f.own_fields; rib = f.rib; rib_add_path = f.rib_add_path }

-- the longest length of a key's prefix, and whether an identifier stands before it
pub record KeyForm : Type 0 where
  pub width : ℕ
  pub add_path : Bool

-- how the keys of a family are written, with ADD-PATH (RFC 7911, section 3) or without
abbrev pub form_of : FamilyOf → Bool → KeyForm
form_of family add_path = record { width = family.width; add_path = add_path }

-- by which rules the routes of messages and entries are read: of which family they are, and which further attributes
-- they keep
pub record RouteRules : Type 0 where
  pub family : FamilyOf
  pub kept : AttributeSet

abbrev pub route_rules_of : FamilyOf → AttributeSet → RouteRules
route_rules_of family kept = record { family = family; kept = kept }

-- By which rules messages and entries are read: the same, how wide AS numbers are in entries: four bytes (RFC 6396,
-- 4.3.4), or two in dumps before these (4.2), and what is done about damage.
pub record Rules : Type 0 where
  pub family : FamilyOf
  pub kept : AttributeSet
  pub entry_width : Width
  pub errors : ErrorRule

abbrev pub rules_of : FamilyOf → AttributeSet → Rules
rules_of family kept = record { family = family; kept = kept; entry_width = Four; errors = Skip }

abbrev pub by_entry_width : Width → Rules → Rules
by_entry_width width rules = record rules { entry_width = width }

abbrev pub by_errors : ErrorRule → Rules → Rules
by_errors errors rules = record rules { errors = errors }

-- the rules for messages of a peer of another AS than the speaker's, or of the same one
abbrev pub of_peer : Bool → Rules → Rules
of_peer external rules = by_errors (rule_of_peer external rules.errors) rules

abbrev pub route_rules : Rules → RouteRules
route_rules rules = route_rules_of rules.family rules.kept
