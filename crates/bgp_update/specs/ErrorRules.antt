-- What is done about damage (RFC 7606, section 2).
use Rattle.std.specs.Prelude.{Bool, true, false, if◌then◌else◌}
use Rattle.bgp_update.specs.declared.attribute_type.AttributeType.{AttributeType}
use Rattle.bgp_update.specs.declared.attribute_type.AttributeType.TheVariants as types
use Rattle.bgp_update.specs.declared.kept_attribute.KeptAttribute.TheVariants.{OriginatorId, ClusterList}
use Rattle.bgp_update.specs.declared.error_rule.ErrorRule.{ErrorRule}
use Rattle.bgp_update.specs.declared.error_rule.ErrorRule.TheVariants.{Skip, Internal, External}

abbrev pub is_handling : ErrorRule → Bool
is_handling Skip = false
is_handling Internal = true
is_handling External = true

abbrev pub is_of_external : ErrorRule → Bool
is_of_external Skip = false
is_of_external Internal = false
is_of_external External = true

-- the rule for messages of a peer of another AS than the speaker's, or of the same one
abbrev pub rule_of_peer : Bool → ErrorRule → ErrorRule
rule_of_peer external Skip = Skip
rule_of_peer external Internal = if external then External else Internal
rule_of_peer external External = if external then External else Internal

-- An attribute of this type with a malformed value counts as absent (attribute discard: RFC 7606, 7.5 to 7.7, 7.9 and
-- 7.10); for any other type more is done.
abbrev pub is_discarded : ErrorRule → AttributeType → Bool
is_discarded errors types.AtomicAggregate = true
is_discarded errors types.Aggregator = true
is_discarded errors types.LocalPref = is_of_external errors
is_discarded errors (types.Kept OriginatorId) = is_of_external errors
is_discarded errors (types.Kept ClusterList) = is_of_external errors
is_discarded errors t = false
