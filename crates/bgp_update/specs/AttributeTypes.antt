-- The types of path attributes that are looked at, by their type codes (RFC 4271, 4.3 and 5.1; RFC 4760, sections 3 and
-- 4; RFC 6793, section 3).
use Rattle.std.specs.Prelude.{ℕ, Option, Some, ◌==◌, if◌then◌else◌, option_map}
use Rattle.mrt_frame.specs.declared.fault.Fault.{Fault}
use Rattle.mrt_frame.specs.declared.fault.Fault.TheVariants.{BadAttribute}
use Rattle.bgp_update.specs.declared.attribute_type.AttributeType.{AttributeType}
use Rattle.bgp_update.specs.declared.attribute_type.AttributeType.TheVariants.{Origin, AsPath, NextHop, MultiExitDisc, LocalPref, AtomicAggregate, Aggregator, MpReachNlri, MpUnreachNlri, As4Path, As4Aggregator, Kept}
use Rattle.bgp_update.specs.KeptAttributes.{kept_code, kept_of}

abbrev pub type_code : AttributeType → ℕ
type_code Origin = 1
type_code AsPath = 2
type_code NextHop = 3
type_code MultiExitDisc = 4
type_code LocalPref = 5
type_code AtomicAggregate = 6
type_code Aggregator = 7
type_code MpReachNlri = 14
type_code MpUnreachNlri = 15
type_code As4Path = 17
type_code As4Aggregator = 18
type_code (Kept a) = kept_code a

-- the type of a code; none for types that aren't looked at
abbrev pub type_of : ℕ → Option AttributeType
type_of code =
    if code == type_code Origin then Some Origin else
    (if code == type_code AsPath then Some AsPath else
    (if code == type_code NextHop then Some NextHop else
    (if code == type_code MultiExitDisc then Some MultiExitDisc else
    (if code == type_code LocalPref then Some LocalPref else
    (if code == type_code AtomicAggregate then Some AtomicAggregate else
    (if code == type_code Aggregator then Some Aggregator else
    (if code == type_code MpReachNlri then Some MpReachNlri else
    (if code == type_code MpUnreachNlri then Some MpUnreachNlri else
    (if code == type_code As4Path then Some As4Path else
    (if code == type_code As4Aggregator then Some As4Aggregator else option_map Kept (kept_of code)))))))))))

-- a malformed attribute of this type, or a repeat that is refused
abbrev pub bad_attribute : AttributeType → Fault
bad_attribute t = BadAttribute (type_code t)
