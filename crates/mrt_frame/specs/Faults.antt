-- The numbers and names of faults.
use Rattle.std.specs.Prelude.{ℕ, List, ◌++◌, codes, decimal}
use Rattle.mrt_frame.specs.declared.fault.Fault.{Fault}
use Rattle.mrt_frame.specs.declared.fault.Fault.TheVariants.{ShortHeader, ShortBody, BodyTooLong, ShortRecord, TrailingBytes, BadFamily, NoPeerIndex, BadPeerIndex, BadPrefix, BadMarker, BadLength, BadUpdate, ShortAttribute, BadAttribute, BadPath}

-- the number, and the name without the type of an attribute
abbrev pub number_and_name : Fault → ℕ × List ℕ
number_and_name ShortHeader = (1, codes "ShortHeader")
number_and_name ShortBody = (2, codes "ShortBody")
number_and_name BodyTooLong = (3, codes "BodyTooLong")
number_and_name ShortRecord = (4, codes "ShortRecord")
number_and_name TrailingBytes = (5, codes "TrailingBytes")
number_and_name BadFamily = (6, codes "BadFamily")
number_and_name NoPeerIndex = (7, codes "NoPeerIndex")
number_and_name BadPeerIndex = (8, codes "BadPeerIndex")
number_and_name BadPrefix = (9, codes "BadPrefix")
number_and_name BadMarker = (10, codes "BadMarker")
number_and_name BadLength = (11, codes "BadLength")
number_and_name BadUpdate = (12, codes "BadUpdate")
number_and_name ShortAttribute = (13, codes "ShortAttribute")
number_and_name (BadAttribute code) = (14, codes "BadAttribute")
number_and_name BadPath = (15, codes "BadPath")

abbrev pub fault_number : Fault → ℕ
fault_number fault = (number_and_name fault).0

abbrev pub kind_name : Fault → List ℕ
kind_name fault = (number_and_name fault).1

-- the name; that of an attribute's fault ends with the attribute's type
abbrev pub fault_name : Fault → List ℕ
fault_name (BadAttribute code) = kind_name (BadAttribute code) ++ codes "(" ++ decimal code ++ codes ")"
fault_name fault = kind_name fault
