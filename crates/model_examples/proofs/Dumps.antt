-- Named records of dumps, as bytes, and rows of reports on them.
use Rattle.std.proofs.Common.{◌≡◌, ℕ, List, [], ◌∷◌, ◌++◌, None, map}
use Rattle.std.specs.Prelude.{codes, Option}
use Rattle.std.specs.List.{flat_map}
use Rattle.mrt_frame.proofs.Hexadecimal.{hex}
use Rattle.bgp_update.specs.Families.{ipv4}
use Rattle.bgp_update.specs.KeptAttributes.{no_attributes}
use Rattle.peer_units.specs.Choices.{all_units}
use Rattle.model_examples.proofs.Records.{marker_16, session_four, session_two, plain_attributes, announcement_of, announcement_with}
use Rattle.ip_text.specs.declared.address_form.AddressForm.TheVariants.{Full}
use Rattle.report_request.specs.declared.format.Format.TheVariants.{Text}
use Rattle.report_request.specs.Plain.{Layout, Request}
use Rattle.mrt_replay.specs.Reports.{report}

-- the bytes of an UPDATE: the record's header, the session's fields, the message behind its marker
abbrev pub update : List ℕ → List ℕ → List ℕ → List ℕ
update head session message = head ++ session ++ marker_16 ++ message

-- the header of a BGP4MP record of second 1 with four-octet AS numbers and a body of this length
abbrev pub head_four : List ℕ → List ℕ
head_four length = hex (codes "00000001 0010 0004") ++ length

-- sessions of 192.0.2.2 and 192.0.2.3
abbrev pub second_session : List ℕ
second_session = hex (codes "0000FDE8 0000FDE9 0000 0001 C0000202 C0000202")

abbrev pub third_session : List ℕ
third_session = hex (codes "0000FDE8 0000FDE9 0000 0001 C0000203 C0000202")

-- ---- announcements of 10.0.0.0/8

abbrev pub by_second : List ℕ
by_second = announcement_of second_session

abbrev pub by_third : List ℕ
by_third = announcement_of third_session

-- with another next hop
abbrev pub by_other_hop : List ℕ
by_other_hop = announcement_with marker_16 (hex (codes "002D 02 0000 0014")) (hex (codes "40010100 4002060201 0000FDE8 400304 C0000203"))

-- by the second peer, whose path is one segment of this kind with AS 65001
abbrev pub by_path_of : List ℕ → List ℕ
by_path_of kind = update (head_four (hex (codes "00000041"))) second_session (hex (codes "002D 02 0000 0014 40010100 400206") ++ kind ++ hex (codes "01 0000FDE9 400304 C0000201 080A"))

-- of other prefixes, and of three
abbrev pub of_host_bits : List ℕ
of_host_bits = update (head_four (hex (codes "00000042"))) session_four (hex (codes "002E 02 0000 0014") ++ plain_attributes ++ hex (codes "0C0AFF"))

abbrev pub of_three : List ℕ
of_three = update (head_four (hex (codes "00000045"))) session_four (hex (codes "0031 02 0000 0014") ++ plain_attributes ++ hex (codes "00 080A 100A01"))

-- withdrawn and announced in one UPDATE
abbrev pub withdrawn_and_announced : List ℕ
withdrawn_and_announced = update (head_four (hex (codes "00000043"))) session_four (hex (codes "002F 02 0002 080A 0014") ++ plain_attributes ++ hex (codes "080A"))

-- ---- two-octet AS numbers

abbrev pub head_two : List ℕ → List ℕ
head_two length = hex (codes "00000001 0010 0001") ++ length

-- AS_PATH 100 23456 23456, next hop 192.0.2.1, AS4_PATH 70000 70001
abbrev pub two_octet_path : List ℕ
two_octet_path = update (head_two (hex (codes "0000004C"))) session_two (hex (codes "003C 02 0000 0023 40010100 4002080203 0064 5BA0 5BA0 400304 C0000201 C0110A0202 00011170 00011171 080A"))

-- the same with four numbers in AS4_PATH
abbrev pub longer_as4_path : List ℕ
longer_as4_path = update (head_two (hex (codes "00000054"))) session_two (hex (codes "0044 02 0000 002B 40010100 4002080203 0064 5BA0 5BA0 400304 C0000201 C011120204 00011170 00011171 00011172 00011173 080A"))

-- with AGGREGATOR of this AS and AS4_AGGREGATOR of AS 70000
abbrev pub with_aggregators : List ℕ → List ℕ
with_aggregators asn = update (head_two (hex (codes "00000060"))) session_two (hex (codes "0050 02 0000 0037 40010100 4002080203 0064 5BA0 5BA0 400304 C0000201 C0110A0202 00011170 00011171 C00706") ++ asn ++ hex (codes "C0000209 C01208 00011170 C0000209 080A"))

-- ---- with path identifiers

abbrev pub head_path : List ℕ → List ℕ
head_path length = hex (codes "00000001 0010 0009") ++ length

-- 10.0.0.0/8 with identifier 7
abbrev pub of_seven : List ℕ
of_seven = update (head_path (hex (codes "00000045"))) session_four (hex (codes "0031 02 0000 0014") ++ plain_attributes ++ hex (codes "00000007 080A"))

abbrev pub withdrawal_of_seven : List ℕ
withdrawal_of_seven = update (hex (codes "00000002 0010 0009 00000031")) session_four (hex (codes "001D 02 0006 00000007 080A 0000"))

abbrev pub cut_identifier : List ℕ
cut_identifier = update (head_path (hex (codes "00000042"))) session_four (hex (codes "002E 02 0000 0014") ++ plain_attributes ++ hex (codes "000007"))

-- a RIB record with one entry, of identifier 7
abbrev pub rib_of_seven : List ℕ
rib_of_seven = hex (codes "00000003 000D 0008 00000028 00000000 080A 0001 0000 00000001 00000007 0014") ++ plain_attributes

-- ---- attributes 14 and 15

-- origin IGP and path 65000, without NEXT_HOP
abbrev pub bare_attributes : List ℕ
bare_attributes = hex (codes "40010100 4002060201 0000FDE8")

-- 10.0.0.0/8 by attribute 14 with these bytes of AFI and of the next hop's length, and next hop 192.0.2.9
abbrev pub reached_with : List ℕ → List ℕ → List ℕ
reached_with family hop_length = update (head_four (hex (codes "00000046"))) session_four (hex (codes "0032 02 0000 001B") ++ bare_attributes ++ hex (codes "800E0B") ++ family ++ hex (codes "01") ++ hop_length ++ hex (codes "C0000209 00 080A"))

abbrev pub reached : List ℕ
reached = reached_with (hex (codes "0001")) (hex (codes "04"))

abbrev pub reached_by_ipv6 : List ℕ
reached_by_ipv6 = update (head_four (hex (codes "00000052"))) session_four (hex (codes "003E 02 0000 0027") ++ bare_attributes ++ hex (codes "800E17 0001 01 10 20010DB8000000000000000000000009 00 080A"))

abbrev pub reached_twice : List ℕ
reached_twice = update (head_four (hex (codes "00000054"))) session_four (hex (codes "0040 02 0000 0029") ++ bare_attributes ++ hex (codes "800E0B 0001 01 04 C0000209 00 080A 800E0B 0001 01 04 C0000209 00 080A"))

abbrev pub unreached : List ℕ
unreached = update (hex (codes "00000002 0010 0004 00000033")) session_four (hex (codes "001F 02 0000 0008 800F05 0001 01 080A"))

-- ---- rows

-- the report of a request on files, with addresses in full, up to a last second, and what it has to be
pub record Row : Type 0 where
  pub request : Request
  pub until : Option ℕ
  pub files : List (List ℕ)
  pub told : List ℕ

-- addresses in full
abbrev pub in_full : Layout
in_full = record { format = Text; peer_addresses = Full; route_addresses = Full; family = ipv4; attributes = no_attributes }

-- these lines are the report on a file
abbrev pub row : Request → List ℕ → List (List ℕ) → Row
row request file lines = record { request = request; until = None; files = file ∷ []; told = flat_map (λ line. line ++ 10 ∷ []) lines }

-- each row's report is what it has to be
abbrev pub AreReports : List Row → Type 0
AreReports rows = map (λ r. report r.request in_full (record all_units { until = r.until }) r.files) rows ≡ map (λ r. r.told) rows
