-- The texts of attributes that a route keeps where they are asked for (RFC 1997; RFC 4360; RFC 8092; RFC 4456, section 8;
-- RFC 9234, section 5).
use Rattle.std.specs.Prelude.{ℕ, zero, suc, ◌/◌, ◌%◌, Bool, true, false, List, [], ◌∷◌, ◌++◌, map, length, take, drop, slice_index, codes, decimal, if◌then◌else◌, ◌==◌}
use Rattle.std.specs.List.{flat_map, join_with_byte}
use Rattle.std.specs.Fmt.{digit_glyph}
use Rattle.byteorder.specs.Endian.{big_number}
use Rattle.ip_text.specs.Digits.{ipv4_text}
use Rattle.bgp_update.specs.declared.kept_attribute.KeptAttribute.{KeptAttribute}
use Rattle.bgp_update.specs.declared.kept_attribute.KeptAttribute.TheVariants.{Communities, ExtendedCommunities, LargeCommunities, OriginatorId, ClusterList, OnlyToCustomer}
use Rattle.bgp_update.specs.declared.kept_attribute.AttributeSet.{AttributeSet}
use Rattle.bgp_update.specs.KeptAttributes.{KeptValue, all_kept, has, kept_code, kept_form, value_kept}
use Rattle.report_request.specs.declared.column.Column.TheVariants as column
use Rattle.report_request.specs.declared.column.Key.TheVariants as key
use Rattle.report_lines.specs.Cells.{Cell, or_null, quoted}
use Rattle.report_lines.specs.Fields.{field}

-- ---- members

-- two halves in decimal
abbrev pub community_text : List ℕ → List ℕ
community_text m = decimal (big_number 2 m) ++ 58 ∷ decimal (big_number 2 (drop 2 m))

-- three numbers of four bytes in decimal
abbrev pub large_text : List ℕ → List ℕ
large_text m = decimal (big_number 4 m) ++ 58 ∷ decimal (big_number 4 (drop 4 m)) ++ 58 ∷ decimal (big_number 4 (drop 8 m))

-- `0x` and the digits of each byte
abbrev pub byte_digits : ℕ → List ℕ
byte_digits b = digit_glyph false (b / 16) ∷ digit_glyph false (b % 16) ∷ []

abbrev pub hexadecimal_text : List ℕ → List ℕ
hexadecimal_text m = codes "0x" ++ flat_map byte_digits m

-- the administrator of an extended community and its number, by its type: a two-octet AS and four bytes (RFC 4360, 3.1),
-- an IPv4 address and two bytes (3.2), a four-octet AS and two bytes (RFC 5668, 2)
abbrev pub administrated_text : List ℕ → List ℕ → List ℕ
administrated_text name m =
    if slice_index m 0 == 0 then name ++ (decimal (big_number 2 (drop 2 m)) ++ 58 ∷ decimal (big_number 4 (drop 4 m))) else
    (if slice_index m 0 == 1 then name ++ (ipv4_text (big_number 4 (drop 2 m)) ++ 58 ∷ decimal (big_number 2 (drop 6 m))) else
    (if slice_index m 0 == 2 then name ++ (decimal (big_number 4 (drop 2 m)) ++ 58 ∷ decimal (big_number 2 (drop 6 m))) else
    hexadecimal_text m))

-- a route target or a route origin, by its subtype (RFC 4360, 4 and 5); any other one in hexadecimal
abbrev pub extended_text : List ℕ → List ℕ
extended_text m =
    if slice_index m 1 == 2 then administrated_text (codes "rt:") m else
    (if slice_index m 1 == 3 then administrated_text (codes "ro:") m else hexadecimal_text m)

abbrev pub member_text : KeptAttribute → List ℕ → List ℕ
member_text Communities m = community_text m
member_text ExtendedCommunities m = extended_text m
member_text LargeCommunities m = large_text m
member_text OriginatorId m = ipv4_text (big_number 4 m)
member_text ClusterList m = ipv4_text (big_number 4 m)
member_text OnlyToCustomer m = decimal (big_number 4 m)

-- ---- values

-- the first ones of so many members, each of so many bytes
abbrev pub members_in : ℕ → ℕ → List ℕ → List (List ℕ)
members_in zero size value = []
members_in (suc count) size value = take size value ∷ members_in count size (drop size value)

abbrev pub members_in_value : KeptAttribute → List ℕ → List (List ℕ)
members_in_value a value = members_in (length value / (kept_form a).size) (kept_form a).size value

-- a member's text, in quotes or plain
abbrev pub shown_member : Bool → KeptAttribute → List ℕ → List ℕ
shown_member false a m = member_text a m
shown_member true a m = quoted (member_text a m)

-- its members in recorded order, with a byte between them
abbrev pub kept_text : Bool → ℕ → KeptAttribute → List ℕ → List ℕ
kept_text quotes separator a value = join_with_byte separator (map (shown_member quotes a) (members_in_value a value))

-- ---- columns

-- a list of texts, a text, or the number of an AS
abbrev pub kept_json : KeptAttribute → List ℕ → List ℕ
kept_json OriginatorId value = kept_text true 44 OriginatorId value
kept_json OnlyToCustomer value = kept_text false 44 OnlyToCustomer value
kept_json Communities value = 91 ∷ kept_text true 44 Communities value ++ 93 ∷ []
kept_json ExtendedCommunities value = 91 ∷ kept_text true 44 ExtendedCommunities value ++ 93 ∷ []
kept_json LargeCommunities value = 91 ∷ kept_text true 44 LargeCommunities value ++ 93 ∷ []
kept_json ClusterList value = 91 ∷ kept_text true 44 ClusterList value ++ 93 ∷ []

abbrev pub kept_cell : List KeptValue → KeptAttribute → Cell
kept_cell kept a = record {
  column = column.Of (key.Kept a);
  text = field (kept_text false 32 a) (value_kept (kept_code a) kept);
  values = or_null (kept_json a) (value_kept (kept_code a) kept) ∷ [];
}

-- the cell of an attribute, if it is asked for
abbrev pub cell_if_asked : AttributeSet → List KeptValue → KeptAttribute → List Cell
cell_if_asked asked kept a = if has asked a then kept_cell kept a ∷ [] else []

-- those of the attributes that are asked for, in the order of columns
abbrev pub kept_cells : AttributeSet → List KeptValue → List Cell
kept_cells asked kept = flat_map (cell_if_asked asked kept) all_kept
