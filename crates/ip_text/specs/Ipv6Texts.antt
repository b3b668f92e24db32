-- The two forms of an IPv6 address in text: in full, and short (RFC 5952, 4).
use Rattle.std.specs.Prelude.{ℕ, ◌+◌, false, List, ◌++◌, map, take, drop, codes, nat_lt, if◌then◌else◌}
use Rattle.std.specs.List.{join_with_byte}
use Rattle.std.specs.Fmt.{digits, digit_glyph}
use Rattle.std.specs.Net.Text.{longest_zero_run}
use Rattle.ip_text.specs.Digits.{digits_in, groups_of}
use Rattle.ip_text.specs.declared.address_form.AddressForm.{AddressForm}
use Rattle.ip_text.specs.declared.address_form.AddressForm.TheVariants.{Full, Short}

-- eight groups of four digits
abbrev pub full_ipv6_text : ℕ → List ℕ
full_ipv6_text addr = join_with_byte 58 (map (digits_in (digit_glyph false) 16 4) (groups_of 65536 8 addr))

-- hexadecimal in lower case, without leading zeros
abbrev pub hexadecimal : ℕ → List ℕ
hexadecimal n = digits 16 false n

-- groups, split by colons
abbrev pub groups_text : List ℕ → List ℕ
groups_text groups = join_with_byte 58 (map hexadecimal groups)

-- `::` in place of the longest run of zeros, the first of equal ones, if it has two groups or more
abbrev pub shortened_text : List ℕ → List ℕ
shortened_text groups =
    let run = longest_zero_run groups in
    if nat_lt 1 run.1
    then groups_text (take run.0 groups) ++ codes "::" ++ groups_text (drop (run.0 + run.1) groups)
    else groups_text groups

-- eight groups of 16 bits without leading zeros, always in hexadecimal
abbrev pub short_ipv6_text : ℕ → List ℕ
short_ipv6_text addr = shortened_text (groups_of 65536 8 addr)

abbrev pub ipv6_text : AddressForm → ℕ → List ℕ
ipv6_text Full addr = full_ipv6_text addr
ipv6_text Short addr = short_ipv6_text addr
