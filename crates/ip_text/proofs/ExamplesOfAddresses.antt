-- Texts of IPv6 addresses, by computation. Sections are those of RFC 5952.
use Rattle.std.proofs.Common.{◌≡◌, refl}
use Rattle.std.specs.Prelude.{codes}
use Rattle.std.specs.Fmt.{digits}
use Rattle.ip_text.specs.Ipv6Texts.{full_ipv6_text, short_ipv6_text}

-- 1 and 2: one text for all of these spellings
documented : short_ipv6_text 0x20010db8000000000001000000000001 ≡ codes "2001:db8::1:0:0:1"
unfolding digits
documented = refl

-- 4.1: no leading zeros
zeros_left_out : short_ipv6_text 0x20010db8000100010001000100010001 ≡ codes "2001:db8:1:1:1:1:1:1"
unfolding digits
zeros_left_out = refl

-- 4.2.1: as short as can be
as_short_as_can_be : short_ipv6_text 0x20010db8000000000000000000020001 ≡ codes "2001:db8::2:1"
unfolding digits
as_short_as_can_be = refl

-- 4.2.2: one zero group stays
one_zero_stays : short_ipv6_text 0x20010db8000000010001000100010001 ≡ codes "2001:db8:0:1:1:1:1:1"
unfolding digits
one_zero_stays = refl

-- 4.2.3: the longest run
longest_first : short_ipv6_text 0x20010000000000010000000000000001 ≡ codes "2001:0:0:1::1"
unfolding digits
longest_first = refl

-- the first of two that are as long
first_of_equals : short_ipv6_text 0x20010db8000000000001000000000001 ≡ codes "2001:db8::1:0:0:1"
unfolding digits
first_of_equals = refl

first_of_three : short_ipv6_text 0x00000000000100000000000100000000 ≡ codes "::1:0:0:1:0:0"
unfolding digits
first_of_three = refl

-- 4.3: lower case
lower_case : short_ipv6_text 0x20010db80000000000000000aaaabbcc ≡ codes "2001:db8::aaaa:bbcc"
unfolding digits
lower_case = refl

unspecified : short_ipv6_text 0 ≡ codes "::"
unfolding digits
unspecified = refl

loopback : short_ipv6_text 1 ≡ codes "::1"
unfolding digits
loopback = refl

zeros_last : short_ipv6_text 0x00010000000000000000000000000000 ≡ codes "1::"
unfolding digits
zeros_last = refl

zeros_last_but_one : short_ipv6_text 0x20010db8000100020003000400000000 ≡ codes "2001:db8:1:2:3:4::"
unfolding digits
zeros_last_but_one = refl

greatest : short_ipv6_text 0xffffffffffffffffffffffffffffffff ≡ codes "ffff:ffff:ffff:ffff:ffff:ffff:ffff:ffff"
unfolding digits
greatest = refl

-- never dotted quads
mapped : short_ipv6_text 0x00000000000000000000ffffc0000201 ≡ codes "::ffff:c000:201"
unfolding digits
mapped = refl

every_second : short_ipv6_text 0x00010000000100000001000000010000 ≡ codes "1:0:1:0:1:0:1:0"
unfolding digits
every_second = refl

-- ---- in full

in_full : full_ipv6_text 0x20010db8000000000001000000000001 ≡ codes "2001:0db8:0000:0000:0001:0000:0000:0001"
in_full = refl

unspecified_in_full : full_ipv6_text 0 ≡ codes "0000:0000:0000:0000:0000:0000:0000:0000"
unspecified_in_full = refl
