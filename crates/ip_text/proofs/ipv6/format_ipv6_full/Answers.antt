use Rattle.std.proofs.Math.Nat.{div-one}
use Rattle.ip_text.proofs.FormatLaws.{Formats_trans}
use Rattle.ip_text.proofs.ipv6.format_ipv6_full.Goals as goal

pub returns : goal.returns
returns c =
    rw (div-one c.args.addr) (Formats_trans c.format_full_group-at.ensures (Formats_trans c.format_byte-at.ensures (Formats_trans c.format_full_group-at-2.ensures (Formats_trans c.format_byte-at-2.ensures
    (Formats_trans c.format_full_group-at-3.ensures (Formats_trans c.format_byte-at-3.ensures (Formats_trans c.format_full_group-at-4.ensures (Formats_trans c.format_byte-at-4.ensures
    (Formats_trans c.format_full_group-at-5.ensures (Formats_trans c.format_byte-at-5.ensures (Formats_trans c.format_full_group-at-6.ensures (Formats_trans c.format_byte-at-6.ensures
    (Formats_trans c.format_full_group-at-7.ensures (Formats_trans c.format_byte-at-7.ensures c.format_full_group.ensures))))))))))))))
