use Rattle.ip_text.proofs.FormatLaws.{Formats_trans}
use Rattle.report_lines.proofs.route_line.format_attributes.Goals as goal

pub returns : goal.returns
returns g c =
    rw (← c.next_hop.ensures, ← c.origin.ensures, ← c.med.ensures, ← c.local_pref.ensures, ← c.atomic.ensures, ← c.aggregator.ensures)
    (Formats_trans c.format_byte-at.ensures
    (Formats_trans c.format_next_hop-at.ensures (Formats_trans c.format_byte-at-2.ensures (Formats_trans c.format-at.ensures (Formats_trans c.format_byte-at-3.ensures
    (Formats_trans c.format-at-2.ensures (Formats_trans c.format_byte-at-4.ensures (Formats_trans c.format-at-3.ensures (Formats_trans c.format_byte-at-5.ensures
    (Formats_trans c.format-at-4.ensures (Formats_trans c.format_byte-at-6.ensures c.format.ensures)))))))))))
