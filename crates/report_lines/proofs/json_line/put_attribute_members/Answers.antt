use Rattle.report_lines.proofs.TextLaws.{Adds_as}
use Rattle.report_lines.proofs.RowLines.{attributes_in_json}
use Rattle.report_lines.proofs.json_line.put_attribute_members.Goals as goal

pub returns : goal.returns
returns g c =
    let route = c.args.route.now in
    Adds_as (attributes_in_json c.args.layout route)
    (rw (c.next_hop.ensures, c.quoted_if_any-value-2.ensures, c.origin.ensures, c.med-value.ensures, c.local_pref-value.ensures, c.atomic.ensures, c.asn_field-value.ensures, c.quoted_if_any-value.ensures, c.addr_field.ensures, c.aggregator-aggregator.ensures) at c.put.ensures)
