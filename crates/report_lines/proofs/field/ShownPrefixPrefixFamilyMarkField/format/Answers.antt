use Rattle.std.proofs.Common.{◌≡◌, ◌++◌, ◌∷◌, sym, decimal}
use Rattle.ip_text.specs.AddressTexts.{address_text}
use Rattle.ip_text.proofs.FormatLaws.{Formats_trans, Formats_as}
use Rattle.report_lines.proofs.field.ShownPrefixPrefixFamilyMarkField.format.Goals as goal

pub returns : goal.returns
returns g c =
    let layout = c.args.self.layout in
    let known : g.F.Unicast.family ≡ layout.family = sym c.is_known.ensures in
    Formats_as (λ i. address_text (known i) layout.route_addresses (c.addr-addr.ensures.addr i) ++ 47 ∷ decimal (c.len.ensures.len i))
    (Formats_trans c.format-at.ensures (Formats_trans c.format_byte-at.ensures c.format_short.ensures))
