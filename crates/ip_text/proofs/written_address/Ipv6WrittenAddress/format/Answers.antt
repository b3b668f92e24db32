use Rattle.std.proofs.Common.{◌∙◌, ap, sym}
use Rattle.ip_text.specs.Ipv6Texts.{ipv6_text}
use Rattle.ip_text.proofs.FormatLaws.{Formats_as}
use Rattle.ip_text.proofs.AddressLaws.{ipv6_address}
use Rattle.ip_text.proofs.written_address.Ipv6WrittenAddress.format.Goals as goal

pub returns : goal.returns
returns c = Formats_as (ap (ipv6_text c.args.form) c.number.ensures ∙ sym (ipv6_address c.args.form c.args.self)) c.format_ipv6.ensures
