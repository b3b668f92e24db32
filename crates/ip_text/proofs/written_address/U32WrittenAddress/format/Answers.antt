use Rattle.std.proofs.Common.{sym}
use Rattle.ip_text.proofs.FormatLaws.{Formats_as}
use Rattle.ip_text.proofs.AddressLaws.{ipv4_address}
use Rattle.ip_text.proofs.written_address.U32WrittenAddress.format.Goals as goal

pub returns : goal.returns
returns c = Formats_as (sym (ipv4_address _ c.args.self)) c.format_ipv4.ensures
