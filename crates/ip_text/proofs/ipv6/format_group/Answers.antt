use Rattle.std.proofs.Common.{◌/◌, ◌++◌, ap, sym, ◌∙◌, arith}
use Rattle.ip_text.specs.Ipv6Texts.{hexadecimal}
use Rattle.ip_text.proofs.FormatLaws.{Formats_trans, Formats_as, Formats_within}
use Rattle.ip_text.proofs.HexLaws.{hexadecimal_halves}
use Rattle.ip_text.proofs.ipv6.format_group.Goals as goal

pub returns : goal.returns
returns c =
    let digits = c.text-low.ensures.padded in
    let halves = hexadecimal_halves c.args.group (omega arith) (omega arith) in
    Formats_within (omega arith) (Formats_as (ap (λ l. hexadecimal (c.args.group / 256) ++ l) digits ∙ sym halves) (Formats_trans c.format_hexadecimal-high.ensures c.format_text.ensures))
