use Rattle.std.proofs.Common.{◌≡◌, ◌∙◌, rules}
use Rattle.mrt_frame.specs.Faults.{kind_name, fault_name}
use Rattle.ip_text.proofs.FormatLaws.{Formats_as, Formats_within}
use Rattle.report_lines.proofs.field.FaultField.format.Goals as goal

pub returns : goal.returns
returns c =
    let name : kind_name c.args.self ≡ fault_name c.args.self = search rules in
    Formats_within (search rules) (Formats_as (c.as_bytes.ensures.value ∙ c.name.ensures ∙ name) c.format_text-at.ensures)
