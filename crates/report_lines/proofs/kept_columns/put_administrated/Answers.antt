use Rattle.std.proofs.Common.{◌≡◌, ◌∙◌, ap, drop}
use Rattle.std.proofs.lemmas.List.{take_rest}
use Rattle.byteorder.specs.Endian.{big_number}
use Rattle.report_lines.proofs.TextLaws.{Adds_as, Adds_trans}
use Rattle.report_lines.proofs.KeptColumns.{of_address, of_four_octet_as, of_two_octet_as}
use Rattle.report_lines.proofs.kept_columns.put_administrated.Goals as goal

pub returns-in-0 : goal.returns-in-0
returns-in-0 g c =
    let member = c.args.member.now in
    let asn : c.read_u16-asn.result ≡ big_number 2 (drop 2 member) = c.read_u16-asn.ensures ∙ ap (big_number 2) (take_rest member 2) in
    let number : c.read_u32.result ≡ big_number 4 (drop 4 member) = c.read_u32.ensures ∙ ap (big_number 4) (take_rest member 4) in
    Adds_as (of_two_octet_as c.args.name.now member c.in-0.is asn number) (Adds_trans c.put_text.ensures c.put_pair.ensures)

pub returns-in-1 : goal.returns-in-1
returns-in-1 g c =
    let member = c.args.member.now in
    let addr : c.read_u32-in-1.result ≡ big_number 4 (drop 2 member) = c.read_u32-in-1.ensures ∙ ap (big_number 4) (take_rest member 2) in
    let number : c.read_u16.result ≡ big_number 2 (drop 6 member) = c.read_u16.ensures ∙ ap (big_number 2) (take_rest member 6) in
    Adds_as (of_address c.args.name.now member c.in-1.is addr number) (Adds_trans c.put_text-in-1.ensures c.put_pair-in-1.ensures)

pub returns-in-2 : goal.returns-in-2
returns-in-2 g c =
    let member = c.args.member.now in
    let asn : c.read_u32-asn.result ≡ big_number 4 (drop 2 member) = c.read_u32-asn.ensures ∙ ap (big_number 4) (take_rest member 2) in
    let number : c.read_u16-in-2.result ≡ big_number 2 (drop 6 member) = c.read_u16-in-2.ensures ∙ ap (big_number 2) (take_rest member 6) in
    Adds_as (of_four_octet_as c.args.name.now member c.in-2.is asn number) (Adds_trans c.put_text-in-2.ensures c.put_pair-in-2.ensures)
