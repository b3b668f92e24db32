use Rattle.std.proofs.Common.{◌≡◌, ℕ, length, sym, ap, ◌∙◌, arith}
use Rattle.std.specs.Net.Text.{longest_zero_run}
use Rattle.ip_text.proofs.FormatLaws.{Formats_trans, Formats_as, Formats_within}
use Rattle.ip_text.proofs.WrittenLaws.{length-groups_of, short_pieces, short_room}
use Rattle.ip_text.proofs.ipv6.format_ipv6_short.Goals as goal

pub returns : goal.returns
returns c =
    let groups = c.groups_of_address-groups.result in
    let found = c.longest-run.ensures in
    let run : ℕ × ℕ = (c.longest-run.result.start, c.longest-run.result.len) in
    let is : run ≡ longest_zero_run groups = λ i. (sym found.start i, sym found.len i) in
    let eight = ap length c.groups_of_address-groups.ensures ∙ length-groups_of 65536 8 c.args.addr in
    Formats_within (short_room groups run.0 run.1 eight found.within (omega arith))
    (Formats_as (short_pieces c.args.addr groups run c.groups_of_address-groups.ensures is (omega arith))
    (Formats_trans (Formats_trans c.format_groups-at.ensures c.format_text-at.ensures) c.format_groups-2.ensures))
