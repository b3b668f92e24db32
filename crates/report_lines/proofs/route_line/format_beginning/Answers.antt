use Rattle.std.proofs.Common.{[], ◌∷◌, ◌++◌, ap}
use Rattle.report_request.specs.Plain.{Layout}
use Rattle.report_lines.specs.RouteLines.{peer_text, key_text}
use Rattle.ip_text.proofs.FormatLaws.{Formats_trans, Formats_as}
use Rattle.report_lines.proofs.route_line.format_beginning.Goals as goal

pub returns : goal.returns
returns g c =
    let peer = c.args.peer.now in
    Formats_as (ap (λ (layout : Layout). (peer_text peer.layout peer.key ++ 124 ∷ []) ++ key_text layout c.args.key.now) c.layout.ensures)
    (Formats_trans c.format-at.ensures c.format.ensures)
