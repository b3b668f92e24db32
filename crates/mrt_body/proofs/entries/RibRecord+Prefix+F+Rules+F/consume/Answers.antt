use Rattle.std.proofs.Common.{◌≡◌, ◌+◌, map, drop, length, sym, ap, ◌∙◌}
use Rattle.std.specs.Prelude.{min}
use Rattle.std.proofs.lemmas.List.{drop-drop, drop-map, drop_min, length-drop}
use Rattle.mrt_body.specs.Pending.{listed_unit}
use Rattle.mrt_body.proofs.entries.RibRecord+Prefix+F+Rules+F.consume.Goals as goal

pub returns-clause-consumes : goal.returns-clause-consumes
returns-clause-consumes g c =
    let r = c.args.self.now in
    let list = c.args.list.now in
    let unit_at = listed_unit r.rules r.at c.args.peers.now r.prefix r.body in
    let least : drop (r.given + c.min.result) list ≡ drop (min c.args.count (length (drop r.given list))) (drop r.given list) =
    sym (drop-drop (min c.args.count (length (drop r.given list))) r.given list ∙ ap (λ n. drop (r.given + n) list) (ap (λ n. min c.args.count n) (length-drop r.given list) ∙ sym c.min.ensures)) in
    ap (map unit_at) (least ∙ drop_min c.args.count (drop r.given list)) ∙ sym (drop-map unit_at c.args.count (drop r.given list))
