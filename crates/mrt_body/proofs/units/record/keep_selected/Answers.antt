use Rattle.std.proofs.Common.{rules, ◌≡◌, [], Bool, cond, sym, ap, ◌∙◌}
use Rattle.std.proofs.lemmas.Fn.{filter_same}
use Rattle.std.specs.List.{filter}
use Rattle.peer_units.specs.Selections.{takes_peer}
use Rattle.mrt_body.proofs.units.record.keep_selected.Goals as goal

pub returns-else-is_past : goal.returns-else-is_past
returns-else-is_past g c =
    let kept : c.retain.new.self.items ≡ filter (takes_peer c.args.selection.now) c.args.peers.now.items = filter_same _ _ _ (λ x b f' k. search rules) _ _ c.retain.ensures.filtered in
    kept ∙ ap (λ (b : Bool). cond b [] (filter (takes_peer c.args.selection.now) c.args.peers.now.items)) (sym (sym c.is_past.ensures ∙ c.if-is_past.false))
