use Rattle.std.proofs.Common.{◌∙◌, ap, map, ◌++◌}
use Rattle.std.proofs.lemmas.List.{take_all}
use Rattle.prefix_maps.proofs.ListedLaws.{entries_now-map}
use Rattle.prefix_maps.proofs.flat.Flat.append_to.Goals as goal

pub returns-clause-entries : goal.returns-clause-entries
returns-clause-entries g c =
    let whole = take_all c.loop-item.item-index c.deref-item-items.result.now c.loop-item-test.false ∙ c.deref-item-items.ensures.value ∙ c.self.view_is in
    rw (entries_now-map c.loop-item.all.items, entries_now-map c.args.all.now.items) (c.loop-item.invariant.listed ∙ ap (λ t. map (λ e. (e.0, e.1.now)) c.args.all.now.items ++ t) whole)
