use Rattle.std.proofs.Common.{◌≡◌, ◌∙◌, ap, arith, length}
use Rattle.std.specs.List.{insert}
use Rattle.chunked_map.specs.ChunkedMaps.{ids_put}
use Rattle.chunked_map.proofs.LeafLaws.{sized, put_is}
use Rattle.chunked_map.proofs.leaf.Leaf.put_at.Goals as goal

pub put_id-requires-clause-within : goal.put_id-requires-clause-within
put_id-requires-clause-within g c = omega (arith, c.requires, c.len.ensures, ap length c.make_room.ensures.items, sized _ _ _ _ c.self.invariant c.self.view_is)

pub put-requires-clause-within : goal.put-requires-clause-within
put-requires-clause-within g c = omega (arith, c.requires, ap length c.make_room.ensures.items, sized _ _ _ _ c.self.invariant c.self.view_is)

pub put-requires-2-clause-within : goal.put-requires-2-clause-within
put-requires-2-clause-within g c = omega (arith, c.requires, ap length c.make_room-2.ensures.items, c.self.invariant.values, sized _ _ _ _ c.self.invariant c.self.view_is)

pub returns : goal.returns
returns g c =
    let a = c.self.inside in
    let n : c.len.result ≡ length a.keys.items = omega (arith, c.len.ensures, ap length c.make_room.ensures.items) in
    put_is _ _ _ _ c.self.invariant c.self.view_is c.args.at c.args.key.now.prefix c.args.key.now.id c.args.value c.put.new.items.items c.put_id.new.ids.items c.put-2.new.items.items c.requires
    (c.put.ensures ∙ ap (λ t. insert t c.args.at c.args.key.now.prefix) c.make_room.ensures.items)
    (c.in_ok-put_id.ensures.ok ∙ ap (λ m. ids_put m c.args.at c.args.key.now.id a.ids.items) n)
    (c.put-2.ensures ∙ ap (λ t. insert t c.args.at c.args.value) c.make_room-2.ensures.items)
