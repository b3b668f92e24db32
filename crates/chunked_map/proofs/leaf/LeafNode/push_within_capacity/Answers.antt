use Rattle.std.proofs.Common.{◌≡◌, refl, length}
use Rattle.chunked_map.specs.ChunkedMaps.{ids_put}
use Rattle.chunked_map.proofs.LeafLaws.{push_is, push_kept}
use Rattle.chunked_map.proofs.leaf.LeafNode.push_within_capacity.Goals as goal

pub invariant_of-self-2 : goal.invariant_of-self-2
invariant_of-self-2 g c =
    let a = c.self.inside in
    let ids : c.push_id.new.ids.items ≡ ids_put (length a.keys.items) (length a.keys.items) c.args.key.now.id a.ids.items = c.if-not-push_id.ensures.pushed refl (length a.keys.items) c.self.invariant.ids in
    push_kept _ _ _ _ c.self.invariant c.self.view_is c.args.key.now.prefix c.args.key.now.id c.args.value c.push_reserved.new.self.items c.push_id.new.ids.items c.push_reserved-2.new.self.items c.push_reserved.ensures.items ids c.push_reserved-2.ensures.items

pub returns-clause-ok : goal.returns-clause-ok
returns-clause-ok g c =
    let a = c.self.inside in
    let ids : c.push_id.new.ids.items ≡ ids_put (length a.keys.items) (length a.keys.items) c.args.key.now.id a.ids.items = c.if-not-push_id.ensures.pushed refl (length a.keys.items) c.self.invariant.ids in
    push_is _ _ _ _ c.self.invariant c.self.view_is c.args.key.now.prefix c.args.key.now.id c.args.value c.push_reserved.new.self.items c.push_id.new.ids.items c.push_reserved-2.new.self.items c.push_reserved.ensures.items ids c.push_reserved-2.ensures.items
