use Rattle.std.proofs.lemmas.List.Elements.{All-set}
use Rattle.adj_rib.specs.Routes.{IsSlot}
use Rattle.adj_rib.proofs.RouteBlocks.{AreSlots-grown}
use Rattle.adj_rib.proofs.routes.Routes.add.Goals as goal

pub invariant_of-self : goal.invariant_of-self
invariant_of-self c = AreSlots-grown c.self.inside.bytes.items c.push_route.new.bytes.items c.self.inside.slots.items c.push_route.ensures.grows c.self.invariant

pub invariant_of-self-then-not-is_empty : goal.invariant_of-self-then-not-is_empty
invariant_of-self-then-not-is_empty c =
    let grown = AreSlots-grown c.self.inside.bytes.items c.push_route.new.bytes.items c.self.inside.slots.items c.push_route.ensures.grows c.self.invariant in
    All-set (IsSlot c.push_route.new.bytes.items) c.self.inside.slots.items c.vacancy-at.result (record { hash = c.args.hash; at = c.in_ok-id.id.at }) (λ some. c.in_ok-id.ensures.names.named) grown
