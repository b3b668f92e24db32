use Rattle.std.proofs.Common.{◌≡◌, ◌∙◌, ◌<◌, length, ap, sym, subst, drop, List, ℕ}
use Rattle.std.specs.Prelude.{◌≢◌}
use Rattle.std.proofs.lemmas.Bool.{ltb-true}
use Rattle.adj_rib.specs.declared.routes.IndexSlot.{IndexSlot}
use Rattle.bgp_update.specs.Packing.{unpacked}
use Rattle.adj_rib.specs.Routes.{front_of, route_at, IsNamed, AreSlots}
use Rattle.adj_rib.proofs.RouteBlocks.{slot_named}
use Rattle.adj_rib.proofs.routes.Routes.find.Goals as goal

pub returns-then-are_equal : goal.returns-then-are_equal
unfolding route_at
returns-then-are_equal c =
    let bytes : List ℕ = c.self.inside.bytes.items in
    let same : c.bytes_at.result.now ≡ c.args.route.now = c.are_equal.ensures.0 c.if-are_equal.true in
    let front : front_of (drop c.in-Some.slot.now.at bytes) ≡ c.args.route.now = ap (λ (b : List ℕ). front_of (drop c.in-Some.slot.now.at b)) (sym c.as_slice-then-slot-hash.ensures.value) ∙ sym c.bytes_at.ensures ∙ same in
    let slots : List IndexSlot = c.as_slice-in-loop-at.result.now in
    let lt : c.loop-at.at < length slots = ltb-true c.loop-at.at (length slots) (sym c.in-Some.ensures.lookup.0) in
    let held : AreSlots bytes slots = subst (AreSlots bytes) (sym c.as_slice-in-loop-at.ensures.value) c.self.invariant in
    let some : c.in-Some.slot.now.at ≢ 0 = c.if-slot-eq0.false in
    let named : IsNamed bytes c.in-Some.slot.now.at = slot_named bytes slots c.loop-at.at c.in-Some.slot.now held lt c.in-Some.ensures.lookup.1 some in
    record { named = subst (λ (b : List ℕ). IsNamed b c.in-Some.slot.now.at) c.self.view_is named; is = ap (λ (b : List ℕ). route_at b c.in-Some.slot.now.at) (sym c.self.view_is) ∙ ap unpacked front }
