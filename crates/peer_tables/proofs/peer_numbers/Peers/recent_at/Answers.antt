use Rattle.std.proofs.Common.{slice_get, sym, ap, ◌∙◌}
use Rattle.peer_tables.proofs.PeerPositions.{number_found}
use Rattle.peer_tables.proofs.peer_numbers.Peers.recent_at.Goals as goal

pub returns-then-seen_at : goal.returns-then-seen_at
returns-then-seen_at c =
    let at = ap (λ l. slice_get l c.in_ok-number.field-0.now) (sym c.deref-2.ensures.value) ∙ c.seen_at.ensures c.if-seen_at.true in
    rw (← c.self.view_is) (number_found c.self.inside.keys.items c.args.peer.now _ c.self.invariant.0 at)
