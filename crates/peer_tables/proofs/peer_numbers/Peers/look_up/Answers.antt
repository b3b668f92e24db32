use Rattle.std.proofs.Common.{sym, ◌∙◌}
use Rattle.peer_tables.proofs.PeerPositions.{none_listed, number_found}
use Rattle.peer_tables.proofs.peer_numbers.Peers.look_up.Goals as goal

pub returns-in-Some : goal.returns-in-Some
returns-in-Some c =
    rw (← c.self.view_is) (number_found _ _ _ c.self.invariant.0 ((c.self.invariant.1 c.args.peer.now c.in-Some.number).0 (sym c.get.ensures.value ∙ sym c.in-Some.ensures)))

pub returns-in-None : goal.returns-in-None
returns-in-None c = rw (← c.self.view_is) (none_listed _ _ c.args.peer.now c.self.invariant.1 (sym c.get.ensures.value ∙ sym c.in-None.ensures))
