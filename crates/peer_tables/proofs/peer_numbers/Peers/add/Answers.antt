use Rattle.std.proofs.Common.{ap, ◌∙◌, ◌++◌, ◌∷◌, [], arith}
use Rattle.std.specs.List.{list_any}
use Rattle.peer_tables.specs.Peers.{peer_eq}
use Rattle.peer_tables.proofs.PeerPositions.{number_new, apart_new, listed_new}
use Rattle.peer_tables.proofs.peer_numbers.Peers.add.Goals as goal

pub returns-clause-numbers : goal.returns-clause-numbers
returns-clause-numbers c =
    let new = ap (list_any (peer_eq c.args.peer.now)) c.self.view_is ∙ c.requires in
    rw (← c.self.view_is) (number_new c.self.inside.keys.items _ c.args.peer.now c.len-number.result new (c.push_reserved.ensures.items ∙ ap (λ l. l ++ c.args.peer.now ∷ []) c.in_ok-reserve.ensures.items) (omega arith))

pub invariant_of-self-2 : goal.invariant_of-self-2
invariant_of-self-2 c =
    let new = ap (list_any (peer_eq c.args.peer.now)) c.self.view_is ∙ c.requires in
    let grown = c.push_reserved.ensures.items ∙ ap (λ l. l ++ c.args.peer.now ∷ []) c.in_ok-reserve.ensures.items in (
      apart_new c.self.inside.keys.items _ c.args.peer.now c.self.invariant.0 new grown,
      listed_new c.self.inside.keys.items _ c.args.peer.now c.len-number.result (omega arith) _ _ c.self.invariant.1 new c.in_ok-insert.ensures.updates.0 grown,
    )
