use Rattle.std.proofs.Common.{◌≡◌, ◌<◌, List, [], length, sym, ap, ◌∙◌, arith}
use Rattle.peer_units.specs.declared.unit.PeerKey.{PeerKey}
use Rattle.mrt_body.specs.KnownPeers.{is_meant}
use Rattle.mrt_body.proofs.KnownLaws.{found_and_left, one_found}
use Rattle.mrt_body.proofs.known_peers.known_peers.Goals as goal

pub loop-peer-init : goal.loop-peer-init
loop-peer-init c =
    let test = is_meant c.args.meant in
    let all : c.into_iter-peer-iterator.result ≡ c.args.known.now.keys = c.into_iter-peer-iterator.ensures.into_iter_gives ∙ c.iter-peer-items.ensures.rest in
    ap (λ (found : List PeerKey). found_and_left test found c.into_iter-peer-iterator.result) c.new-told.ensures.items
    ∙ ap (found_and_left test []) all

pub loop-peer-preserved-in-Continue-1 : goal.loop-peer-preserved-in-Continue-1
loop-peer-preserved-in-Continue-1 c =
    let test = is_meant c.args.meant in
    let left = rw c.in-Some.is at c.next.ensures.steps in
    let few : length c.loop-peer.told.items < 65535 = omega (arith, c.if-len-ge-MOST_TOLD.false, c.len.ensures) in
    ap (λ (found : List PeerKey). found_and_left test found c.next.new.self) c.in_ok-push.ensures.items
    ∙ sym (one_found test c.loop-peer.told.items c.in-Some.peer.now c.next.new.self (sym c.takes.ensures ∙ c.if-takes.true) few)
    ∙ ap (found_and_left test c.loop-peer.told.items) (sym left)
    ∙ c.loop-peer.invariant
