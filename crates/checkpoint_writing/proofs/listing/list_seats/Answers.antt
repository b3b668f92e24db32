use Rattle.std.proofs.Common.{◌++◌, ◌∷◌, [], List, map, sym, ap, ◌∙◌}
use Rattle.std.specs.List.{flat_map}
use Rattle.bgp_prefix.specs.Keys.{RouteKey}
use Rattle.peer_units.specs.declared.unit.PeerKey.{PeerKey}
use Rattle.peer_tables.specs.Seats.{seat_of}
use Rattle.checkpoint_writing.specs.Leaving.{kept_entries, left_entries}
use Rattle.checkpoint_writing.proofs.DumpLaws.{take_all}
use Rattle.checkpoint_writing.proofs.LeavingLaws.{map_next, flat_next}
use Rattle.checkpoint_writing.proofs.listing.list_seats.Goals as goal

pub loop-seat-preserved : goal.loop-seat-preserved
loop-seat-preserved g c =
    let family = g.F.Unicast.family in
    let l = c.loop-seat in
    record {
      merge = c.in_ok-add.ensures.merge;
      lists =
          c.in_ok-add.ensures.lists
          ∙ (λ i. l.invariant.lists i ++ c.in_ok-list_seat.ensures.entries i ∷ [])
          ∙ sym (map_next c.args.seats.now (λ s. kept_entries family (seat_of s).session.table) l.seat-index c.seat-item.result c.loop-seat-test.true c.seat-item.is);
      left =
          c.in_ok-list_seat.ensures.left
          ∙ ap (λ (ls : List (PeerKey × RouteKey)). ls ++ left_entries family (seat_of c.seat-item.result)) l.invariant.left
          ∙ sym (flat_next c.args.seats.now (λ s. left_entries family (seat_of s)) l.seat-index c.seat-item.result c.args.left.now.items c.loop-seat-test.true c.seat-item.is);
    }

pub returns-clause-lists : goal.returns-clause-lists
returns-clause-lists g c =
    c.loop-seat.invariant.lists ∙ ap (map (λ s. kept_entries g.F.Unicast.family (seat_of s).session.table)) (take_all c.args.seats.now c.loop-seat.seat-index c.loop-seat-test.false)

pub returns-clause-left : goal.returns-clause-left
returns-clause-left g c =
    c.loop-seat.invariant.left ∙ ap (λ ss. c.args.left.now.items ++ flat_map (λ s. left_entries g.F.Unicast.family (seat_of s)) ss) (take_all c.args.seats.now c.loop-seat.seat-index c.loop-seat-test.false)
