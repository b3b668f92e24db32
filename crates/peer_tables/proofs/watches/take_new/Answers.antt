use Rattle.std.proofs.Common.{[], ◌∷◌, ◌++◌, map, refl, sym, ap, ◌∙◌}
use Rattle.std.proofs.lemmas.List.{map-append}
use Rattle.peer_units.specs.declared.unit.PeerKey.{PeerKey}
use Rattle.adj_rib.specs.Histories.{chosen_notes, unit_notes, watch_of}
use Rattle.peer_tables.specs.Peers.{units_of_peer}
use Rattle.peer_tables.specs.declared.watches.Watched.{Watched}
use Rattle.peer_tables.specs.Watching.{keys_in, watch_in}
use Rattle.peer_tables.proofs.PeerPositions.{grown_by}
use Rattle.peer_tables.proofs.WatchLaws.{keys_push, new_stands, none_before, rows_after, unit_kept, unlisted}
use Rattle.peer_tables.proofs.watches.take_new.Goals as goal

pub returns-clause-numbered : goal.returns-clause-numbered
returns-clause-numbered g c =
    let see = watch_in {M = g.row.M.Denot} {A = g.row.F.Denot} in
    let q = c.args.unit.now.peer in
    let item : Watched g.row.M.Denot g.row.F.Denot = record { key = c.in_ok-key.key; watch = c.take.new.self } in
    ap (λ l. keys_in (map see l)) (c.push_reserved.ensures.items ∙ ap (λ l. l ++ item ∷ []) c.in_ok-reserve.ensures.items)
    ∙ keys_push see c.args.peers.now.items item q c.in_ok-key.ensures
    ∙ ap (λ l. l ++ q ∷ []) c.requires.numbered
    ∙ sym (grown_by _ _ q _ c.in_ok-add.ensures.numbers c.requires.new)

pub returns-clause-takes : goal.returns-clause-takes
returns-clause-takes g c =
    let see = watch_in {M = g.row.M.Denot} {A = g.row.F.Denot} in
    let listing = c.args.listing in
    let since = listing.since in
    let choices = c.args.chosen.now in
    let peers = c.args.peers.now.items in
    let u = c.args.unit.now in
    let new = unlisted (map see peers) _ u.peer c.requires.numbered c.requires.new in
    let item : Watched g.row.M.Denot g.row.F.Denot = record { key = c.in_ok-key.key; watch = c.take.new.self } in
    record {
      stands = λ before are.
          let fresh = c.new-watch.ensures since choices ∙ ap (watch_of since choices) (sym (none_before since choices before u (map see peers) are new)) in
          ap (map see) (c.push_reserved.ensures.items ∙ ap (λ l. l ++ item ∷ []) c.in_ok-reserve.ensures.items) ∙ map-append see peers (item ∷ [])
          ∙ ap (λ (k : PeerKey). map see peers ++ record { key = k; watch = c.take.new.self } ∷ []) c.in_ok-key.ensures
          ∙ new_stands since choices before u (map see peers) are c.take.new.self new (c.in_ok-take.ensures.stands (units_of_peer before u.peer) fresh);
      rows = λ before are so_far.
          let own = units_of_peer before u.peer in
          let fresh = c.new-watch.ensures since choices ∙ ap (watch_of since choices) (sym (none_before since choices before u (map see peers) are new)) in
          let notes = chosen_notes choices (unit_notes own u) in
          rows_after listing choices before u _ _ notes refl (unit_kept listing u _ _ notes c.in_ok-begin.ensures.unit (c.in_ok-take.ensures.notes own fresh)) (c.begin.ensures.listed ∙ so_far);
    }
