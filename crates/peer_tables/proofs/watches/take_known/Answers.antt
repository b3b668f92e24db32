use Rattle.std.proofs.Common.{◌≡◌, refl, ◌<◌, length, map, set, get_or, sym, ap, ◌∙◌, arith}
use Rattle.std.proofs.lemmas.List.{length-map, get_or-map, map-set}
use Rattle.peer_units.specs.declared.unit.PeerKey.{PeerKey}
use Rattle.adj_rib.specs.Histories.{chosen_notes, unit_notes}
use Rattle.peer_tables.specs.Histories.{PeerWatch}
use Rattle.peer_tables.specs.Peers.{units_of_peer}
use Rattle.peer_tables.specs.Watching.{watch_in}
use Rattle.peer_tables.proofs.WatchLaws.{watch_there, keys_set, known_stands, within_keys, key_there, rows_after, unit_kept}
use Rattle.peer_tables.proofs.watches.take_known.Goals as goal

pub begin-requires : goal.begin-requires
begin-requires g c =
    let see = watch_in {M = g.row.M.Denot} {A = g.row.F.Denot} in
    let peers = c.args.peers.now.items in
    let at = c.args.at in
    let u = c.args.unit.now in
    let r = c.index_mut-watched.result.now in
    let within : at < length peers = omega (arith, within_keys (map see peers) at u.peer c.requires.peer, length-map peers see) in
    let here : get_or (map see peers) at (see r) ≡ see r = get_or-map see peers at r (see r) within ∙ ap see (sym c.index_mut-watched.ensures.value) in
    sym (ap (λ (p : PeerWatch). p.key) here) ∙ key_there (map see peers) at u.peer (see r) c.requires.peer

pub returns-clause-takes : goal.returns-clause-takes
returns-clause-takes g c =
    let see = watch_in {M = g.row.M.Denot} {A = g.row.F.Denot} in
    let choices = c.args.chosen.now in
    let listing = c.args.listing in
    let peers = c.args.peers.now.items in
    let at = c.args.at in
    let u = c.args.unit.now in
    let r = c.index_mut-watched.result.now in
    let w = c.take.new.self in
    let within : at < length peers = omega (arith, within_keys (map see peers) at u.peer c.requires.peer, length-map peers see) in
    let here : get_or (map see peers) at (see r) ≡ see r = get_or-map see peers at r (see r) within ∙ ap see (sym c.index_mut-watched.ensures.value) in
    let key = sym (ap (λ (p : PeerWatch). p.key) here) ∙ key_there (map see peers) at u.peer (see r) c.requires.peer in
    record {
      stands = λ before are.
          let stood = sym (ap (λ (p : PeerWatch). p.watch) here) ∙ watch_there listing.since choices before u (map see peers) are at (see r) c.requires.peer in
          map-set see peers at _
          ∙ ap (λ (k : PeerKey). set (map see peers) at (record { key = k; watch = w })) key
          ∙ known_stands listing.since choices before u (map see peers) are at w c.requires.peer (c.in_ok-take.ensures.stands (units_of_peer before u.peer) stood);
      rows = λ before are so_far.
          let own = units_of_peer before u.peer in
          let stood = sym (ap (λ (p : PeerWatch). p.watch) here) ∙ watch_there listing.since choices before u (map see peers) are at (see r) c.requires.peer in
          let notes = chosen_notes choices (unit_notes own u) in
          rows_after listing choices before u _ _ notes refl (unit_kept listing u _ _ notes c.in_ok-begin.ensures.unit (c.in_ok-take.ensures.notes own stood)) (c.begin.ensures.listed ∙ so_far);
    }

pub returns-clause-keys : goal.returns-clause-keys
returns-clause-keys g c =
    let see = watch_in {M = g.row.M.Denot} {A = g.row.F.Denot} in
    keys_set see c.args.peers.now.items c.args.at c.index_mut-watched.result.now _ (ap (λ w. (see w).key) c.index_mut-watched.ensures.value)

pub returns-in_err-take-clause-keys : goal.returns-in_err-take-clause-keys
returns-in_err-take-clause-keys g c =
    let see = watch_in {M = g.row.M.Denot} {A = g.row.F.Denot} in
    keys_set see c.args.peers.now.items c.args.at c.index_mut-watched.result.now _ (ap (λ w. (see w).key) c.index_mut-watched.ensures.value)
