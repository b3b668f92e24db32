use Rattle.std.proofs.Common.{◌≡◌, List, length, map, ap, ◌∙◌, arith}
use Rattle.peer_units.specs.Plain.{Unit as ReplayUnit}
use Rattle.mrt_body.specs.RibDumps.{DumpsState, heard_peers}
use Rattle.mrt_body.specs.KnownPeers.{known_with, told_peers}
use Rattle.mrt_body.proofs.TellLaws.{few_told, few_kept, kept, noted, unit, units_kept}
use Rattle.mrt_body.proofs.units.record.tell.Goals as goal

pub returns-clause-waiting : goal.returns-clause-waiting
returns-clause-waiting g c =
    let selection = c.args.selection.now in
    let peers = told_peers selection.state_peers c.args.dumps.now.known c.args.change.ends in
    let told : c.in_ok-peers.peers.items ≡ peers = rw (c.state_peers-rule.ensures, c.known.ensures) at c.in_ok-peers.ensures.told in
    let selected : c.keep_selected.new.peers.items ≡ kept selection c.args.at c.args.change peers = rw (c.time.ensures, told) at c.keep_selected.ensures in
    let said : c.put_told.new.self ≡ map (unit selection c.args.at c.args.change) c.keep_selected.new.peers.items = rw (c.states.ensures, c.from_vec.ensures.items) at c.put_told.ensures in
    said ∙ ap (map (unit selection c.args.at c.args.change)) selected ∙ units_kept selection c.args.at c.args.change peers

pub returns-clause-dumps : goal.returns-clause-dumps
returns-clause-dumps g c =
    let selection = c.args.selection.now in
    let dumps = c.args.dumps.now in
    let peers = told_peers selection.state_peers dumps.known c.args.change.ends in
    let told : c.in_ok-peers.peers.items ≡ peers = rw (c.state_peers-rule.ensures, c.known.ensures) at c.in_ok-peers.ensures.told in
    let selected : c.keep_selected.new.peers.items ≡ kept selection c.args.at c.args.change peers = rw (c.time.ensures, told) at c.keep_selected.ensures in
    let known : c.know.new.self ≡ record dumps { known = known_with selection.state_peers dumps.known peers } = rw (c.state_peers-rule.ensures, c.as_slice.ensures.value, told) at c.in_ok-know.ensures in
    let heard : c.hear_all.new.self ≡ record c.know.new.self { heard = heard_peers selection.ribs c.know.new.self.heard (kept selection c.args.at c.args.change peers) } = rw (c.ribs.ensures, c.as_slice-2.ensures.value, selected) at c.in_ok-hear_all.ensures in
    heard
    ∙ ap (λ (d : DumpsState). record d { heard = heard_peers selection.ribs d.heard (kept selection c.args.at c.args.change peers) }) known
    ∙ noted selection c.args.at c.args.change dumps peers

pub returns-clause-few : goal.returns-clause-few
returns-clause-few g c =
    let selection = c.args.selection.now in
    let peers = told_peers selection.state_peers c.args.dumps.now.known c.args.change.ends in
    let told : c.in_ok-peers.peers.items ≡ peers = rw (c.state_peers-rule.ensures, c.known.ensures) at c.in_ok-peers.ensures.told in
    let selected : c.keep_selected.new.peers.items ≡ kept selection c.args.at c.args.change peers = rw (c.time.ensures, told) at c.keep_selected.ensures in
    let said : c.put_told.new.self ≡ map (unit selection c.args.at c.args.change) c.keep_selected.new.peers.items = rw (c.states.ensures, c.from_vec.ensures.items) at c.put_told.ensures in
    let same : length c.put_told.new.self ≡ length (map (unit selection c.args.at c.args.change) (kept selection c.args.at c.args.change peers)) = ap (λ (units : List ReplayUnit). length units) (said ∙ ap (map (unit selection c.args.at c.args.change)) selected) in
    omega (arith, same, few_kept selection c.args.at c.args.change peers (few_told selection.state_peers c.args.dumps.now.known c.args.change.ends))
