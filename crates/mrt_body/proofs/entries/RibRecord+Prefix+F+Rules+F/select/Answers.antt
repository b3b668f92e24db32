use Rattle.std.proofs.Common.{◌≡◌, true, false, sym, ap, ◌∙◌}
use Rattle.mrt_body.specs.Units.{time_of}
use Rattle.peer_units.specs.Selections.{takes_each_peer, takes_record}
use Rattle.mrt_body.proofs.TakeLaws.{some_selected, all_selected, none_selected, listed_kept}
use Rattle.mrt_body.proofs.entries.RibRecord+Prefix+F+Rules+F.select.Goals as goal

pub returns-then-not-takes_record-clause-kept : goal.returns-then-not-takes_record-clause-kept
returns-then-not-takes_record-clause-kept g c =
    let r = c.args.self.now in
    let out : takes_record c.args.selection.now (time_of r.at 0) r.prefix ≡ false = ap (λ t. takes_record c.args.selection.now t r.prefix) (sym c.time.ensures) ∙ sym c.if-not-takes_record.ensures in
    rw c.clear.ensures.items (none_selected c.args.selection.now c.args.peers.now c.args.list.now.items r c.requires.first out)

pub returns-then-not-takes_each_peer-clause-kept : goal.returns-then-not-takes_each_peer-clause-kept
returns-then-not-takes_each_peer-clause-kept g c =
    let r = c.args.self.now in
    let within : takes_record c.args.selection.now (time_of r.at 0) r.prefix ≡ true = ap (λ t. takes_record c.args.selection.now t r.prefix) (sym c.time.ensures) ∙ sym c.if-not-takes_record.ensures in
    rw c.keep_taken.ensures (some_selected c.args.selection.now c.args.peers.now c.args.list.now.items r c.requires.first within)

pub returns-then-not-takes_each_peer-clause-listed : goal.returns-then-not-takes_each_peer-clause-listed
returns-then-not-takes_each_peer-clause-listed g c =
    rw c.keep_taken.ensures (listed_kept c.args.selection.now c.args.peers.now c.args.list.now.items c.args.self.now c.requires.first c.requires.listed)

pub returns-else-not-takes_each_peer-clause-kept : goal.returns-else-not-takes_each_peer-clause-kept
returns-else-not-takes_each_peer-clause-kept g c =
    let r = c.args.self.now in
    let within : takes_record c.args.selection.now (time_of r.at 0) r.prefix ≡ true = ap (λ t. takes_record c.args.selection.now t r.prefix) (sym c.time.ensures) ∙ sym c.if-not-takes_record.ensures in
    let each : takes_each_peer c.args.selection.now ≡ true = sym c.if-not-takes_each_peer.ensures in
    all_selected c.args.selection.now c.args.peers.now c.args.list.now.items r c.requires.first within each
