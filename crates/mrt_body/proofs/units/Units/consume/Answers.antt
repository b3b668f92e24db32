use Rattle.std.proofs.Common.{List, Option, ◌++◌, ◌-◌, take, drop, length, sym, ap, subst, ◌∙◌}
use Rattle.std.proofs.lemmas.List.{take-append-drop}
use Rattle.mrt_body.specs.ToCome.{UnitsState, GivesPending, index_peers, index_pending}
use Rattle.peer_units.specs.declared.unit.PeerKey.{PeerKey}
use Rattle.mrt_body.proofs.WaitingLaws.{drop_both}
use Rattle.mrt_body.proofs.units.Units.consume.Goals as goal

pub returns : goal.returns
returns g c =
    let waiting = c.self.inside.waiting in
    let entries = index_pending c.self.inside.index in
    let n = c.args.count in
    let left = ap (λ m. drop m entries) (sym c.consume_waiting-left.ensures.left) ∙ sym c.consume_entries.ensures.entries in
    let parts = sym (take-append-drop n (waiting ++ entries))
    ∙ ap (λ l. take n (waiting ++ entries) ++ l)
    (drop_both n waiting entries ∙ ap (λ l. l ++ drop (n - length waiting) entries) (sym c.consume_waiting-left.ensures.waiting) ∙ ap (λ l. c.consume_waiting-left.new.waiting ++ l) left) in
    let i = c.self.inside in
    let pending = c.consume_waiting-left.new.waiting ++ index_pending c.consume_entries.new.index in
    let with_index : Option (List PeerKey) → UnitsState = λ index. record { count = i.count; file = i.file; frames = i.frames; selection = i.selection; index = index; dumps = i.dumps; pending = pending; max_records = i.max_records; records = i.records; aside = i.aside; state = i.state } in
    record { consumes = subst (λ (u : UnitsState). GivesPending u (with_index (index_peers c.consume_entries.new.index)) (take n u.pending)) c.self.view_is (ap with_index c.consume_entries.ensures.peers, parts) }
