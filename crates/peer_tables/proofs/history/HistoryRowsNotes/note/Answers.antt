use Rattle.std.proofs.Common.{◌≡◌, [], ◌∷◌, ◌++◌, List, Option, map, sym, ap, ◌∙◌, subst, if◌then◌else◌}
use Rattle.std.specs.List.{All}
use Rattle.std.proofs.lemmas.List.{map-append}
use Rattle.std.proofs.lemmas.List.Elements.{All-push}
use Rattle.bgp_prefix.specs.Prefixes.{IpPrefix}
use Rattle.adj_rib.specs.Plain.{Note}
use Rattle.peer_tables.specs.declared.history.RowUnit.{RowUnit}
use Rattle.peer_tables.specs.declared.history.StoredRow.{StoredRow}
use Rattle.peer_tables.specs.Histories.{RowState, noted_row}
use Rattle.peer_tables.specs.Watching.{IsStored, RowsState, asked_row, keep_row, row_in}
use Rattle.peer_tables.proofs.StoredRows.{all_stored, same_rows}
use Rattle.peer_tables.proofs.history.HistoryRowsNotes.note.Goals as goal

pub invariant_of-self-in_err-push : goal.invariant_of-self-in_err-push
invariant_of-self-in_err-push g c =
    let block = c.stored_row.new.routes in
    let stored = all_stored c.self.inside.routes block c.stored_row.ensures.stays c.self.inside.rows.items c.self.invariant in
    subst (λ (rows : List (StoredRow IpPrefix)). All (IsStored block) rows) (sym c.in_err-push.ensures.items) stored

pub invariant_of-self-2 : goal.invariant_of-self-2
invariant_of-self-2 g c =
    let block = c.stored_row.new.routes in
    let rows = c.self.inside.rows.items in
    let stored = all_stored c.self.inside.routes block c.stored_row.ensures.stays rows c.self.invariant in
    subst (λ (l : List (StoredRow IpPrefix)). All (IsStored block) l) (sym c.in_ok-push.ensures.items) (All-push (IsStored block) rows c.in_ok-row.row stored c.in_ok-row.ensures.stored)

pub returns : goal.returns
returns g c =
    let before = c.self.inside.routes in
    let block = c.stored_row.new.routes in
    let rows = c.self.inside.rows.items in
    let unit = c.in-Some.unit in
    let note : Note = record { what = c.args.what; key = c.args.key.now; route = c.args.route.now; before = c.args._before.now } in
    let row : RowState = noted_row unit.time unit.peer unit.by note in
    let listed : map (row_in block) c.push.new.self.items ≡ map (row_in before) rows ++ row ∷ [] =
    ap (map (row_in block)) c.in_ok-push.ensures.items ∙ map-append (row_in block) rows (c.in_ok-row.row ∷ [])
    ∙ (λ i. same_rows before block c.stored_row.ensures.stays rows c.self.invariant i ++ c.in_ok-row.ensures.row i ∷ []) in
    let asked : asked_row c.self.inside.unit note ≡ row ∷ [] =
    ap (λ (u : Option RowUnit). asked_row u note) c.in-Some.is ∙ ap (λ b. if b then row ∷ [] else []) (sym c.is_asked.ensures ∙ c.if-not-is_asked.false) in
    (λ i. record { listed = listed i; unit = c.self.inside.unit })
    ∙ (λ i. record { listed = map (row_in before) rows ++ sym asked i; unit = c.self.inside.unit })
    ∙ ap (λ (s : RowsState). keep_row s note) c.self.view_is
