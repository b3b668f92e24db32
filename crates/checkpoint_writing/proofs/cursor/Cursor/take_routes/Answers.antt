use Rattle.std.proofs.Common.{◌++◌, map, sym, ap, ◌∙◌, append-nil}
use Rattle.table_dumps.specs.Checkpoints.{prefix_route}
use Rattle.checkpoint_writing.specs.Merging.{Entries}
use Rattle.checkpoint_writing.proofs.HeadLaws.{none_begins}
use Rattle.checkpoint_writing.proofs.cursor.Cursor.take_routes.Goals as goal

pub returns-clause-taken : goal.returns-clause-taken
returns-clause-taken g c =
    let l = c.loop-id in
    let none = none_begins c.args.prefix.now l.self l.invariant.sorted l.invariant.least c.in_default.ensures.other in
    sym (append-nil l.routes.items) ∙ ap (λ (es : Entries). l.routes.items ++ map (prefix_route c.args.peer) es) (sym none.0) ∙ l.invariant.taken

pub returns-clause-left : goal.returns-clause-left
returns-clause-left g c =
    let l = c.loop-id in
    let none = none_begins c.args.prefix.now l.self l.invariant.sorted l.invariant.least c.in_default.ensures.other in
    c.in_default.ensures.same ∙ sym none.1 ∙ l.invariant.left
